-- The written label grows row by row, and so does its length.
use Prim.Native.Nat.{ℕ, ◌+◌}
use mathlib.Core.Path.{◌≡◌, refl, sym, ap, ◌∙◌}
use mathlib.Core.List.{List, [], ◌∷◌, ◌++◌, append_assoc, append-nil}
use lib.ListN.{length, length-append}
use Rattle.rules.specs.Data.{Opens, outside}
use Rattle.rules.specs.Meaning.{Sense}
use Rattle.rules.specs.Written.{Prior, start, prior, after, writes, writes_all, canonical}
use Rattle.rules.proofs.Machine.Lines.{leaves, open_after, so_far}

writes_append : (q : Prior) (o : Opens) (rs qs : List Sense) → writes_all q o (rs ++ qs) ≡ writes_all q o rs ++ writes_all (leaves q rs) (open_after o rs) qs
writes_append q o [] qs = refl
writes_append q o (r ∷ rs) qs =
    ap (λ (l : List ℕ). writes q o r ++ l) (writes_append (prior r) (after o r) rs qs)
    ∙ sym (append_assoc (writes q o r) (writes_all (prior r) (after o r) rs) (writes_all (leaves (prior r) rs) (open_after (after o r) rs) qs))

-- one row more
pub row_more : (rs : List Sense) (r : Sense) → so_far (rs ++ (r ∷ [])) ≡ so_far rs ++ writes (leaves start rs) (open_after outside rs) r
row_more rs r =
    writes_append start outside rs (r ∷ []) ∙ ap (λ (l : List ℕ). so_far rs ++ l) (append-nil (writes (leaves start rs) (open_after outside rs) r))

pub size_more : (rs : List Sense) (r : Sense) → length (so_far (rs ++ (r ∷ []))) ≡ length (so_far rs) + length (writes (leaves start rs) (open_after outside rs) r)
size_more rs r = ap length (row_more rs r) ∙ length-append (so_far rs) (writes (leaves start rs) (open_after outside rs) r)

-- all rows, and the last line's end
pub all_written : (m : List Sense) → canonical m ≡ so_far m ++ (13 ∷ 10 ∷ [])
all_written m = refl
