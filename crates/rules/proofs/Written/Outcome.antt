-- Every label and table have an outcome of writing, and one only.
use Prim.Native.Nat.{ℕ, ◌≤◌, ◌<◌}
use native.Mathlib.Omega.{arith}
use mathlib.Core.Bool.{cond}
use mathlib.Core.Path.{◌≡◌, refl, sym, ap, subst, ◌∙◌}
use mathlib.Core.List.{List}
use borrow.Author.Tests.{leb-true, leb-false}
use lib.Dec.{leb}
use lib.ListN.{length}
use Rattle.rules.specs.Data.{Row}
use Rattle.rules.specs.Reading.{longest, Said, says, filled}
use Rattle.rules.specs.Proper.{Verdict, proper_rows, improper_at, Ruled}
use Rattle.rules.specs.Meaning.{meaning}
use Rattle.rules.specs.Written.{canonical}
use Rattle.rules.specs.Writing.{Writes, long_label, no_table, long_written, short_room, stored}
use Rattle.rules.proofs.Machine.Returns.{Return, returns}
use Rattle.rules.proofs.Tables.Tests.{cond-case}
use Rattle.rules.proofs.Machine.Verdicts.{on_verdict, judge_table}
use Rattle.rules.proofs.Tables.Judge.{same_rows, not_both, verdict_sound, verdict_once}

-- of a canonical label, by its length and the room's
abbrev pub written_into : List ℕ → List ℕ → Return
written_into room c =
    cond (leb (length c) longest) (cond (leb (length c) (length room)) (returns (says 0 (length c) (length c)) (filled c room)) (returns (says 11 (length c) (length c)) room)) (returns (says 13 longest 0) room)

-- the outcome, as a function
unfoldable pub written_of : List ℕ → List ℕ → List ℕ → Return
written_of label lent room =
    cond (leb (length label) longest)
    (on_verdict (judge_table label lent) (λ at. returns (says 12 at 0) room) (λ rows. written_into room (canonical (meaning label rows))))
    (returns (says 1 longest 0) room)

-- one place of code 12
pub same_place : {i j : ℕ} → improper_at i ≡ improper_at j → i ≡ j
same_place e = cc

module _ (label lent room : List ℕ) where
  -- where the table is proper, its canonical label decides
  data Decided (c : List ℕ) : Said → List ℕ → Type 0 where
    too_long : longest < length c → Decided c (says 13 longest 0) room
    no_room : length c ≤ longest → length room < length c → Decided c (says 11 (length c) (length c)) room
    written : length c ≤ longest → length c ≤ length room → Decided c (says 0 (length c) (length c)) (filled c room)

  decided_once : {c : List ℕ} {s s' : Said} {r r' : List ℕ} → Decided c s r → Decided c s' r' → (s ≡ s') × (r ≡ r')
  decided_once (too_long a) (too_long b) = (refl, refl)
  decided_once (too_long a) (no_room b d) = absurd (omega arith)
  decided_once (too_long a) (written b d) = absurd (omega arith)
  decided_once (no_room a d) (too_long b) = absurd (omega arith)
  decided_once (no_room a d) (no_room b e) = (refl, refl)
  decided_once (no_room a d) (written b e) = absurd (omega arith)
  decided_once (written a d) (too_long b) = absurd (omega arith)
  decided_once (written a d) (no_room b e) = absurd (omega arith)
  decided_once (written a d) (written b e) = (refl, refl)

  -- an outcome by the three questions: the label's length, the verdict on the table, the canonical label
  data Asked (s : Said) (r : List ℕ) : Type 0 where
    label_long : longest < length label → s ≡ says 1 longest 0 → r ≡ room → Asked s r
    table_bad : (at : ℕ) → length label ≤ longest → Ruled label lent (improper_at at) → s ≡ says 12 at 0 → r ≡ room → Asked s r
    table_good : (rows : List Row) → length label ≤ longest → Ruled label lent (proper_rows rows) → Decided (canonical (meaning label rows)) s r → Asked s r

  asked : {s : Said} {r : List ℕ} → Writes label lent room s r → Asked s r
  asked (long_label h) = label_long h refl refl
  asked (no_table {at} h v) = table_bad at h v refl refl
  asked (long_written {rows} h v a) = table_good rows h v (too_long a)
  asked (short_room {rows} h v a b) = table_good rows h v (no_room a b)
  asked (stored {rows} h v a b) = table_good rows h v (written a b)

  both : {s s' : Said} {r r' : List ℕ} → Asked s r → Asked s' r' → (s ≡ s') × (r ≡ r')
  both (label_long h e f) (label_long k g i) = (e ∙ sym g, f ∙ sym i)
  both (label_long h e f) (table_bad at k v g i) = absurd (omega arith)
  both (label_long h e f) (table_good rows k v d) = absurd (omega arith)
  both (table_bad at h v e f) (label_long k g i) = absurd (omega arith)
  both (table_bad at h v e f) (table_bad at' k u g i) =
      let p : at ≡ at' = same_place (verdict_once label h lent v u) in
      (e ∙ ap (λ (n : ℕ). says 12 n 0) p ∙ sym g, f ∙ sym i)
  both (table_bad at h v e f) (table_good rows k u d) = absurd (not_both (verdict_once label h lent u v))
  both (table_good rows h v d) (label_long k g i) = absurd (omega arith)
  both (table_good rows h v d) (table_bad at k u g i) = absurd (not_both (verdict_once label h lent v u))
  both {s} {s'} {r} {r'} (table_good rows h v d) (table_good rows' k u x) =
      decided_once d (subst (λ (q : List Row). Decided (canonical (meaning label q)) s' r') (sym (same_rows (verdict_once label h lent v u))) x)

  -- no second outcome
  pub writes_once : {s s' : Said} {r r' : List ℕ} → Writes label lent room s r → Writes label lent room s' r' → (s ≡ s') × (r ≡ r')
  writes_once w w' = both (asked w) (asked w')

  abbrev Gives : Return → Type 0
  Gives o = Writes label lent room o.said o.room

  -- what the function gives is one
  pub writes_there : Gives (written_of label lent room)
  unfolding written_of
  writes_there =
      cond-case Gives (leb (length label) longest) _ _
      (λ h. let short = leb-true (length label) longest h in by_verdict short (judge_table label lent) (verdict_sound label short lent))
      (λ h. long_label (leb-false (length label) longest h))
    where
      by_verdict : length label ≤ longest → (v : Verdict) → Ruled label lent v → Gives (on_verdict v (λ at. returns (says 12 at 0) room) (λ rows. written_into room (canonical (meaning label rows))))
      by_verdict h (improper_at at) v = no_table h v
      by_verdict h (proper_rows rows) v =
          let c : List ℕ = canonical (meaning label rows) in
          cond-case Gives (leb (length c) longest) _ _
          (λ a.
          cond-case Gives (leb (length c) (length room)) _ _ (λ b. stored h v (leb-true (length c) longest a) (leb-true (length c) (length room) b))
          (λ b. short_room h v (leb-true (length c) longest a) (leb-false (length c) (length room) b)))
          (λ a. long_written h v (leb-false (length c) longest a))

  -- so there always is one
  pub writes_some : (s : Said) × (r : List ℕ) × Writes label lent room s r
  writes_some = (_, _, writes_there)
