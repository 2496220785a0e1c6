-- Runs over rows, as a relation and as a function; and that only the sorts of rows matter to them.
use Prim.Native.Nat.{ℕ}
use mathlib.Core.Path.{◌≡◌, refl, ap, ◌∙◌}
use mathlib.Core.List.{List, [], ◌∷◌, map}
use native.Mathlib.Omega.{arith}
use lib.ListN.{length}
use Rattle.rules.specs.Data.{RowOf, attribute, pointer, opened, closed, an_integer, a_real, a_moment, a_text, a_symbol, a_unit, sequence, sequence_end, set, set_end, last}
use Rattle.rules.specs.Proper.{aside}
use Rattle.rules.proofs.Machine.Rows.{sort, Await, Kinds, To, to_none, to, sort_step, RowRun, row_here, row_by, carried, row_run}

pub none_to : {t : Await} {o : Kinds} → to_none ≡ to t o → ⊥
none_to {t} {o} e = let w : ◌≡◌ {A = ℕ} 0 1 = cc in omega arith

pub to_same : {t t' : Await} {o o' : Kinds} → to t o ≡ to t' o' → (t ≡ t') × (o ≡ o')
to_same e = (cc, cc)

-- spans do not matter
pub sort_aside : {S L M : Type 0} (r : RowOf S L M) → sort (aside r) ≡ sort r
sort_aside (attribute p) = refl
sort_aside (pointer p) = refl
sort_aside (opened k p) = refl
sort_aside (closed k) = refl
sort_aside (an_integer w) = refl
sort_aside (a_real x) = refl
sort_aside (a_moment t) = refl
sort_aside (a_text p) = refl
sort_aside (a_symbol p) = refl
sort_aside (a_unit op p w) = refl
sort_aside sequence = refl
sort_aside sequence_end = refl
sort_aside set = refl
sort_aside set_end = refl
sort_aside (last n) = refl

module _ {S L M : Type 0} where
  pub run→function : {t t' : Await} {o o' : Kinds} {rs : List (RowOf S L M)} → RowRun t o rs t' o' → row_run t o rs ≡ to t' o'
  run→function row_here = refl
  run→function (row_by {rs = rs} e a) = ap (λ (n : To). carried n (λ t' o'. row_run t' o' rs)) e ∙ run→function a

-- rows of the same sorts have the same runs
pub sorted_run : {S L M S' L' M' : Type 0} {t t' : Await} {o o' : Kinds} {rs : List (RowOf S L M)} (rs' : List (RowOf S' L' M')) → map sort rs ≡ map sort rs' → RowRun t o rs t' o' → RowRun t o rs' t' o'
sorted_run [] e row_here = row_here
sorted_run (r' ∷ rs') e row_here = absurd (omega (arith, ap length e))
sorted_run [] e (row_by f a) = absurd (omega (arith, ap length e))
sorted_run (r' ∷ rs') e (row_by {t = t} {o = o} {r = r} {rs = rs} f a) =
    let h : sort r' ≡ sort r = cc in
    let l : map sort rs ≡ map sort rs' = cc in
    row_by (ap (sort_step t o) h ∙ f) (sorted_run rs' l a)
