-- No second outcome meets the contracts of this crate: the blocks after a row and the verdict on a table are decided by what is given.
use Prim.Native.Nat.{ℕ, ◌≤◌}
use mathlib.Core.Path.{◌≡◌, refl, sym, ap, ◌∙◌}
use mathlib.Core.List.{List}
use lib.ListN.{length}
use Rattle.rules.specs.Reading.{longest}
use Rattle.rules.specs.Proper.{Verdict, proper_rows, improper_at, Ruled}
use Rattle.rules.proofs.Tables.Judge.{not_both, verdict_once}
use Rattle.rules.proofs.Written.Outcome.{same_place}
use Rattle.blocks.specs.declared.Blocks.{Blocks}
use Rattle.table.specs.Ordering.{Nesting}
use Rattle.table.specs.Judging.{Judges, proper, improper, said, verdict_said}
use Rattle.std.specs.Prelude.{Result, Err}
use Rattle.table.specs.declared.Improper.{Improper}

-- ---- blocks

pub nested_once : {n : ℕ} {b r r' : Blocks} → Nesting n b r → Nesting n b r' → r ≡ r'
nested_once x y = x.on ∙ sym y.on

-- ---- the verdict

pub check_once : {label lent : List ℕ} {c c' : Result (Unit {0}) Improper} → length label ≤ longest → Judges label lent c → Judges label lent c' → c ≡ c'
check_once l (proper rs v) (proper qs w) = refl
check_once {label} {lent} l (proper rs v) (improper w) = absurd (not_both (verdict_once label l lent v w))
check_once {label} {lent} l (improper v) (proper rs w) = absurd (not_both (verdict_once label l lent w v))
check_once {label} {lent} l (improper v) (improper w) = ap (λ (i : ℕ). Err (record { 0 = i })) (same_place (verdict_once label l lent v w))

-- code and place are those of the rules' verdict
pub check_said : {label lent : List ℕ} {c : Result (Unit {0}) Improper} → Judges label lent c → (v : Verdict) × Ruled label lent v × (said c ≡ verdict_said v)
check_said (proper rs v) = (proper_rows rs, v, refl)
check_said (improper {e} v) = (improper_at e.0, v, refl)
