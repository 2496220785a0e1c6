-- The verdict on a table: its rows one by one, each decoded, tested and in order, until the end or the place of code 12.
use Prim.Native.Nat.{ℕ, zero, suc}
use mathlib.Core.Bool.{cond, ◌&&◌}
use mathlib.Core.List.{List, [], ◌∷◌, ◌++◌}
use lib.ListN.{length}
use Rattle.rules.specs.Data.{Row}
use Rattle.rules.specs.Table.{table}
use Rattle.rules.specs.Proper.{Verdict, proper_rows, improper_at}
use Rattle.rules.proofs.Machine.Rows.{sort, Await, t_statement, Kinds, To, to_none, to, sort_step, is_at_end}
use Rattle.rules.proofs.Machine.Decoding.{Decoded, nothing, got, decode}
use Rattle.rules.proofs.Machine.Checks.{value_test, span_test}
use Rattle.rules.proofs.Machine.Splits.{is_nil}

-- no row in its place, or a row, the bytes left, and what is awaited then
pub data RowStep : Type 0 where
  stops : RowStep
  steps : Row → List ℕ → Await → Kinds → RowStep

abbrev pub step_to : Row → List ℕ → To → RowStep
step_to r s to_none = stops
step_to r s (to t o) = steps r s t o

abbrev pub step_with : List ℕ → Await → Kinds → Decoded → RowStep
step_with given t o nothing = stops
step_with given t o (got r s) = cond (value_test r && span_test given r) (step_to r s (sort_step t o (sort r))) stops

-- where no row follows
abbrev pub ending : List Row → Await → List ℕ → Verdict
ending done t rest = cond (is_at_end t && is_nil rest) (proper_rows done) (improper_at (length (table done)))

abbrev pub on_step : RowStep → Verdict → (Row → List ℕ → Await → Kinds → Verdict) → Verdict
on_step stops v f = v
on_step (steps r s t o) v f = f r s t o

-- the rows done, and the bytes left, fewer than the count
abbrev pub walk : ℕ → List ℕ → Await → Kinds → List Row → List ℕ → Verdict
walk zero given t o done rest = improper_at (length (table done))
walk (suc k) given t o done rest = on_step (step_with given t o (decode rest)) (ending done t rest) (λ r s t' o'. walk k given t' o' (done ++ (r ∷ [])) s)

-- the verdict on a table over label bytes
unfoldable pub judge_table : List ℕ → List ℕ → Verdict
judge_table given lent = walk (suc (length lent)) given t_statement [] [] lent

-- by the verdict
abbrev pub on_verdict : {A : Type 0} → Verdict → (ℕ → A) → (List Row → A) → A
on_verdict (proper_rows rows) f g = g rows
on_verdict (improper_at at) f g = f at
