-- `wording::print_rows` meets its contract.
-- the next row is nearer to the table's end
use Prim.Native.Nat.{ℕ, ◌-◌, ◌<◌}
use native.Mathlib.Omega.{arith}
use Rattle.std.specs.Prelude.{Option, Some}
use mathlib.Core.Path.{◌≡◌}
use mathlib.Core.List.{List}
use lib.ListN.{length}
use borrow.Author.Rules.{rules}
use Rattle.rows.specs.Decoding.{Decodes}
use Rattle.rows.specs.declared.Row.{Row}
use Rattle.rows.proofs.Decoding.{row_there}
use Rattle.examples.proofs.wording.print_rows.Goals as goal

nearer : (lent : List ℕ) (at : ℕ) (g : Option (Row × ℕ)) (row : Row) (next : ℕ) → Decodes lent at g → g ≡ Some (row, next) → at < length lent → length lent - next < length lent - at
nearer lent at g row next v f h = omega (arith, (row_there v f).further)

ruleset ways = (nearer, rules)

pub loop-at-init : goal.loop-at-init
loop-at-init c = search ways

pub returns-in_default : goal.returns-in_default
returns-in_default c = search ways

pub loop-at-preserved : goal.loop-at-preserved
loop-at-preserved c = search ways

pub returns : goal.returns
returns c = search ways
