-- `good` meets its contract.
use borrow.Author.Rules.{rules}
use Rattle.table.proofs.Checking.{both_good}
use Rattle.table.proofs.good.Goals as goal

ruleset ways = (both_good, rules)

pub returns : goal.returns
returns c = search ways
