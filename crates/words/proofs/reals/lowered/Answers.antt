-- `reals::lowered` meets its contract.
use borrow.Author.Rules.{rules}
use Rattle.words.proofs.Decimals.{down_yes, down_no}
use Rattle.words.proofs.reals.lowered.Goals as goal

ruleset ways = (down_yes, down_no, rules)

pub returns-then-below : goal.returns-then-below
returns-then-below c = search ways

pub returns-else-below : goal.returns-else-below
returns-else-below c = search ways
