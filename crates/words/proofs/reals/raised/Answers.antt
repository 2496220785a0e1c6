-- `reals::raised` meets its contract.
use borrow.Author.Rules.{rules}
use Rattle.words.proofs.Decimals.{up_yes, up_no}
use Rattle.words.proofs.reals.raised.Goals as goal

ruleset ways = (up_yes, up_no, rules)

pub returns-then-below : goal.returns-then-below
returns-then-below c = search ways

pub returns-else-below : goal.returns-else-below
returns-else-below c = search ways
