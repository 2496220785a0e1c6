-- `numbers::whole` meets its contract.
use borrow.Author.Rules.{rules}
use Rattle.words.proofs.Digits.{past, fitting}
use Rattle.words.proofs.numbers.whole.Goals as goal

ruleset ways = (past, fitting, rules)

pub returns-then-n : goal.returns-then-n
returns-then-n c = search ways

pub returns : goal.returns
returns c = search ways
