-- `numbers::number_of` meets its contract.
use borrow.Author.Rules.{rules}
use Rattle.words.proofs.Digits.{number_is}
use Rattle.words.proofs.numbers.number_of.Goals as goal

ruleset ways = (number_is, rules)

pub returns : goal.returns
returns c = search ways
