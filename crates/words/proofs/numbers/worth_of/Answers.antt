-- `numbers::worth_of` meets its contract.
use borrow.Author.Rules.{rules}
use Rattle.words.proofs.Digits.{digit_worth, letter_worth}
use Rattle.words.proofs.numbers.worth_of.Goals as goal

ruleset ways = (digit_worth, letter_worth, rules)

pub returns-then-is_digit : goal.returns-then-is_digit
returns-then-is_digit c = search ways

pub returns : goal.returns
returns c = search ways
