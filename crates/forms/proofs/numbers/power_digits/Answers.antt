-- The digits of an exponent, answer by answer.
use borrow.Author.Rules.{rules}
use Rattle.forms.proofs.Numerals.{power_none, power_more, power_ends}
use Rattle.forms.proofs.numbers.power_digits.Goals as goal

ruleset ways = (power_none, power_more, power_ends, rules)

pub returns-then-e-at : goal.returns-then-e-at
returns-then-e-at c = search ways

pub returns-then-e-w : goal.returns-then-e-w
returns-then-e-w c = search ways

pub returns : goal.returns
returns c = search ways
