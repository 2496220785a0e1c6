-- The sign of an exponent.
use borrow.Author.Rules.{rules}
use Rattle.forms.specs.Laid.{power_to}
use Rattle.forms.proofs.Places.{sign_to, sign_within}
use Rattle.forms.proofs.Numerals.{power_signed}
use Rattle.forms.proofs.numbers.power.Goals as goal

ruleset ways = (power_to, sign_to, sign_within, power_signed, rules)

pub returns : goal.returns
returns c = search ways

pub power_digits-requires-clause-power_to : goal.power_digits-requires-clause-power_to
power_digits-requires-clause-power_to c = search ways
