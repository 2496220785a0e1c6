-- The sign of a based integer.
use borrow.Author.Rules.{rules}
use Rattle.forms.specs.Laid.{based_to}
use Rattle.forms.proofs.Places.{sign_to, sign_within}
use Rattle.forms.proofs.Numerals.{based_signed}
use Rattle.forms.proofs.numbers.based.Goals as goal

ruleset ways = (based_to, sign_to, sign_within, based_signed, rules)

pub returns : goal.returns
returns c = search ways

pub radix_digits-requires-clause-based_to : goal.radix_digits-requires-clause-based_to
radix_digits-requires-clause-based_to c = search ways
