-- A number, answer by answer.
use borrow.Author.Rules.{rules}
use Rattle.forms.specs.Laid.{behind, bare_to}
use Rattle.forms.proofs.Places.{digits_first}
use Rattle.forms.proofs.Numerals.{number_none, number_whole, number_pointed, number_no_mantissa, number_scaled, number_signed, number_plain}
use Rattle.forms.proofs.numbers.number_at.Goals as goal

ruleset ways = (digits_first, behind, bare_to, number_none, number_whole, number_pointed, number_no_mantissa, number_scaled, number_signed, number_plain, rules)

pub returns-then-at-from : goal.returns-then-at-from
returns-then-at-from c = search ways

pub returns-then-at-w : goal.returns-then-at-w
returns-then-at-w c = search ways

pub returns-then-b-eq46 : goal.returns-then-b-eq46
returns-then-b-eq46 c = search ways

pub returns-then-at-from-2 : goal.returns-then-at-from-2
returns-then-at-from-2 c = search ways

pub returns-then-is_mark : goal.returns-then-is_mark
returns-then-is_mark c = search ways

pub returns-then-from-ne0 : goal.returns-then-from-ne0
returns-then-from-ne0 c = search ways

pub plain-requires-clause-digits_to : goal.plain-requires-clause-digits_to
plain-requires-clause-digits_to c = search ways

pub returns : goal.returns
returns c = search ways

pub power-requires-clause-behind : goal.power-requires-clause-behind
power-requires-clause-behind c = search ways
