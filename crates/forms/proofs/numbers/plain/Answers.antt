-- What only digits with no sign begin, answer by answer.
use borrow.Author.Rules.{rules}
use Rattle.forms.specs.Laid.{behind, radix_to}
use Rattle.forms.proofs.Places.{first_hour}
use Rattle.forms.proofs.Numerals.{plain_no_radix, plain_based, plain_no_hour, plain_time, plain_other, plain_no_year, plain_date}
use Rattle.forms.proofs.numbers.plain.Goals as goal

ruleset ways = (behind, radix_to, first_hour, plain_no_radix, plain_based, plain_no_hour, plain_time, plain_other, plain_no_year, plain_date, rules)

pub returns-then-at-eq0 : goal.returns-then-at-eq0
returns-then-at-eq0 c = search ways

pub returns-then-b-eq35 : goal.returns-then-b-eq35
returns-then-b-eq35 c = search ways

pub returns-in_err-hour : goal.returns-in_err-hour
returns-in_err-hour c = let q = c.in_err-hour.was in search ways

pub returns-then-b-eq58 : goal.returns-then-b-eq58
returns-then-b-eq58 c = search ways

pub returns-then-b-ne45 : goal.returns-then-b-ne45
returns-then-b-ne45 c = search ways

pub returns-then-at-ne4 : goal.returns-then-at-ne4
returns-then-at-ne4 c = search ways

pub returns : goal.returns
returns c = search ways

pub based-requires-clause-behind : goal.based-requires-clause-behind
based-requires-clause-behind c = search ways

pub minutes-requires-clause-behind : goal.minutes-requires-clause-behind
minutes-requires-clause-behind c = search ways
