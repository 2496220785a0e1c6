-- A date from the day of its month on, answer by answer.
use borrow.Author.Rules.{rules}
use Rattle.forms.proofs.Places.{day_on, digits_within}
use Rattle.forms.proofs.Stamps.{month_few, month_some}
use Rattle.forms.proofs.times.month_day.Goals as goal

ruleset ways = (day_on, digits_within, month_few, month_some, rules)

pub returns-in_err-day : goal.returns-in_err-day
returns-in_err-day c = let q = c.in_err-day.was in search ways

pub returns : goal.returns
returns c = let q = c.in_ok-day.was in search ways

pub dated-requires-clause-date_to : goal.dated-requires-clause-date_to
dated-requires-clause-date_to c = search ways

pub dated-requires-clause-at_in_bounds : goal.dated-requires-clause-at_in_bounds
dated-requires-clause-at_in_bounds c = let q = c.in_ok-day.was in search ways
