-- A date behind its year, answer by answer.
use borrow.Author.Rules.{rules}
use Rattle.forms.proofs.Places.{byte_is, byte_not, month_on, year_on}
use Rattle.forms.proofs.Stamps.{days_month_few, days_month, days_few, days_year}
use Rattle.forms.proofs.times.days.Goals as goal

ruleset ways = (byte_is, byte_not, month_on, year_on, days_month_few, days_month, days_few, days_year, rules)

pub returns-in_err-month : goal.returns-in_err-month
returns-in_err-month c = let q = c.in_err-month.was in search ways

pub returns-then-byte_at-eq45 : goal.returns-then-byte_at-eq45
returns-then-byte_at-eq45 c = let q = c.in_ok-month.was in search ways

pub returns-in_err-day : goal.returns-in_err-day
returns-in_err-day c = let q = c.in_err-day.was in search ways

pub returns : goal.returns
returns c = let q = c.in_ok-day.was in search ways

pub month_day-requires-clause-behind : goal.month_day-requires-clause-behind
month_day-requires-clause-behind c = search ways

pub dated-requires-clause-date_to : goal.dated-requires-clause-date_to
dated-requires-clause-date_to c = search ways
