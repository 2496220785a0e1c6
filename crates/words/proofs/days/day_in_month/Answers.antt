-- `days::day_in_month` meets its contract.
use borrow.Author.Rules.{rules}
use Rattle.words.proofs.Calendar.{month_no_year, no_month, late_month, no_day, late_day, day_found}
use Rattle.words.proofs.days.day_in_month.Goals as goal

ruleset ways = (month_no_year, no_month, late_month, no_day, late_day, day_found, rules)

pub returns-then-year-eq0 : goal.returns-then-year-eq0
returns-then-year-eq0 c = search ways

pub returns-then-m-eq0 : goal.returns-then-m-eq0
returns-then-m-eq0 c = search ways

pub returns-then-m-gt12 : goal.returns-then-m-gt12
returns-then-m-gt12 c = search ways

pub returns-then-d-eq0 : goal.returns-then-d-eq0
returns-then-d-eq0 c = search ways

pub returns-then-month_length-d : goal.returns-then-month_length-d
returns-then-month_length-d c = search ways

pub returns : goal.returns
returns c = search ways
