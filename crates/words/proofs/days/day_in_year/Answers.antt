-- `days::day_in_year` meets its contract.
use borrow.Author.Rules.{rules}
use Rattle.words.proofs.Calendar.{no_year, no_count, year_end, this_month, next_month}
use Rattle.words.proofs.days.day_in_year.Goals as goal

ruleset ways = (no_year, no_count, year_end, this_month, next_month, rules)

pub returns-then-year-eq0 : goal.returns-then-year-eq0
returns-then-year-eq0 c = search ways

pub returns-then-n-eq0 : goal.returns-then-n-eq0
returns-then-n-eq0 c = search ways

pub returns-then-d-n : goal.returns-then-d-n
returns-then-d-n c = search ways

pub returns-then-n-e : goal.returns-then-n-e
returns-then-n-e c = search ways

pub returns : goal.returns
returns c = search ways
