-- `days::day_of` meets its contract.
use borrow.Author.Rules.{rules}
use Rattle.words.proofs.Calendar.{year_small, by_year, by_month}
use Rattle.words.proofs.days.day_of.Goals as goal

ruleset ways = (year_small, by_year, by_month, rules)

pub returns-in-InYear : goal.returns-in-InYear
returns-in-InYear c = search ways

pub returns-in-InMonth : goal.returns-in-InMonth
returns-in-InMonth c = search ways
