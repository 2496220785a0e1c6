-- `times::stamped` meets its contract.
use borrow.Author.Rules.{rules}
use Rattle.words.proofs.Clocks.{undated_digits, dated_year, dated_digits, undated, with_date}
use Rattle.words.proofs.times.stamped.Goals as goal

ruleset ways = (undated_digits, dated_year, dated_digits, undated, with_date, rules)

pub returns-in-Undated : goal.returns-in-Undated
returns-in-Undated c = search ways

pub returns-in-Dated : goal.returns-in-Dated
returns-in-Dated c = search ways
