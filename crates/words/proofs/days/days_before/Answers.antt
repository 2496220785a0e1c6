-- `days::days_before` meets its contract.
use borrow.Author.Rules.{rules}
use Rattle.words.proofs.Calendar.{before_march, leap_before, plain_before}
use Rattle.words.proofs.days.days_before.Goals as goal

ruleset ways = (before_march, leap_before, plain_before, rules)

pub returns-then-month-lt3 : goal.returns-then-month-lt3
returns-then-month-lt3 c = search ways

pub returns-then-is_leap : goal.returns-then-is_leap
returns-then-is_leap c = search ways

pub returns-else-is_leap : goal.returns-else-is_leap
returns-else-is_leap c = search ways
