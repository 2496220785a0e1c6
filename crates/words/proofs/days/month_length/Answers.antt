-- `days::month_length` meets its contract.
use borrow.Author.Rules.{rules}
use Rattle.words.proofs.Calendar.{month_0, past_december, in_turns, leap_february, plain_february}
use Rattle.words.proofs.days.month_length.Goals as goal

ruleset ways = (month_0, past_december, in_turns, leap_february, plain_february, rules)

pub returns-then-month-eq0 : goal.returns-then-month-eq0
returns-then-month-eq0 c = search ways

pub returns-then-month-gt12 : goal.returns-then-month-gt12
returns-then-month-gt12 c = search ways

pub returns-then-month-ne2 : goal.returns-then-month-ne2
returns-then-month-ne2 c = search ways

pub returns-then-is_leap : goal.returns-then-is_leap
returns-then-is_leap c = search ways

pub returns-else-is_leap : goal.returns-else-is_leap
returns-else-is_leap c = search ways
