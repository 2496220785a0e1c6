-- `value_of` meets its contract.
use borrow.Author.Rules.{rules}
use Rattle.words.proofs.Words.{short_part, date_digits, time_digits, name_word, whole_word, radix_word, decimal_word, date_word, time_word}
use Rattle.words.proofs.value_of.Goals as goal

ruleset ways = (short_part, date_digits, time_digits, name_word, whole_word, radix_word, decimal_word, date_word, time_word, rules)

pub returns-in-Name : goal.returns-in-Name
returns-in-Name c = search ways

pub returns-in-Whole : goal.returns-in-Whole
returns-in-Whole c = search ways

pub returns-in-Radix : goal.returns-in-Radix
returns-in-Radix c = search ways

pub returns-in-Decimal : goal.returns-in-Decimal
returns-in-Decimal c = search ways

pub returns-in-Day : goal.returns-in-Day
returns-in-Day c = search ways

pub returns-in-Moment : goal.returns-in-Moment
returns-in-Moment c = search ways
