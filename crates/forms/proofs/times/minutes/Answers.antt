-- A time from its minutes on, answer by answer.
use borrow.Author.Rules.{rules}
use Rattle.forms.proofs.Places.{minute_on, digits_within}
use Rattle.forms.proofs.Stamps.{minutes_few, minutes_some}
use Rattle.forms.proofs.times.minutes.Goals as goal

ruleset ways = (minute_on, digits_within, minutes_few, minutes_some, rules)

pub returns-in_err-minute : goal.returns-in_err-minute
returns-in_err-minute c = let q = c.in_err-minute.was in search ways

pub returns : goal.returns
returns c = search ways

pub seconds-requires-clause-minute_to : goal.seconds-requires-clause-minute_to
seconds-requires-clause-minute_to c = search ways

pub seconds-requires-clause-at_in_bounds : goal.seconds-requires-clause-at_in_bounds
seconds-requires-clause-at_in_bounds c = let q = c.in_ok-minute.was in search ways
