-- A time from its hour on, answer by answer.
use borrow.Author.Rules.{rules}
use Rattle.forms.proofs.Places.{hour_on, digits_within}
use Rattle.forms.proofs.Stamps.{time_few, time_open, time_some}
use Rattle.forms.proofs.times.time_at.Goals as goal

ruleset ways = (hour_on, digits_within, time_few, time_open, time_some, rules)

pub returns-in_err-hour : goal.returns-in_err-hour
returns-in_err-hour c = let q = c.in_err-hour.was in search ways

pub returns-then-byte_at-ne58 : goal.returns-then-byte_at-ne58
returns-then-byte_at-ne58 c = let q = c.in_ok-hour.was in search ways

pub returns : goal.returns
returns c = search ways

pub minutes-requires-clause-behind : goal.minutes-requires-clause-behind
minutes-requires-clause-behind c = search ways
