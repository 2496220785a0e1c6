-- A time from the end of its minutes on, answer by answer.
use borrow.Author.Rules.{rules}
use Rattle.forms.specs.Laid.{minutes_to}
use Rattle.forms.proofs.Places.{byte_is, byte_not, second_on, digits_within}
use Rattle.forms.proofs.Stamps.{sec_none, sec_few, sec_some}
use Rattle.forms.proofs.times.seconds.Goals as goal

ruleset ways = (minutes_to, byte_is, byte_not, second_on, digits_within, sec_none, sec_few, sec_some, rules)

pub returns-then-byte_at-ne58 : goal.returns-then-byte_at-ne58
returns-then-byte_at-ne58 c = search ways

pub returns-in_err-second : goal.returns-in_err-second
returns-in_err-second c = let q = c.in_err-second.was in search ways

pub returns : goal.returns
returns c = search ways

pub zone_at-requires-clause-clock_to : goal.zone_at-requires-clause-clock_to
zone_at-requires-clause-clock_to c = search ways

pub decimals-requires-clause-second_to : goal.decimals-requires-clause-second_to
decimals-requires-clause-second_to c = search ways

pub decimals-requires-clause-at_in_bounds : goal.decimals-requires-clause-at_in_bounds
decimals-requires-clause-at_in_bounds c = let q = c.in_ok-second.was in search ways
