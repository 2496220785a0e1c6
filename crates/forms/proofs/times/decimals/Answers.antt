-- A time from the end of its whole seconds on, answer by answer.
use borrow.Author.Rules.{rules}
use Rattle.forms.specs.Laid.{seconds_to, decimals_to}
use Rattle.forms.proofs.Places.{byte_is, byte_not}
use Rattle.forms.proofs.Stamps.{dec_none, dec_some}
use Rattle.forms.proofs.times.decimals.Goals as goal

ruleset ways = (seconds_to, decimals_to, byte_is, byte_not, dec_none, dec_some, rules)

pub returns-then-byte_at-ne46 : goal.returns-then-byte_at-ne46
returns-then-byte_at-ne46 c = search ways

pub returns : goal.returns
returns c = search ways

pub zone_at-requires-clause-clock_to : goal.zone_at-requires-clause-clock_to
zone_at-requires-clause-clock_to c = search ways

pub zone_at-requires-2-clause-clock_to : goal.zone_at-requires-2-clause-clock_to
zone_at-requires-2-clause-clock_to c = search ways
