-- `times::offset_by` meets its contract.
use borrow.Author.Rules.{rules}
use Rattle.words.proofs.Clocks.{zone_hour, zone_minute, zone_kept_lem}
use Rattle.words.proofs.times.offset_by.Goals as goal

ruleset ways = (zone_hour, zone_minute, zone_kept_lem, rules)

pub returns-then-h-gt12 : goal.returns-then-h-gt12
returns-then-h-gt12 c = search ways

pub returns-then-m-gt59 : goal.returns-then-m-gt59
returns-then-m-gt59 c = search ways

pub returns : goal.returns
returns c = search ways
