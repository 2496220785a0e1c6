-- `times::zoned` meets its contract.
use borrow.Author.Rules.{rules}
use Rattle.words.proofs.Clocks.{no_zone_given, z_given, offset_given}
use Rattle.words.proofs.times.zoned.Goals as goal

ruleset ways = (no_zone_given, z_given, offset_given, rules)

pub returns-in-NoZone : goal.returns-in-NoZone
returns-in-NoZone c = search ways

pub returns-in-Utc : goal.returns-in-Utc
returns-in-Utc c = search ways

pub returns-in-Offset : goal.returns-in-Offset
returns-in-Offset c = search ways
