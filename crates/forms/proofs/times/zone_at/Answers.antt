-- What ends a time, answer by answer.
use borrow.Author.Rules.{rules}
use Rattle.forms.specs.Laid.{behind}
use Rattle.forms.proofs.Places.{zone_minus, zone_plus}
use Rattle.forms.proofs.Stamps.{zone_local, zone_z, zone_west, zone_east, zone_none}
use Rattle.forms.proofs.times.zone_at.Goals as goal

ruleset ways = (behind, zone_minus, zone_plus, zone_local, zone_z, zone_west, zone_east, zone_none, rules)

pub returns-then-at-w : goal.returns-then-at-w
returns-then-at-w c = search ways

pub returns-in-90 : goal.returns-in-90
returns-in-90 c = search ways

pub returns-in-45 : goal.returns-in-45
returns-in-45 c = search ways

pub returns-in-43 : goal.returns-in-43
returns-in-43 c = search ways

pub returns-in_default : goal.returns-in_default
returns-in_default c = zone_none c.args.w.now c.args.stamp c.args.clock c.args.at c.requires.at_in_bounds c.if-at-w.false (λ z. search rules) (λ z. search rules) (λ z. search rules)

pub utc_end-requires-clause-behind : goal.utc_end-requires-clause-behind
utc_end-requires-clause-behind c = search ways

pub zone_offset-requires-clause-offset_to : goal.zone_offset-requires-clause-offset_to
zone_offset-requires-clause-offset_to c = search ways

pub zone_offset-requires-in-43-clause-offset_to : goal.zone_offset-requires-in-43-clause-offset_to
zone_offset-requires-in-43-clause-offset_to c = search ways
