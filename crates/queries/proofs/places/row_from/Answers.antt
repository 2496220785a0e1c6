-- `places::row_from` meets its contract.
use borrow.Author.Rules.{rules}
use Rattle.queries.proofs.RowAtOffset.{walk_starts, walk_turns, walk_nearer, walk_stops, walk_past, walk_ends}
use Rattle.queries.proofs.places.row_from.Goals as goal

ruleset ways = (walk_starts, walk_turns, walk_nearer, walk_stops, walk_past, walk_ends, rules)

pub loop-at-init : goal.loop-at-init
loop-at-init c = search ways

pub returns-in_default : goal.returns-in_default
returns-in_default c = search ways

pub loop-at-preserved : goal.loop-at-preserved
loop-at-preserved c = search ways

pub returns-then-row-at : goal.returns-then-row-at
returns-then-row-at c = search ways

pub returns : goal.returns
returns c = search ways
