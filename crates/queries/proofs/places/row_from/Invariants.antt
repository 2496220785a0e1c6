-- `places::row_from` meets its contract.
use Prim.Native.Nat.{◌-◌}
use Rattle.queries.proofs.RowAtOffset.{Walks}
use Rattle.queries.proofs.places.row_from.Given as goal

abbrev pub invariant-loop-at : goal.invariant-loop-at
invariant-loop-at l = Walks l.table l.row l.at

abbrev pub decreases-loop-at : goal.decreases-loop-at
decreases-loop-at l = l.row - l.at
