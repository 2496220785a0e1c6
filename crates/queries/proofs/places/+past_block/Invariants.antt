-- What the walk to a block's end keeps up, and the bytes of the table left, which fall on the way.
use Prim.Native.Nat.{◌-◌}
use lib.ListN.{length}
use Rattle.queries.proofs.BlockEnds.{Blocked}
use Rattle.queries.proofs.places.+past_block.Given as goal

abbrev pub decreases-past_block : goal.decreases-past_block
decreases-past_block l = length l.table.now - l.from

abbrev pub invariant-loop-at : goal.invariant-loop-at
invariant-loop-at l = Blocked l.table l.fn.from l.at

abbrev pub decreases-loop-at : goal.decreases-loop-at
decreases-loop-at l = length l.table - l.at
