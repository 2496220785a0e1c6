-- One pass over the rows: what holds between two of them, and each way out.
use Prim.Native.Nat.{◌-◌}
use lib.ListN.{length}
use Rattle.writer.proofs.Passing.{Between}
use Rattle.writer.proofs.passes.pass.Given as goal

abbrev pub invariant-loop-at : goal.invariant-loop-at
invariant-loop-at l = Between l.label l.lent l.initial.out l.out l.around l.b l.at l.n

abbrev pub decreases-loop-at : goal.decreases-loop-at
decreases-loop-at l = length l.lent - l.at
