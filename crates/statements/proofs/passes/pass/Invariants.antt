-- One pass: the loop keeps up what the rules give from here on, and a place behind from which a reading may go on.
use Prim.Native.Nat.{◌-◌}
use lib.ListN.{length}
use Rattle.statements.proofs.Running.{Noting}
use Rattle.statements.proofs.passes.pass.Given as goal

abbrev pub invariant-loop-n : goal.invariant-loop-n
invariant-loop-n l = Noting l.label l.initial.room l.room l.state l.blocks l.at l.n l.full

abbrev pub decreases-loop-n : goal.decreases-loop-n
decreases-loop-n l = length l.label - l.at
