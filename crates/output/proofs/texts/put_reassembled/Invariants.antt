-- `texts::put_reassembled` meets its contract.
use Rattle.output.proofs.Reassembly.{Joining}
use Rattle.output.proofs.texts.put_reassembled.Given as goal

abbrev pub invariant-loop-i : goal.invariant-loop-i
invariant-loop-i l = Joining l.w l.initial.out l.out l.n l.i l.run
