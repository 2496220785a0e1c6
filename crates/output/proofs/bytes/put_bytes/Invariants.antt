-- `bytes::put_bytes` meets its contract.
use Rattle.output.proofs.Copies.{Laying}
use Rattle.output.proofs.bytes.put_bytes.Given as goal

abbrev pub invariant-loop-i : goal.invariant-loop-i
invariant-loop-i l = Laying l.w l.initial.out l.out l.i
