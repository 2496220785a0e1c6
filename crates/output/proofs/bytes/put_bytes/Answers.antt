-- `bytes::put_bytes` meets its contract.
use Rattle.std.proofs.Common.{arith, refl}
use Rattle.output.proofs.Copies.{laying_turn, laying_end}
use Rattle.output.proofs.bytes.put_bytes.Goals as goal

pub loop-i-preserved : goal.loop-i-preserved
loop-i-preserved c = laying_turn c.args.w.now c.args.out.now c.loop-i.out c.loop-i.i _ c.loop-i.invariant (omega arith) refl

pub returns : goal.returns
returns c = laying_end c.args.w.now c.args.out.now c.loop-i.out c.loop-i.i c.loop-i.invariant (omega arith)
