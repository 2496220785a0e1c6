-- `bytes::put_folded` meets its contract.
use Rattle.std.proofs.Common.{arith}
use Rattle.output.proofs.Copies.{folded_turn, folded_end}
use Rattle.output.proofs.bytes.put_folded.Goals as goal

pub loop-i-preserved : goal.loop-i-preserved
loop-i-preserved c = folded_turn c.args.w.now c.args.out.now c.loop-i.out c.loop-i.i c.folded.result c.loop-i.invariant (omega arith) c.folded.ensures

pub returns : goal.returns
returns c = folded_end c.args.w.now c.args.out.now c.loop-i.out c.loop-i.i c.loop-i.invariant (omega arith)
