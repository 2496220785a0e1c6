-- `values::put_unit` meets its contract.
use Rattle.output.proofs.Laws.{onward_three}
use native.Mathlib.Omega.{arith}
use Rattle.printing.proofs.values.put_unit.Goals as goal

pub returns : goal.returns
returns c = ((onward_three c.put_op-a.ensures.0 c.min-k.ensures c.put_folded.ensures.0 c.min-j.ensures c.put_exponent.ensures.0), omega arith)
