-- `values::put_quoted` meets its contract.
use Rattle.output.proofs.Laws.{onward_three}
use native.Mathlib.Omega.{arith}
use Rattle.printing.proofs.values.put_quoted.Goals as goal

pub returns : goal.returns
returns c = ((onward_three c.put_byte-a.ensures c.min-k.ensures c.put_reassembled.ensures.0 c.min-j.ensures c.put_byte.ensures), omega arith)
