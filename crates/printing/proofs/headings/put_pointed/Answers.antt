-- `headings::put_pointed` meets its contract.
use Rattle.output.proofs.Laws.{onward}
use native.Mathlib.Omega.{arith}
use Rattle.printing.proofs.headings.put_pointed.Goals as goal

pub returns : goal.returns
returns c = ((onward c.put_byte-a.ensures c.min-k.ensures c.put_named.ensures.0), omega arith)
