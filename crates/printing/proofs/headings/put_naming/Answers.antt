-- `headings::put_naming` meets its contract.
use Rattle.output.proofs.Laws.{onward}
use native.Mathlib.Omega.{arith}
use Rattle.printing.proofs.headings.put_naming.Goals as goal

pub returns : goal.returns
returns c = ((onward c.put_bytes-a.ensures c.min-k.ensures c.put_folded.ensures.0), omega arith)
