-- `headings::put_named` meets its contract.
use Rattle.output.proofs.Laws.{onward}
use native.Mathlib.Omega.{arith}
use Rattle.printing.proofs.headings.put_named.Goals as goal

pub returns : goal.returns
returns c = ((onward c.put_folded-a.ensures.0 c.min-k.ensures c.put_bytes.ensures), omega arith)
