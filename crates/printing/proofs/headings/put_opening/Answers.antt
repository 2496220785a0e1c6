-- `headings::put_opening` meets its contract.
use Rattle.output.proofs.Laws.{onward}
use native.Mathlib.Omega.{arith}
use Rattle.printing.proofs.headings.put_opening.Goals as goal

pub returns : goal.returns
returns c = ((onward c.put_open_word-a.ensures.0 c.min-k.ensures c.put_naming.ensures.0), omega arith)
