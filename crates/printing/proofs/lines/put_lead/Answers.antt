-- `lines::put_lead` meets its contract.
use Rattle.output.proofs.Laws.{onward}
use native.Mathlib.Omega.{arith}
use Rattle.printing.proofs.lines.put_lead.Goals as goal

pub returns : goal.returns
returns c = ((onward c.put_units_end-a.ensures.0 c.min-k.ensures c.put_gap.ensures.0), omega arith)
