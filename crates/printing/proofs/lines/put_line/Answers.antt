-- `lines::put_line` meets its contract.
use Rattle.output.proofs.Laws.{onward_three}
use native.Mathlib.Omega.{arith}
use Rattle.printing.proofs.lines.put_line.Goals as goal

pub returns : goal.returns
returns c = ((onward_three c.put_units_end-a.ensures.0 c.min-k.ensures c.put_line_break.ensures.0 c.min-j.ensures c.put_indent.ensures.0), omega arith)
