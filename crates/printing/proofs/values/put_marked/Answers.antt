-- `values::put_marked` meets its contract.
use Rattle.output.proofs.Laws.{onward_three}
use native.Mathlib.Omega.{arith}
use Rattle.printing.proofs.Symbols.{bare, in_apostrophes}
use Rattle.printing.proofs.values.put_marked.Goals as goal

pub returns-then-is_name : goal.returns-then-is_name
returns-then-is_name c = (bare c.args.w.now c.is_name.ensures c.if-is_name.true c.put_folded.ensures.0, omega arith)

pub returns : goal.returns
returns c = (in_apostrophes c.args.w.now c.is_name.ensures c.if-is_name.false (onward_three c.put_byte-a.ensures c.min-k.ensures c.put_folded-2.ensures.0 c.min-j.ensures c.put_byte.ensures), omega arith)
