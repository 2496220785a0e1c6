-- `times::put_two` meets its contract.
use Rattle.output.proofs.Laws.{onward}
use native.Mathlib.Omega.{arith}
use Rattle.numerals.proofs.times.put_two.Goals as goal

pub returns : goal.returns
returns c = ((onward c.put_byte-a.ensures c.min-k.ensures c.put_wide.ensures.0), omega arith)
