-- `times::put_clock` meets its contract.
use Rattle.output.proofs.Laws.{onward_three}
use native.Mathlib.Omega.{arith}
use Rattle.numerals.proofs.times.put_clock.Goals as goal

pub returns : goal.returns
returns c = (rw (← c.from.ensures, ← c.from-2.ensures, ← c.from-3.ensures) (onward_three c.put_wide-a.ensures.0 c.min-k.ensures c.put_two.ensures.0 c.min-j.ensures c.put_two-2.ensures.0), omega arith)
