-- `numbers::put_full` meets its contract.
use Rattle.output.proofs.Laws.{onward_three}
use native.Mathlib.Omega.{arith}
use Rattle.numerals.proofs.numbers.put_full.Goals as goal

pub returns : goal.returns
returns c = (rw (← c.from.ensures) (onward_three c.put_digits-a.ensures.0 c.min-k.ensures c.put_wide.ensures.0 c.min-j.ensures c.put_bytes.ensures), omega arith)
