-- `numbers::put_scaled` meets its contract.
use Rattle.output.proofs.Laws.{onward_three}
use native.Mathlib.Omega.{arith}
use Rattle.numerals.proofs.numbers.put_scaled.Goals as goal

pub returns : goal.returns
returns c = (rw (← c.from.ensures) (onward_three c.put_digits-a.ensures.0 c.min-k.ensures c.put_bytes.ensures c.min-j.ensures c.put_decimal.ensures.0), omega arith)
