-- `numbers::put_real` meets its contract.
use Rattle.output.proofs.Laws.{onward}
use native.Mathlib.Omega.{arith}
use Rattle.numerals.proofs.numbers.put_real.Goals as goal

pub returns : goal.returns
returns c = (onward c.put_sign-a.ensures.0 c.min-k.ensures c.put_unsigned.ensures.0, omega arith)
