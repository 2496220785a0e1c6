-- `numbers::put_sign` meets its contract.
use native.Mathlib.Omega.{arith}
use Rattle.numerals.proofs.RealForms.{minus, no_minus}
use Rattle.numerals.proofs.numbers.put_sign.Goals as goal

pub returns-then-minus : goal.returns-then-minus
returns-then-minus c = (minus c.if-minus.true c.put_byte.ensures, omega arith)

pub returns : goal.returns
returns c = (no_minus _ c.if-minus.false, omega arith)
