-- `numbers::put_digits` meets its contract.
use native.Mathlib.Omega.{arith}
use Rattle.numerals.proofs.RealForms.{counted}
use Rattle.numerals.proofs.numbers.put_digits.Goals as goal

pub returns : goal.returns
returns c = (counted c.digit_count.ensures c.put_wide.ensures.0, omega arith)
