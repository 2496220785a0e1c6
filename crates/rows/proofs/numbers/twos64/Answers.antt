-- `numbers::twos64` meets its contract.
use native.Mathlib.Omega.{arith}
use Rattle.rows.proofs.Writing.{minus_around, not_minus}
use Rattle.rows.proofs.numbers.twos64.Goals as goal

pub returns-then-minus : goal.returns-then-minus
returns-then-minus c = minus_around _ _ c.if-minus.true (omega arith) (omega arith) c.wrapping_neg.ensures

pub returns : goal.returns
returns c = not_minus 8 _ c.if-minus.false
