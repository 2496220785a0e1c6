-- `numbers::twos8` meets its contract.
use native.Mathlib.Omega.{arith}
use Rattle.rows.proofs.Writing.{byte_minus, byte}
use Rattle.rows.proofs.numbers.twos8.Goals as goal

pub returns-then-minus : goal.returns-then-minus
returns-then-minus c = byte_minus _ _ c.if-minus.true (omega (arith, c.saturating_sub.ensures))

pub returns : goal.returns
returns c = byte _ _ c.if-minus.false (omega arith)
