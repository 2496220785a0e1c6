-- `numbers::twos16` meets its contract.
use native.Mathlib.Omega.{arith}
use Rattle.rows.proofs.numbers.twos16.Goals as goal

pub returns-then-minus : goal.returns-then-minus
returns-then-minus c = rw c.if-minus.true (omega arith)

pub returns : goal.returns
returns c = rw c.if-minus.false (omega arith)
