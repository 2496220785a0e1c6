-- `numbers::put_unsigned` meets its contract.
use native.Mathlib.Omega.{arith}
use Rattle.numerals.proofs.RealForms.{as_plain, as_scaled_below, as_full, as_scaled}
use Rattle.numerals.proofs.numbers.put_unsigned.Goals as goal

pub returns-then-x-le18 : goal.returns-then-x-le18
returns-then-x-le18 c = (as_plain _ _ c.if-x.true c.if-x-le18.true c.put_plain.ensures.0, omega arith)

pub returns-then-x : goal.returns-then-x
returns-then-x c = (as_scaled_below _ _ c.if-x.true c.if-x-le18.false c.put_scaled.ensures.0, omega arith)

pub returns-then-digit_count-from-le18 : goal.returns-then-digit_count-from-le18
returns-then-digit_count-from-le18 c =
    (as_full _ _ c.if-x.false c.digit_count.ensures (rw c.from.ensures at c.if-digit_count-from-le18.true) c.put_full.ensures.0, omega arith)

pub returns : goal.returns
returns c = (as_scaled _ _ c.if-x.false c.digit_count.ensures (rw c.from.ensures at c.if-digit_count-from-le18.false) c.put_scaled-2.ensures.0, omega arith)
