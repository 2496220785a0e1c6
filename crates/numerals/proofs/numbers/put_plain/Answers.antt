-- `numbers::put_plain` meets its contract.
-- three parts: digits, the period, and as many digits as places
use Rattle.output.proofs.Laws.{onward_three}
use native.Mathlib.Omega.{arith}
use Rattle.numerals.proofs.RealForms.{in_plain}
use Rattle.numerals.proofs.numbers.put_plain.Goals as goal

pub returns : goal.returns
returns c = (
  rw (← c.from-p.ensures) (in_plain _ _ c.without_last.ensures
      (onward_three c.put_digits-a.ensures.0 c.min-k.ensures c.put_byte.ensures c.min-j.ensures c.put_wide.ensures.0)),
  omega arith,
)
