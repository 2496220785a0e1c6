-- `times::put_moment` meets its contract.
use Rattle.output.proofs.Laws.{onward_three}
use native.Mathlib.Omega.{arith}
use Rattle.numerals.proofs.Moments.{a_date, a_time, both}
use Rattle.numerals.proofs.times.put_moment.Goals as goal

pub returns-then-x-eq1 : goal.returns-then-x-eq1
returns-then-x-eq1 c = (a_date c.args.x c.if-x-eq1.true c.put_date.ensures.0, omega arith)

pub returns-then-x-eq2 : goal.returns-then-x-eq2
returns-then-x-eq2 c = (a_time c.args.x c.if-x-eq1.false c.if-x-eq2.true c.put_time.ensures.0, omega arith)

pub returns : goal.returns
returns c = (both c.args.x c.if-x-eq1.false c.if-x-eq2.false (onward_three c.put_date-a.ensures.0 c.min-k.ensures c.put_byte.ensures c.min-j.ensures c.put_time-2.ensures.0), omega arith)
