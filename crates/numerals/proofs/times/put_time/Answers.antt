-- `times::put_time` meets its contract.
use Rattle.output.proofs.Laws.{onward_three}
use native.Mathlib.Omega.{arith}
use Rattle.numerals.proofs.Moments.{in_time}
use Rattle.numerals.proofs.times.put_time.Goals as goal

pub returns : goal.returns
returns c = (in_time c.args.x (onward_three c.put_clock-a.ensures.0 c.min-k.ensures c.put_fraction.ensures.0 c.min-j.ensures c.put_zone.ensures.0), omega arith)
