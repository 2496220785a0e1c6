-- `times::put_zone` meets its contract.
use Rattle.output.proofs.Laws.{onward}
use native.Mathlib.Omega.{arith}
use Rattle.numerals.proofs.Moments.{no_zone, some_zone}
use Rattle.numerals.proofs.times.put_zone.Goals as goal

pub returns-then-x-eq0 : goal.returns-then-x-eq0
returns-then-x-eq0 c = (no_zone c.args.x.west c.args.x.offset c.if-x-eq0.true c.put_byte.ensures, omega arith)

pub returns : goal.returns
returns c = (some_zone c.args.x.west c.args.x.offset c.if-x-eq0.false c.zone_sign.ensures (rw (c.from.ensures, c.from-2.ensures) at (onward c.put_two-a.ensures.0 c.min-k.ensures c.put_two.ensures.0)), omega arith)
