-- `times::put_fraction` meets its contract.
use Rattle.output.proofs.Laws.{onward}
use native.Mathlib.Omega.{arith}
use Rattle.numerals.proofs.Moments.{no_fraction, sizes, some_fraction}
use mathlib.Core.Path.{refl}
use Rattle.numerals.proofs.times.put_fraction.Goals as goal

pub returns-in_default : goal.returns-in_default
returns-in_default c = (no_fraction c.trim.ensures c.in_default.is refl refl, omega arith)

pub returns : goal.returns
returns c = (some_fraction c.trim.ensures c.in-Some.is (onward c.put_byte-a.ensures c.min-k.ensures c.put_wide.ensures.0), omega (arith, sizes c.trim.ensures c.in-Some.is))
