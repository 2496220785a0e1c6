-- `numbers::encode_number` meets its contract.
use native.Mathlib.Omega.{arith}
use mathlib.Core.Path.{refl}
use Rattle.rows.proofs.Writing.{one_laid, all_laid}
use Rattle.rows.proofs.numbers.encode_number.Goals as goal

pub loop-i-preserved : goal.loop-i-preserved
loop-i-preserved g c = one_laid _ _ _ _ c.loop-i.i _ _ _ (omega arith) (omega arith) c.requires c.loop-i.invariant refl

pub returns : goal.returns
returns g c = all_laid _ _ _ c.loop-i.i _ _ (omega arith) c.loop-i.invariant
