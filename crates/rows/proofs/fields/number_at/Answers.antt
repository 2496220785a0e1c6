-- `fields::number_at` meets its contract.
use native.Mathlib.Omega.{arith}
use Rattle.rows.proofs.Octets.{in_reach, numbers}
use Rattle.rows.proofs.fields.number_at.Goals as goal

pub loop-j-init : goal.loop-j-init
loop-j-init g c = search numbers

pub overflow_mul-v : goal.overflow_mul-v
overflow_mul-v g c = omega (arith, in_reach c.loop-j.j c.loop-j.v 0 (omega arith) c.loop-j.invariant.small (omega arith))

pub overflow_add-v : goal.overflow_add-v
overflow_add-v g c = omega (arith, in_reach c.loop-j.j c.loop-j.v c.from.result (omega arith) c.loop-j.invariant.small (omega arith))

pub loop-j-preserved : goal.loop-j-preserved
loop-j-preserved g c = search numbers
