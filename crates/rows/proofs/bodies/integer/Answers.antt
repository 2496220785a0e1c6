-- `bodies::integer` meets its contract.
use Rattle.rows.proofs.Decoding.{bodies}
use Rattle.rows.proofs.bodies.integer.Goals as goal

pub returns : goal.returns
returns c = search bodies
