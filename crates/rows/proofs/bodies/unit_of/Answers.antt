-- `bodies::unit_of` meets its contract.
use Rattle.rows.proofs.Decoding.{bodies}
use Rattle.rows.proofs.bodies.unit_of.Goals as goal

pub returns : goal.returns
returns c = search bodies
