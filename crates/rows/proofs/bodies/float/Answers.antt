-- `bodies::float` meets its contract.
use Rattle.rows.proofs.Decoding.{bodies}
use Rattle.rows.proofs.bodies.float.Goals as goal

pub returns : goal.returns
returns c = search bodies
