-- `bodies::unit` meets its contract.
use Rattle.rows.proofs.Decoding.{bodies}
use Rattle.rows.proofs.bodies.unit.Goals as goal

pub returns-in-Ok : goal.returns-in-Ok
returns-in-Ok c = search bodies

pub returns-in-Err : goal.returns-in-Err
returns-in-Err c = search bodies
