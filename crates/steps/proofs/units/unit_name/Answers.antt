-- `units::unit_name` meets its contract.
use Rattle.steps.proofs.Ways.{ways}
use Rattle.steps.proofs.units.unit_name.Goals as goal

pub returns-in_default : goal.returns-in_default
returns-in_default c = search ways

pub returns : goal.returns
returns c = search ways
