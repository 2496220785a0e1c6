-- `units::exponent` meets its contract.
use Rattle.steps.proofs.Ways.{ways}
use Rattle.steps.proofs.units.exponent.Goals as goal

pub returns-in_default : goal.returns-in_default
returns-in_default c = search ways

pub returns-then-v-gt-LARGEST_EXPONENT : goal.returns-then-v-gt-LARGEST_EXPONENT
returns-then-v-gt-LARGEST_EXPONENT c = search ways

pub returns : goal.returns
returns c = search ways
