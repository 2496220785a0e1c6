-- `units::after_unit` meets its contract.
use Rattle.steps.proofs.Ways.{ways, unmet}
use Rattle.steps.proofs.units.after_unit.Goals as goal

pub returns-then-is_the : goal.returns-then-is_the
returns-then-is_the c = search ways

pub returns-then-is_the-2 : goal.returns-then-is_the-2
returns-then-is_the-2 c = search ways

pub returns-then-is_the-3 : goal.returns-then-is_the-3
returns-then-is_the-3 c = search ways

pub returns-then-is_the-4 : goal.returns-then-is_the-4
returns-then-is_the-4 c = search ways

pub returns : goal.returns
returns c = search unmet depth 8
