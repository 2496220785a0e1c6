-- `values::in_row` meets its contract.
use Rattle.steps.proofs.Ways.{ways}
use Rattle.steps.proofs.values.in_row.Goals as goal

pub returns-then-is_the : goal.returns-then-is_the
returns-then-is_the c = search ways

pub returns-then-is_the-2 : goal.returns-then-is_the-2
returns-then-is_the-2 c = search ways

pub returns : goal.returns
returns c = search ways
