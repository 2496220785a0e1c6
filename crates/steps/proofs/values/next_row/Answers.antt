-- `values::next_row` meets its contract.
use Rattle.steps.proofs.Ways.{ways}
use Rattle.steps.proofs.values.next_row.Goals as goal

pub returns-then-c-eq40 : goal.returns-then-c-eq40
returns-then-c-eq40 c = search ways

pub returns : goal.returns
returns c = search ways
