-- `values::first_member` meets its contract.
use Rattle.steps.proofs.Ways.{ways}
use Rattle.steps.proofs.values.first_member.Goals as goal

pub returns-then-c-eq40 : goal.returns-then-c-eq40
returns-then-c-eq40 c = search ways

pub returns : goal.returns
returns c = search ways
