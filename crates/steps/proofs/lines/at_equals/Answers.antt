-- `lines::at_equals` meets its contract.
use Rattle.steps.proofs.Ways.{ways}
use Rattle.steps.proofs.lines.at_equals.Goals as goal

pub returns-then-is_the : goal.returns-then-is_the
returns-then-is_the c = search ways

pub returns : goal.returns
returns c = search ways
