-- `lines::pointer` meets its contract.
use Rattle.steps.proofs.Ways.{ways}
use Rattle.steps.proofs.lines.pointer.Goals as goal

pub returns-in_default : goal.returns-in_default
returns-in_default c = search ways

pub returns : goal.returns
returns c = search ways
