-- `lines::ended` meets its contract.
use Rattle.steps.proofs.Ways.{ways}
use Rattle.steps.proofs.lines.ended.Goals as goal

pub returns : goal.returns
returns c = search ways
