-- `lines::closing_name` meets its contract.
use Rattle.steps.proofs.Closings.{closings}
use Rattle.steps.proofs.lines.closing_name.Goals as goal

pub returns-in_default : goal.returns-in_default
returns-in_default c = search closings

pub returns-then-alike : goal.returns-then-alike
returns-then-alike c = search closings

pub returns : goal.returns
returns c = search closings
