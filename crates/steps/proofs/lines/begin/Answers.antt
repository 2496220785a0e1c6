-- `lines::begin` meets its contract.
use Rattle.steps.proofs.Starts.{begins}
use Rattle.steps.proofs.lines.begin.Goals as goal

pub word-requires : goal.word-requires
word-requires c = search begins

pub returns-then-off : goal.returns-then-off
returns-then-off c = search begins

pub returns-in-Name : goal.returns-in-Name
returns-in-Name c = search begins

pub returns-in-The : goal.returns-in-The
returns-in-The c = search begins

pub returns-else-off : goal.returns-else-off
returns-else-off c = search begins

pub returns-in-Some : goal.returns-in-Some
returns-in-Some c = search begins

pub returns-in_default : goal.returns-in_default
returns-in_default c = search begins
