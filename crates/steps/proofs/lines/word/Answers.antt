-- `lines::word` meets its contract.
use Rattle.steps.proofs.Starts.{begins}
use Rattle.steps.proofs.lines.word.Goals as goal

pub returns-then-is_the : goal.returns-then-is_the
returns-then-is_the c = search begins

pub returns-then-is_the-2 : goal.returns-then-is_the-2
returns-then-is_the-2 c = search begins

pub returns-then-is_the-3 : goal.returns-then-is_the-3
returns-then-is_the-3 c = search begins

pub returns-then-is_the-4 : goal.returns-then-is_the-4
returns-then-is_the-4 c = search begins

pub returns-then-is_the-5 : goal.returns-then-is_the-5
returns-then-is_the-5 c = search begins

pub returns-in-None : goal.returns-in-None
returns-in-None c = search begins

pub returns-else-is_the-4 : goal.returns-else-is_the-4
returns-else-is_the-4 c = search begins

pub returns-else-is_the-5 : goal.returns-else-is_the-5
returns-else-is_the-5 c = search begins
