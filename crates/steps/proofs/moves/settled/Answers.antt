-- `settled`: what an element is met as.
use Rattle.steps.proofs.Meeting.{met}
use Rattle.steps.proofs.moves.settled.Goals as goal

pub returns-then-is_the : goal.returns-then-is_the
returns-then-is_the c = search met

pub returns-then-is_the-2 : goal.returns-then-is_the-2
returns-then-is_the-2 c = search met

pub returns-else-is_the : goal.returns-else-is_the
returns-else-is_the c = search met

pub returns-else-is_the-2 : goal.returns-else-is_the-2
returns-else-is_the-2 c = search met

pub returns-in_default : goal.returns-in_default
returns-in_default c = search met
