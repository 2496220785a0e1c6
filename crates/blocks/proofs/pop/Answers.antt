-- `pop` meets its contract.
use Rattle.blocks.proofs.Opened.{stack}
use Rattle.blocks.proofs.pop.Goals as goal

pub returns-then-b-gt0 : goal.returns-then-b-gt0
returns-then-b-gt0 c = search stack

pub returns-else-b-gt0 : goal.returns-else-b-gt0
returns-else-b-gt0 c = search stack
