-- `kind_of` meets its contract.
use Rattle.blocks.proofs.Opened.{stack}
use Rattle.blocks.proofs.kind_of.Goals as goal

pub returns-then-n-eq-OPEN_GROUP : goal.returns-then-n-eq-OPEN_GROUP
returns-then-n-eq-OPEN_GROUP c = search stack

pub returns-else-n-eq-OPEN_GROUP : goal.returns-else-n-eq-OPEN_GROUP
returns-else-n-eq-OPEN_GROUP c = search stack
