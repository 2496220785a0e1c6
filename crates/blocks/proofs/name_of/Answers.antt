-- `name_of` meets its contract.
use Rattle.blocks.proofs.Opened.{stack}
use Rattle.blocks.proofs.name_of.Goals as goal

pub returns-then-d-eq0 : goal.returns-then-d-eq0
returns-then-d-eq0 c = search stack

pub returns : goal.returns
returns c = search stack
