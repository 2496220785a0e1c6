-- `push` meets its contract.
use Rattle.blocks.proofs.Opened.{stack}
use Rattle.blocks.proofs.push.Goals as goal

pub returns : goal.returns
returns c = search stack
