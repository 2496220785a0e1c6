-- `no_blocks` meets its contract.
use Rattle.blocks.proofs.Opened.{stack}
use Rattle.blocks.proofs.no_blocks.Goals as goal

pub returns : goal.returns
returns c = search stack
