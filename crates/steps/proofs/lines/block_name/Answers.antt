-- `lines::block_name` meets its contract.
use Rattle.steps.proofs.Ways.{openings}
use Rattle.steps.proofs.lines.block_name.Goals as goal

pub returns-in_default : goal.returns-in_default
returns-in_default c = search openings

pub returns : goal.returns
returns c = search openings
