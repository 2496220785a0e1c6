-- `lines::block_equals` meets its contract.
use Rattle.steps.proofs.Ways.{openings}
use Rattle.steps.proofs.lines.block_equals.Goals as goal

pub returns-then-is_the : goal.returns-then-is_the
returns-then-is_the c = search openings

pub returns : goal.returns
returns c = search openings
