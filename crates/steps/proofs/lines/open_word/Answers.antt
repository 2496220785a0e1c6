-- `lines::open_word` meets its contract.
use Rattle.steps.proofs.Starts.{begins}
use Rattle.steps.proofs.lines.open_word.Goals as goal

pub returns-then-is_full : goal.returns-then-is_full
returns-then-is_full c = search begins

pub returns : goal.returns
returns c = search begins
