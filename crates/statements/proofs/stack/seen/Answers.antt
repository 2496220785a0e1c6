-- `stack::seen` meets its contract.
use Rattle.statements.proofs.Opened.{stack}
use Rattle.statements.proofs.stack.seen.Goals as goal

pub returns : goal.returns
returns c = search stack
