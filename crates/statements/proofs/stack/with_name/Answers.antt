-- The name in hand is the innermost block's, where there is one.
use Rattle.statements.proofs.Opened.{stack}
use Rattle.statements.proofs.stack.with_name.Goals as goal

pub returns-then-b-eq0 : goal.returns-then-b-eq0
returns-then-b-eq0 c = search stack

pub returns : goal.returns
returns c = search stack
