-- `counter` meets its contract.
use Rattle.book.proofs.Sessions.{sessions}
use Rattle.book.proofs.counter.Goals as goal

pub returns : goal.returns
returns c = search sessions
