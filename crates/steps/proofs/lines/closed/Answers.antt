-- `closed`: the sign between a closing word and its name.
use borrow.Author.Rules.{rules}
use Rattle.steps.proofs.Ways.{numbered}
use Rattle.steps.proofs.lines.closed.Goals as goal

pub returns : goal.returns
returns c = search (numbered, rules)
