-- `after_number`: the sign that begins a unit.
use borrow.Author.Rules.{rules}
use Rattle.steps.proofs.Ways.{numbered}
use Rattle.steps.proofs.lines.after_number.Goals as goal

pub returns : goal.returns
returns c = search (numbered, rules)
