-- The bytes between two places, counted.
use borrow.Author.Rules.{rules}
use Rattle.forms.proofs.Counts.{many, too_many}
use Rattle.forms.proofs.ends.counted.Goals as goal

ruleset ways = (many, too_many, rules)

pub returns-then-contains : goal.returns-then-contains
returns-then-contains c = search ways

pub returns-else-contains : goal.returns-else-contains
returns-else-contains c = search ways
