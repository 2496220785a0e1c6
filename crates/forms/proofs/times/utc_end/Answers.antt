-- The end of a time behind its Z.
use borrow.Author.Rules.{rules}
use Rattle.forms.proofs.Stamps.{utc_more, utc_ends}
use Rattle.forms.proofs.times.utc_end.Goals as goal

ruleset ways = (utc_more, utc_ends, rules)

pub returns-then-at-w : goal.returns-then-at-w
returns-then-at-w c = search ways

pub returns : goal.returns
returns c = search ways
