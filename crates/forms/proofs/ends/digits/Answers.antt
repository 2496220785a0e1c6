-- Digits, counted.
use borrow.Author.Rules.{rules}
use Rattle.forms.specs.Laid.{digits_at}
use Rattle.forms.proofs.ends.digits.Goals as goal

ruleset ways = (digits_at, rules)

pub returns : goal.returns
returns c = search ways
