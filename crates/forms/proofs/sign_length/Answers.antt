-- How many bytes a sign is.
use borrow.Author.Rules.{rules}
use Rattle.forms.specs.Forms.{plus, minus, unsigned}
use Rattle.forms.proofs.Places.{a_sign}
use Rattle.forms.proofs.sign_length.Goals as goal

ruleset ways = (plus, minus, unsigned, a_sign, rules)

pub returns-in-45 : goal.returns-in-45
returns-in-45 c = search ways

pub returns-in_default : goal.returns-in_default
returns-in_default c = search ways
