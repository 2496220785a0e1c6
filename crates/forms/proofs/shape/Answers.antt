-- The form of a word, by its first byte.
use borrow.Author.Rules.{rules}
use Rattle.forms.proofs.First.{letter_there, sign_laid, shape_name, shape_unnamed, sign_there, shape_number}
use Rattle.forms.proofs.shape.Goals as goal

ruleset ways = (letter_there, sign_laid, shape_name, shape_unnamed, sign_there, shape_number, rules)

pub returns-then-is_more : goal.returns-then-is_more
returns-then-is_more c = search ways

pub returns-then-is_letter : goal.returns-then-is_letter
returns-then-is_letter c = search ways

pub returns : goal.returns
returns c = search ways

pub number_at-requires-clause-sign_to : goal.number_at-requires-clause-sign_to
number_at-requires-clause-sign_to c = search ways
