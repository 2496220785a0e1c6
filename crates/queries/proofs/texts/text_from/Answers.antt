-- `texts::text_from` meets its contract.
use borrow.Author.Rules.{rules}
use Rattle.queries.proofs.Displays.{no_text_row, text_shown, text_none}
use Rattle.queries.proofs.texts.text_from.Goals as goal

ruleset ways = (no_text_row, text_shown, text_none, rules)

pub returns-in_default : goal.returns-in_default
returns-in_default c = search ways

pub returns-in-Some-text_of : goal.returns-in-Some-text_of
returns-in-Some-text_of c = search ways

pub returns-in-None : goal.returns-in-None
returns-in-None c = search ways
