-- `texts::text_of` meets its contract.
use borrow.Author.Rules.{rules}
use Rattle.queries.proofs.Displays.{text_is, no_text}
use Rattle.queries.proofs.texts.text_of.Goals as goal

ruleset ways = (text_is, rules)

pub returns-in-Text : goal.returns-in-Text
returns-in-Text c = search ways

pub returns-in_default : goal.returns-in_default
returns-in_default c = no_text c.args.row c.in_default.not-Text
