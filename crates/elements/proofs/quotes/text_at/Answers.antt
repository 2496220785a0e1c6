-- `quotes::text_at` meets its contract.
use borrow.Author.Rules.{rules}
use Rattle.elements.proofs.Quoted.{text_closed, text_open, text_foreign}
use Rattle.elements.proofs.quotes.text_at.Goals as goal

ruleset ways = (text_closed, text_open, text_foreign, rules)

pub returns-then-e-label : goal.returns-then-e-label
returns-then-e-label c = search ways

pub returns-then-label-e-eq34 : goal.returns-then-label-e-eq34
returns-then-label-e-eq34 c = search ways

pub returns : goal.returns
returns c = search ways
