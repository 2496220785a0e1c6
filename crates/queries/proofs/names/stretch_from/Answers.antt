-- `names::stretch_from` meets its contract.
use borrow.Author.Rules.{rules}
use Rattle.queries.proofs.Displays.{no_name_row, name_row}
use Rattle.queries.proofs.names.stretch_from.Goals as goal

ruleset ways = (no_name_row, name_row, rules)

pub returns-in-None : goal.returns-in-None
returns-in-None c = search ways

pub returns-in-Some : goal.returns-in-Some
returns-in-Some c = search ways
