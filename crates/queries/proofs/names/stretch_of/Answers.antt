-- `names::stretch_of` meets its contract.
use borrow.Author.Rules.{rules}
use Rattle.queries.proofs.Displays.{name_is, no_name}
use Rattle.queries.proofs.names.stretch_of.Goals as goal

ruleset ways = (name_is, rules)

pub returns-in-Attribute : goal.returns-in-Attribute
returns-in-Attribute c = search ways

pub returns-in_default : goal.returns-in_default
returns-in_default c = let d = c.in_default in no_name c.args.row d.not-Attribute d.not-Pointer d.not-Open d.not-Symbol d.not-Unit
