-- `places::way_of` meets its contract.
use borrow.Author.Rules.{rules}
use Rattle.queries.proofs.Ways.{way_is, plain_way}
use Rattle.queries.proofs.places.way_of.Goals as goal

ruleset ways = (way_is, rules)

pub returns-in-Attribute : goal.returns-in-Attribute
returns-in-Attribute c = search ways

pub returns-in-Open : goal.returns-in-Open
returns-in-Open c = search ways

pub returns-in-Close : goal.returns-in-Close
returns-in-Close c = search ways

pub returns-in-Last : goal.returns-in-Last
returns-in-Last c = search ways

pub returns-in_default : goal.returns-in_default
returns-in_default c = let d = c.in_default in plain_way c.args.row d.not-Attribute d.not-Open d.not-Close d.not-Last
