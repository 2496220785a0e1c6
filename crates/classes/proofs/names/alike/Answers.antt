-- `names::alike` meets its contract.
use Rattle.std.proofs.Common.{rules}
use Rattle.classes.proofs.Folds.{alike_is}
use Rattle.classes.proofs.names.alike.Goals as goal

ruleset ways = (alike_is, rules)

pub returns : goal.returns
returns c = search ways
