-- A real behind its period, answer by answer.
use borrow.Author.Rules.{rules}
use Rattle.forms.specs.Laid.{pointed_to}
use Rattle.forms.proofs.Numerals.{pointed_none, pointed_some}
use Rattle.forms.proofs.numbers.pointed.Goals as goal

ruleset ways = (pointed_to, pointed_none, pointed_some, rules)

pub returns-then-e-from-eq1 : goal.returns-then-e-from-eq1
returns-then-e-from-eq1 c = search ways

pub returns : goal.returns
returns c = search ways

pub scale-requires-clause-mantissa_to : goal.scale-requires-clause-mantissa_to
scale-requires-clause-mantissa_to c = search ways
