-- `marks::star_at` meets its contract.
use borrow.Author.Rules.{rules}
use Rattle.elements.proofs.Signs.{two_star, lone_star}
use Rattle.elements.proofs.marks.star_at.Goals as goal

ruleset ways = (two_star, lone_star, rules)

pub returns-then-byte_at-eq42 : goal.returns-then-byte_at-eq42
returns-then-byte_at-eq42 c = search ways

pub returns : goal.returns
returns c = search ways
