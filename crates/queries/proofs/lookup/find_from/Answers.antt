-- `lookup::find_from` meets its contract.
use borrow.Author.Rules.{rules}
use Rattle.queries.proofs.Lookups.{finds_no_row, finds_line, finds_none}
use Rattle.queries.proofs.lookup.find_from.Goals as goal

ruleset ways = (finds_no_row, finds_line, finds_none, rules)

pub returns-in_default : goal.returns-in_default
returns-in_default c = search ways

pub returns-then-is_line : goal.returns-then-is_line
returns-then-is_line c = search ways

pub returns : goal.returns
returns c = search ways
