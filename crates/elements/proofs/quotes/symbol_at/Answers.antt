-- `quotes::symbol_at` meets its contract.
use borrow.Author.Rules.{rules}
use Rattle.elements.proofs.Quoted.{symbol_broken, symbol_empty, symbol_long, symbol_closed}
use Rattle.elements.proofs.quotes.symbol_at.Goals as goal

ruleset ways = (symbol_broken, symbol_empty, symbol_long, symbol_closed, rules)

pub returns-then-byte_at-ne39 : goal.returns-then-byte_at-ne39
returns-then-byte_at-ne39 c = search ways

pub returns-then-e-at : goal.returns-then-e-at
returns-then-e-at c = search ways

pub returns-then-at-e : goal.returns-then-at-e
returns-then-at-e c = search ways

pub returns : goal.returns
returns c = search ways
