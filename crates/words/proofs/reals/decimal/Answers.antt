-- `reals::decimal` meets its contract.
use borrow.Author.Rules.{rules}
use Rattle.words.proofs.Decimals.{decimal_before, decimal_behind}
use Rattle.words.proofs.reals.decimal.Goals as goal

ruleset ways = (decimal_before, decimal_behind, rules)

pub returns-then-r-eq0 : goal.returns-then-r-eq0
returns-then-r-eq0 c = search ways

pub returns : goal.returns
returns c = search ways
