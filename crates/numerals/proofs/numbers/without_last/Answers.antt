-- `numbers::without_last` meets its contract.
use borrow.Author.Rules.{rules}
use native.Mathlib.Omega.{arith}
use Rattle.numerals.proofs.Digits.{fewer_start, fewer_turn, fewer_end}
use Rattle.numerals.proofs.numbers.without_last.Goals as goal

ruleset ways = (fewer_start, fewer_turn, rules)

pub loop-init : goal.loop-init
loop-init c = search ways

pub loop-preserved : goal.loop-preserved
loop-preserved c = search ways

pub returns : goal.returns
returns c = fewer_end _ _ _ _ c.loop.invariant (omega arith)
