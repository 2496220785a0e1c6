-- `numbers::put_wide` meets its contract.
use borrow.Author.Rules.{rules}
use Rattle.numerals.proofs.Digits.{wide_start, wide_turn, wide_end}
use Rattle.numerals.proofs.numbers.put_wide.Goals as goal

ruleset ways = (wide_start, wide_turn, rules)

pub loop-i-init : goal.loop-i-init
loop-i-init c = search ways

pub loop-i-preserved : goal.loop-i-preserved
loop-i-preserved c = search ways

pub returns : goal.returns
returns c = wide_end _ _ _ _ _ _ _ c.min-e.ensures c.loop-i.invariant c.loop-i-test.false
