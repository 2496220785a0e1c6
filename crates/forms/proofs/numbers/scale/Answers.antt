-- A real from the end of its decimals on, answer by answer.
use borrow.Author.Rules.{rules}
use Rattle.forms.specs.Laid.{behind}
use Rattle.forms.proofs.Numerals.{scale_ends, scale_other, scale_power}
use Rattle.forms.proofs.numbers.scale.Goals as goal

ruleset ways = (behind, scale_ends, rules)

pub returns-then-at-w : goal.returns-then-at-w
returns-then-at-w c = search ways

pub returns-then-not-is_mark : goal.returns-then-not-is_mark
returns-then-not-is_mark c = scale_other c.args.w.now _ _ _ c.args.at c.requires.at_in_bounds c.if-at-w.false _ c.is_mark.ensures c.if-not-is_mark.true-raw

pub returns : goal.returns
returns c = scale_power c.args.w.now _ _ _ c.args.at c.requires.at_in_bounds c.if-at-w.false _ c.is_mark.ensures _ c.if-not-is_mark.false-raw c.power.ensures

pub power-requires-clause-behind : goal.power-requires-clause-behind
power-requires-clause-behind c = search ways
