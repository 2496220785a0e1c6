-- The digits of a based integer, answer by answer.
use borrow.Author.Rules.{rules}
use Rattle.forms.proofs.Numerals.{radix_none, radix_open, radix_more, radix_ends}
use Rattle.forms.proofs.numbers.radix_digits.Goals as goal

ruleset ways = (radix_none, radix_open, radix_more, rules)

pub returns-then-e-at : goal.returns-then-e-at
returns-then-e-at c = search ways

pub returns-then-byte_at-ne35 : goal.returns-then-byte_at-ne35
returns-then-byte_at-ne35 c = search ways

pub returns-then-e-w : goal.returns-then-e-w
returns-then-e-w c = search ways

pub returns : goal.returns
returns c = radix_ends c.args.w.now c.args.radix c.args.neg c.args.at _ c.run_end-e.ensures c.if-e-at.false _ c.byte_at.ensures c.requires.based_to c.if-byte_at-ne35.false c.if-e-w.false
