-- Each turn of the loop is one constructor of the rule, told at the byte behind.
use mathlib.Core.Path.{refl}
use Rattle.elements.proofs.Comments.{begins, closed, stops_here, onward, comes_out}
use Rattle.elements.proofs.ends.comment_end.Goals as goal

pub loop-i-init : goal.loop-i-init
loop-i-init c = begins _ _ c.requires

pub overflow_sub-result : goal.overflow_sub-result
overflow_sub-result c = (closed _ _ _ c.loop-i-test.true c.loop-i.star _ c.loop-i.invariant refl c.if-star-b.true).0

pub returns-then-star-b : goal.returns-then-star-b
returns-then-star-b c = (closed _ _ _ c.loop-i-test.true c.loop-i.star _ c.loop-i.invariant refl c.if-star-b.true).1

pub returns-then-not-in_comment : goal.returns-then-not-in_comment
returns-then-not-in_comment c = stops_here _ _ _ c.loop-i-test.true c.loop-i.star _ c.loop-i.invariant refl _ c.if-star-b.false c.in_comment.ensures c.if-not-in_comment.true

pub loop-i-preserved : goal.loop-i-preserved
loop-i-preserved c = onward _ _ _ c.loop-i-test.true c.loop-i.star _ c.loop-i.invariant refl _ c.if-star-b.false c.in_comment.ensures _ c.if-not-in_comment.false refl

pub returns : goal.returns
returns c = comes_out _ _ _ c.loop-i.star c.loop-i.invariant c.loop-i-test.false
