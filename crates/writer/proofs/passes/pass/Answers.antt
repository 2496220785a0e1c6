-- One pass over the rows: what holds between two of them, and each way out.
use borrow.Author.Rules.{rules}
use Rattle.writer.proofs.Passing.{begins, ready, bounded, missing, over, again_plain, again_nested, nearer, ends}
use Rattle.writer.proofs.passes.pass.Goals as goal

ruleset ways = (begins, ready, bounded, missing, over, again_plain, again_nested, nearer, ends, rules)

pub loop-at-init : goal.loop-at-init
loop-at-init c = search ways

pub returns-in_default : goal.returns-in_default
returns-in_default c = search ways

pub returns-then-n-gt-LONGEST_LABEL : goal.returns-then-n-gt-LONGEST_LABEL
returns-then-n-gt-LONGEST_LABEL c = search ways

pub loop-at-preserved-then-not-nests : goal.loop-at-preserved-then-not-nests
loop-at-preserved-then-not-nests c = search ways

pub loop-at-preserved : goal.loop-at-preserved
loop-at-preserved c = search ways

pub returns : goal.returns
returns c = search ways

pub loop-at-smaller : goal.loop-at-smaller
loop-at-smaller c = search ways
