-- `passes::blocks_after` meets its contract.
use native.Mathlib.Omega.{arith}
use Rattle.writer.proofs.Nesting.{full, far_start, far_end, pushes, pops, others}
use Rattle.writer.proofs.passes.blocks_after.Goals as goal

pub returns-then-b-ge-DEEPEST : goal.returns-then-b-ge-DEEPEST
returns-then-b-ge-DEEPEST c = full _ _ _ _ _ c.in-Open.is c.requires c.if-b-ge-DEEPEST.true

pub returns-then-x-gt-LONGEST_LABEL : goal.returns-then-x-gt-LONGEST_LABEL
returns-then-x-gt-LONGEST_LABEL c = far_start _ _ _ _ _ c.in-Open.is c.requires c.if-x-gt-LONGEST_LABEL.true

pub returns-then-y-gt-LONGEST_LABEL : goal.returns-then-y-gt-LONGEST_LABEL
returns-then-y-gt-LONGEST_LABEL c = far_end _ _ _ _ _ c.in-Open.is c.requires c.if-y-gt-LONGEST_LABEL.true

pub returns-else-y-gt-LONGEST_LABEL : goal.returns-else-y-gt-LONGEST_LABEL
returns-else-y-gt-LONGEST_LABEL c = pushes _ _ _ _ _ _ c.in-Open.is (omega (arith, c.if-b-ge-DEEPEST.false)) (c.push.ensures.0, c.push.ensures.1)

pub returns-in-Close : goal.returns-in-Close
returns-in-Close c = pops _ _ _ _ c.in-Close.is c.requires (c.pop.ensures.0, c.pop.ensures.1)

pub returns-in_default : goal.returns-in_default
returns-in_default c = others _ _ c.requires c.in_default.not-Open c.in_default.not-Close
