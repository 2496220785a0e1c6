-- `check` meets its contract.
use Rattle.table.proofs.Checking.{starts, stops_none, stops_bad, stops_order, stays, turn, ends, ends_early}
use Rattle.table.proofs.check.Goals as goal

pub loop-at-init : goal.loop-at-init
loop-at-init c = starts _ _ _ c.no_blocks-b.ensures.0 c.no_blocks-b.ensures.1

pub returns-in_default : goal.returns-in_default
returns-in_default c = stops_none _ _ c.requires _ _ _ _ _ c.loop-at.invariant c.loop-at-test.true c.row_at.ensures c.in_default.is

pub returns-then-not-good : goal.returns-then-not-good
returns-then-not-good c = stops_bad _ _ c.requires _ _ _ _ c.row_at.ensures c.in-Some.is _ _ _ _ c.loop-at.invariant c.loop-at-test.true c.good.ensures c.if-not-good.true

pub returns-in_default-next : goal.returns-in_default-next
returns-in_default-next c = stops_order _ _ c.requires _ _ _ _ c.row_at.ensures c.in-Some.is _ _ _ _ _ c.loop-at.invariant c.loop-at-test.true c.sort_of-n.ensures c.next.ensures c.in_default-next.is

pub loop-at-preserved-then-n : goal.loop-at-preserved-then-n
loop-at-preserved-then-n c = stays _ _ c.requires _ _ _ _ c.row_at.ensures c.in-Some.is _ _ _ _ _ _ _ c.loop-at.invariant c.good.ensures c.if-not-good.false c.sort_of-n.ensures c.next.ensures c.in-Some-next.is c.if-n.true

pub loop-at-preserved : goal.loop-at-preserved
loop-at-preserved c = turn _ _ c.requires _ _ _ _ c.row_at.ensures c.in-Some.is _ _ _ _ _ _ _ _ _ c.loop-at.invariant c.good.ensures c.if-not-good.false c.sort_of-n.ensures c.next.ensures c.in-Some-next.is c.nested-b.ensures c.top_of-top.ensures

pub returns-in-End : goal.returns-in-End
returns-in-End c = ends _ _ c.requires _ _ _ _ c.loop-at.invariant c.loop-at-test.false c.in-End.is

pub returns : goal.returns
returns c = ends_early _ _ c.requires _ _ _ _ c.loop-at.invariant c.loop-at-test.false c.in_default-t.not-End
