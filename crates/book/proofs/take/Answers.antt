-- `take` meets its contract.
use Rattle.book.proofs.Answers.{take_refused, may_add, take_counted}
use Rattle.book.proofs.take.Goals as goal

pub returns-in-Err : goal.returns-in-Err
returns-in-Err c = rw (c.kept-in-Err.ensures.0, c.kept-in-Err.ensures.1) (take_refused _ _ c.in-Err.ensures)

pub one_more-counts-requires : goal.one_more-counts-requires
one_more-counts-requires c = may_add _ c.in-Ok.ensures c.total.ensures c.if-total-ge-FULL.false c.part.ensures c.counter-k.ensures

pub returns-in-Ok : goal.returns-in-Ok
returns-in-Ok c = take_counted _ c.in-Ok.ensures c.total.ensures c.if-total-ge-FULL.false c.part.ensures c.counter-k.ensures c.one_more-counts.ensures
