-- `order::opened` meets its contract.
use Rattle.table.proofs.Awaited.{order}
use Rattle.table.proofs.order.opened.Goals as goal

pub returns-then-full : goal.returns-then-full
returns-then-full c = search order

pub returns : goal.returns
returns c = search order
