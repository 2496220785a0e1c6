-- `order::scalar` meets its contract.
use Rattle.table.proofs.Awaited.{order}
use Rattle.table.proofs.order.scalar.Goals as goal

pub returns-then-n-eq-INTEGER : goal.returns-then-n-eq-INTEGER
returns-then-n-eq-INTEGER c = search order

pub returns-then-n-eq-TEXT : goal.returns-then-n-eq-TEXT
returns-then-n-eq-TEXT c = search order

pub returns : goal.returns
returns c = search order
