-- `order::value` meets its contract.
use Rattle.table.proofs.Awaited.{order}
use Rattle.table.proofs.order.value.Goals as goal

pub returns-then-n-eq-SEQUENCE : goal.returns-then-n-eq-SEQUENCE
returns-then-n-eq-SEQUENCE c = search order

pub returns-then-n-eq-SET : goal.returns-then-n-eq-SET
returns-then-n-eq-SET c = search order

pub returns : goal.returns
returns c = search order
