-- `order::nested` meets its contract.
use Rattle.table.proofs.Awaited.{order}
use Rattle.table.proofs.order.nested.Goals as goal

pub returns-then-n-eq-OPEN_OBJECT : goal.returns-then-n-eq-OPEN_OBJECT
returns-then-n-eq-OPEN_OBJECT c = search order

pub returns-then-n-eq-OPEN_GROUP : goal.returns-then-n-eq-OPEN_GROUP
returns-then-n-eq-OPEN_GROUP c = search order

pub returns-then-n-eq-CLOSE_OBJECT : goal.returns-then-n-eq-CLOSE_OBJECT
returns-then-n-eq-CLOSE_OBJECT c = search order

pub returns-then-n-eq-CLOSE_GROUP : goal.returns-then-n-eq-CLOSE_GROUP
returns-then-n-eq-CLOSE_GROUP c = search order

pub returns : goal.returns
returns c = search order
