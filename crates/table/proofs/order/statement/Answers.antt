-- `order::statement` meets its contract.
use Rattle.table.proofs.Awaited.{order}
use Rattle.table.proofs.order.statement.Goals as goal

pub returns-then-n-eq-ATTRIBUTE : goal.returns-then-n-eq-ATTRIBUTE
returns-then-n-eq-ATTRIBUTE c = search order

pub returns-then-n-eq-POINTER : goal.returns-then-n-eq-POINTER
returns-then-n-eq-POINTER c = search order

pub returns-then-n-eq-OPEN_OBJECT : goal.returns-then-n-eq-OPEN_OBJECT
returns-then-n-eq-OPEN_OBJECT c = search order

pub returns-then-n-eq-OPEN_GROUP : goal.returns-then-n-eq-OPEN_GROUP
returns-then-n-eq-OPEN_GROUP c = search order

pub returns : goal.returns
returns c = search order
