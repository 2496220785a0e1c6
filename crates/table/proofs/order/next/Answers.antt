-- `order::next` meets its contract.
use Rattle.table.proofs.Awaited.{order}
use Rattle.table.proofs.order.next.Goals as goal

pub returns-then-n-eq-UNIT : goal.returns-then-n-eq-UNIT
returns-then-n-eq-UNIT c = search order

pub returns-then-n-eq-FURTHER_UNIT : goal.returns-then-n-eq-FURTHER_UNIT
returns-then-n-eq-FURTHER_UNIT c = search order

pub returns-in-After : goal.returns-in-After
returns-in-After c = search order

pub returns-else-n-eq-UNIT : goal.returns-else-n-eq-UNIT
returns-else-n-eq-UNIT c = search order

pub returns-else-n-eq-FURTHER_UNIT : goal.returns-else-n-eq-FURTHER_UNIT
returns-else-n-eq-FURTHER_UNIT c = search order

pub returns-in-Value : goal.returns-in-Value
returns-in-Value c = search order

pub returns-in-First : goal.returns-in-First
returns-in-First c = search order

pub returns-in-SetFirst : goal.returns-in-SetFirst
returns-in-SetFirst c = search order

pub returns-in-InRow : goal.returns-in-InRow
returns-in-InRow c = search order

pub returns-in-Rows : goal.returns-in-Rows
returns-in-Rows c = search order

pub returns-in-End : goal.returns-in-End
returns-in-End c = search order
