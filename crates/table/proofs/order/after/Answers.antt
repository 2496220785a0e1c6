-- `order::after` meets its contract.
use Rattle.table.proofs.Awaited.{order}
use Rattle.table.proofs.order.after.Goals as goal

pub returns-in-Alone : goal.returns-in-Alone
returns-in-Alone c = search order

pub returns-in-Sequence : goal.returns-in-Sequence
returns-in-Sequence c = search order

pub returns-in-Row : goal.returns-in-Row
returns-in-Row c = search order

pub returns-in-Set : goal.returns-in-Set
returns-in-Set c = search order
