-- `order::sort_of` meets its contract.
use Rattle.table.proofs.Awaited.{order}
use Rattle.table.proofs.order.sort_of.Goals as goal

pub returns-in-Attribute : goal.returns-in-Attribute
returns-in-Attribute c = search order

pub returns-in-Pointer : goal.returns-in-Pointer
returns-in-Pointer c = search order

pub returns-in-Open : goal.returns-in-Open
returns-in-Open c = search order

pub returns-in-Close : goal.returns-in-Close
returns-in-Close c = search order

pub returns-in-Integer : goal.returns-in-Integer
returns-in-Integer c = search order

pub returns-in-Float : goal.returns-in-Float
returns-in-Float c = search order

pub returns-in-Time : goal.returns-in-Time
returns-in-Time c = search order

pub returns-in-Text : goal.returns-in-Text
returns-in-Text c = search order

pub returns-in-Symbol : goal.returns-in-Symbol
returns-in-Symbol c = search order

pub returns-in-Unit : goal.returns-in-Unit
returns-in-Unit c = search order

pub returns-in-Sequence : goal.returns-in-Sequence
returns-in-Sequence c = search order

pub returns-in-SequenceEnd : goal.returns-in-SequenceEnd
returns-in-SequenceEnd c = search order

pub returns-in-Set : goal.returns-in-Set
returns-in-Set c = search order

pub returns-in-SetEnd : goal.returns-in-SetEnd
returns-in-SetEnd c = search order

pub returns-in-Last : goal.returns-in-Last
returns-in-Last c = search order
