-- `order::sequences` meets its contract.
use Rattle.table.proofs.Awaited.{order}
use Rattle.table.proofs.order.sequences.Goals as goal

pub returns-then-n-eq-SEQUENCE : goal.returns-then-n-eq-SEQUENCE
returns-then-n-eq-SEQUENCE c = search order

pub returns-then-n-eq-SEQUENCE_END : goal.returns-then-n-eq-SEQUENCE_END
returns-then-n-eq-SEQUENCE_END c = search order

pub returns : goal.returns
returns c = search order
