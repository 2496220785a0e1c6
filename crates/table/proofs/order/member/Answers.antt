-- `order::member` meets its contract.
use Rattle.table.proofs.Awaited.{order}
use Rattle.table.proofs.order.member.Goals as goal

pub returns-then-n-e : goal.returns-then-n-e
returns-then-n-e c = search order

pub returns : goal.returns
returns c = search order
