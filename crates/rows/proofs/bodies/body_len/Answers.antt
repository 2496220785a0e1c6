-- `bodies::body_len` meets its contract.
use Rattle.rows.proofs.Decoding.{lengths}
use Rattle.rows.proofs.bodies.body_len.Goals as goal

pub returns-then-k-eq-LAST : goal.returns-then-k-eq-LAST
returns-then-k-eq-LAST c = search lengths

pub returns-else-k-eq-LAST : goal.returns-else-k-eq-LAST
returns-else-k-eq-LAST c = search lengths

pub returns-in-1 : goal.returns-in-1
returns-in-1 c = search lengths

pub returns-in-2 : goal.returns-in-2
returns-in-2 c = search lengths

pub returns-in-3 : goal.returns-in-3
returns-in-3 c = search lengths

pub returns-in-5 : goal.returns-in-5
returns-in-5 c = search lengths

pub returns-in-10 : goal.returns-in-10
returns-in-10 c = search lengths

pub returns-in-11 : goal.returns-in-11
returns-in-11 c = search lengths

pub returns-in-12 : goal.returns-in-12
returns-in-12 c = search lengths

pub returns-in-13 : goal.returns-in-13
returns-in-13 c = search lengths

pub returns-in-14 : goal.returns-in-14
returns-in-14 c = search lengths

pub returns-in-15 : goal.returns-in-15
returns-in-15 c = search lengths

pub returns-in_default : goal.returns-in_default
returns-in_default c = search lengths
