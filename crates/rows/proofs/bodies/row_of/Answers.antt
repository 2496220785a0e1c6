-- `bodies::row_of` meets its contract.
use Rattle.rows.proofs.Decoding.{bodies}
use Rattle.rows.proofs.bodies.row_of.Goals as goal

pub returns-then-k-eq-LAST : goal.returns-then-k-eq-LAST
returns-then-k-eq-LAST c = search bodies

pub returns-then-k-gt-SET_END : goal.returns-then-k-gt-SET_END
returns-then-k-gt-SET_END c = search bodies

pub returns-in-1 : goal.returns-in-1
returns-in-1 c = search bodies

pub returns-in-2 : goal.returns-in-2
returns-in-2 c = search bodies

pub returns-in-3 : goal.returns-in-3
returns-in-3 c = search bodies

pub returns-in-4 : goal.returns-in-4
returns-in-4 c = search bodies

pub returns-in-5 : goal.returns-in-5
returns-in-5 c = search bodies

pub returns-in-6 : goal.returns-in-6
returns-in-6 c = search bodies

pub returns-in-10 : goal.returns-in-10
returns-in-10 c = search bodies

pub returns-in-11 : goal.returns-in-11
returns-in-11 c = search bodies

pub returns-in-12 : goal.returns-in-12
returns-in-12 c = search bodies

pub returns-in-13 : goal.returns-in-13
returns-in-13 c = search bodies

pub returns-in-14 : goal.returns-in-14
returns-in-14 c = search bodies

pub returns-in-15 : goal.returns-in-15
returns-in-15 c = search bodies

pub returns-in-20 : goal.returns-in-20
returns-in-20 c = search bodies

pub returns-in-21 : goal.returns-in-21
returns-in-21 c = search bodies

pub returns-in-22 : goal.returns-in-22
returns-in-22 c = search bodies

pub returns-in-23 : goal.returns-in-23
returns-in-23 c = search bodies

pub returns-in_default : goal.returns-in_default
returns-in_default c = search bodies
