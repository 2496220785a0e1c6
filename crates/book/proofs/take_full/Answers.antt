-- `take_full` meets its contract.
use mathlib.Core.Path.{refl}
use Rattle.book.proofs.Answers.{full_fits, full_refused, full_short, full_full}
use Rattle.book.proofs.take_full.Goals as goal

pub returns-in_default : goal.returns-in_default
returns-in_default c = full_fits _ refl c.in_default.ensures

pub returns-then-a-room : goal.returns-then-a-room
returns-then-a-room c = full_full _ c.in-Err.ensures c.in-NoRoom.is c.if-a-room.true

pub returns-else-a-room : goal.returns-else-a-room
returns-else-a-room c = full_short _ c.in-Err.ensures c.in-NoRoom.is c.if-a-room.false

pub returns-in_default-r : goal.returns-in_default-r
returns-in_default-r c = full_refused _ c.in-Err.ensures c.in_default-r.not-NoRoom
