-- `texts::put_whole` meets its contract.
use Rattle.queries.proofs.Displays.{room_short, room_fits}
use Rattle.queries.proofs.texts.put_whole.Goals as goal

pub returns-then-room-n : goal.returns-then-room-n
returns-then-room-n c = room_short _ _ _ _ c.put_reassembled-n.ensures.0 c.if-room-n.true

pub returns : goal.returns
returns c = room_fits _ _ _ _ c.put_reassembled-n.ensures.0 _ _ c.if-room-n.false c.put_reassembled-m.ensures.0
