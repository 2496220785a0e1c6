-- `write_proper` meets its contract.
use native.Mathlib.Omega.{arith}
use mathlib.Core.Path.{refl}
use Rattle.writer.proofs.Rooms.{too_long, no_room, copied, passed_again}
use Rattle.writer.proofs.write_proper.Goals as goal

pub returns-then-n-gt-LONGEST_LABEL : goal.returns-then-n-gt-LONGEST_LABEL
returns-then-n-gt-LONGEST_LABEL c = too_long _ c.requires.0 c.pass-n.ensures c.if-n-gt-LONGEST_LABEL.true

pub returns-then-out-n : goal.returns-then-out-n
returns-then-out-n c = no_room _ c.requires.0 c.pass-n.ensures (omega (arith, c.if-n-gt-LONGEST_LABEL.false)) c.if-out-n.true

pub returns-then-n-le-OWN_ROOM : goal.returns-then-n-le-OWN_ROOM
returns-then-n-le-OWN_ROOM c = copied _ c.requires.0 c.pass-n.ensures (omega (arith, c.if-n-gt-LONGEST_LABEL.false)) refl (omega (arith, c.if-n-le-OWN_ROOM.true)) (omega (arith, c.if-out-n.false)) c.put_bytes.ensures

pub returns : goal.returns
returns c = passed_again _ c.requires.0 c.pass-n.ensures (omega (arith, c.if-n-gt-LONGEST_LABEL.false)) (omega (arith, c.if-out-n.false)) c.pass-m.ensures
