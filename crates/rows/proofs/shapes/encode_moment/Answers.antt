-- `shapes::encode_moment` meets its contract.
use Rattle.rows.proofs.Writing.{onward}
use Rattle.rows.proofs.shapes.encode_moment.Goals as goal

pub returns : goal.returns
returns c = onward (onward (onward c.encode_date-n.ensures c.encode_clock.ensures) c.encode_number.ensures) c.encode_byte-j.ensures
