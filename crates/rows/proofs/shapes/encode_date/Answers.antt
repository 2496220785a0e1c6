-- `shapes::encode_date` meets its contract.
use Rattle.rows.proofs.Writing.{onward}
use Rattle.rows.proofs.shapes.encode_date.Goals as goal

pub returns : goal.returns
returns c = rw (← c.from.ensures) (onward (onward (onward (onward c.encode_byte-n.ensures c.encode_byte.ensures) c.encode_number.ensures) c.encode_byte-2.ensures) c.encode_byte-i.ensures)
