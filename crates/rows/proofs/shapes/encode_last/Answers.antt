-- `shapes::encode_last` meets its contract.
use Rattle.rows.proofs.Writing.{onward}
use Rattle.rows.proofs.shapes.encode_last.Goals as goal

pub returns : goal.returns
returns c = onward c.encode_byte-n.ensures c.encode_number-m.ensures
