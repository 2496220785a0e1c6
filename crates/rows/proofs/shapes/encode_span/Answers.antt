-- `shapes::encode_span` meets its contract.
use Rattle.rows.proofs.Writing.{onward}
use Rattle.rows.proofs.shapes.encode_span.Goals as goal

pub returns : goal.returns
returns c = onward (onward c.encode_byte-n.ensures c.encode_number.ensures) c.encode_number-j.ensures
