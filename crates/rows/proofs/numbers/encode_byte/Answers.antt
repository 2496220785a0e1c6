-- `numbers::encode_byte` meets its contract.
use Rattle.rows.proofs.Writing.{writes}
use Rattle.rows.proofs.numbers.encode_byte.Goals as goal

pub returns : goal.returns
returns c = search writes
