-- `fields::size_of` meets its contract.
use Rattle.rows.proofs.Octets.{numbers}
use Rattle.rows.proofs.fields.size_of.Goals as goal

pub returns-then-half-v : goal.returns-then-half-v
returns-then-half-v c = search numbers

pub returns : goal.returns
returns c = search numbers
