-- `fields::octet` meets its contract.
use Rattle.rows.proofs.Octets.{numbers}
use Rattle.rows.proofs.fields.octet.Goals as goal

pub returns : goal.returns
returns c = search numbers
