-- `values::moment_held` meets its contract.
use Rattle.table.proofs.Worths.{values}
use Rattle.table.proofs.values.moment_held.Goals as goal

pub returns : goal.returns
returns c = search values
