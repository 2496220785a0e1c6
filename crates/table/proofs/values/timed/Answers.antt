-- `values::timed` meets its contract.
use Rattle.table.proofs.Worths.{values}
use Rattle.table.proofs.values.timed.Goals as goal

pub returns : goal.returns
returns c = search values
