-- `values::dated` meets its contract.
use Rattle.table.proofs.Worths.{values}
use Rattle.table.proofs.values.dated.Goals as goal

pub returns : goal.returns
returns c = search values
