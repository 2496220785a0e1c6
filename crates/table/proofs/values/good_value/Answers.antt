-- `values::good_value` meets its contract.
use Rattle.table.proofs.Worths.{values}
use Rattle.table.proofs.values.good_value.Goals as goal

pub returns-in-Integer : goal.returns-in-Integer
returns-in-Integer c = search values

pub returns-in-Float : goal.returns-in-Float
returns-in-Float c = search values

pub returns-in-Time : goal.returns-in-Time
returns-in-Time c = search values

pub returns-in-Unit : goal.returns-in-Unit
returns-in-Unit c = search values
