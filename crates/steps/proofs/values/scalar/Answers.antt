-- `scalar`: a scalar of each sort, and an element that is none.
use Rattle.steps.proofs.Ways.{ways}
use Rattle.steps.proofs.values.scalar.Goals as goal

pub returns-in-Name : goal.returns-in-Name
returns-in-Name c = search ways

pub returns-in-Integer : goal.returns-in-Integer
returns-in-Integer c = search ways

pub returns-in-Based : goal.returns-in-Based
returns-in-Based c = search ways

pub returns-in-Float : goal.returns-in-Float
returns-in-Float c = search ways

pub returns-in-Time : goal.returns-in-Time
returns-in-Time c = search ways

pub returns-in-Text : goal.returns-in-Text
returns-in-Text c = search ways

pub returns-in-Symbol : goal.returns-in-Symbol
returns-in-Symbol c = search ways

pub returns-in_default : goal.returns-in_default
returns-in_default c = search ways
