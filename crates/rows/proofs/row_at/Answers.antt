-- `row_at` meets its contract.
use Rattle.rows.proofs.Decoding.{rowed}
use Rattle.rows.proofs.row_at.Goals as goal

pub returns-then-n-at : goal.returns-then-n-at
returns-then-n-at c = search rowed

pub returns-then-n-at-2 : goal.returns-then-n-at-2
returns-then-n-at-2 c = search rowed

pub returns-in_err-row : goal.returns-in_err-row
returns-in_err-row c = search rowed

pub returns : goal.returns
returns c = search rowed
