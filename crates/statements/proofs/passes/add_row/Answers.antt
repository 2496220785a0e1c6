-- `passes::add_row` meets its contract.
use mathlib.Core.Path.{refl}
use native.Mathlib.Omega.{arith}
use Rattle.statements.proofs.Rooms.{added, not_added}
use Rattle.rows.specs.Rows.{row_of}
use Rattle.rows.proofs.Encoding.{longest_row_lem}
use Rattle.statements.proofs.passes.add_row.Goals as goal

pub overflow_add-result : goal.overflow_add-result
overflow_add-result c = omega (arith, c.encoded_len-k.ensures, longest_row_lem (row_of c.args.row))

pub returns-then-room-n : goal.returns-then-room-n
returns-then-room-n c = not_added _ _ _ _ _ c.encoded_len-k.ensures (longest_row_lem (row_of c.args.row)) (omega arith) refl

pub overflow_add-result-then-room-n-2 : goal.overflow_add-result-then-room-n-2
overflow_add-result-then-room-n-2 c = omega (arith, c.encoded_len-k.ensures, longest_row_lem (row_of c.args.row))

pub returns-then-room-n-2 : goal.returns-then-room-n-2
returns-then-room-n-2 c = not_added _ _ _ _ _ c.encoded_len-k.ensures (longest_row_lem (row_of c.args.row)) (omega (arith, c.encoded_len-k.ensures)) refl

pub returns : goal.returns
returns c = added _ _ _ _ _ (omega arith) (omega (arith, c.encoded_len-k.ensures)) c.encode-m.ensures (longest_row_lem (row_of c.args.row))
