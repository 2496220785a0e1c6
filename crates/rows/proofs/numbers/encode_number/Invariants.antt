-- `numbers::encode_number` meets its contract.
use Rattle.rows.proofs.Writing.{Laid}
use Rattle.rows.proofs.numbers.encode_number.Given as goal

abbrev pub invariant-loop-i : goal.invariant-loop-i
invariant-loop-i g l = Laid g.row.N l.v l.initial.out l.i l.out l.left
