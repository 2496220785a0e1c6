-- `fields::number_at` meets its contract.
use Rattle.rows.proofs.Octets.{Number}
use Rattle.rows.proofs.fields.number_at.Given as goal

abbrev pub invariant-loop-j : goal.invariant-loop-j
invariant-loop-j g l = Number l.j l.b l.i l.v
