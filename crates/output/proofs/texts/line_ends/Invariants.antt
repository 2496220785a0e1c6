-- `texts::line_ends` meets its contract.
use Rattle.output.proofs.Reassembly.{Next}
use Rattle.output.proofs.texts.line_ends.Given as goal

abbrev pub invariant-loop-b : goal.invariant-loop-b
invariant-loop-b l = Next l.w l.b-index
