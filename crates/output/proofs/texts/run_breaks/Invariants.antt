-- `texts::run_breaks` meets its contract.
use Rattle.output.proofs.Reassembly.{Breaks}
use Rattle.output.proofs.texts.run_breaks.Given as goal

abbrev pub invariant-loop-b : goal.invariant-loop-b
invariant-loop-b l = Breaks l.w l.b-index
