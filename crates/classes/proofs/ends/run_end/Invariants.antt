-- Each turn of the loop is one constructor of the rule.
use Rattle.rules.specs.Bytes.{front}
use Rattle.classes.proofs.Runs.{Passing}
use Rattle.classes.proofs.ends.run_end.Given as goal

abbrev pub invariant-loop-i : goal.invariant-loop-i
invariant-loop-i g l = Passing (front g.C.Class.holds) l.s l.at l.i
