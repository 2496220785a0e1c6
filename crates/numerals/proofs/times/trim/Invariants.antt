-- `times::trim` meets its contract.
use Rattle.numerals.proofs.Digits.{Trimming}
use Rattle.numerals.proofs.times.trim.Given as goal

abbrev pub invariant-loop-k : goal.invariant-loop-k
invariant-loop-k l = Trimming l.n l.v l.k
