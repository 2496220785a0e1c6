-- `numbers::in_base` meets its contract.
use Rattle.words.proofs.Digits.{Basing}
use Rattle.words.proofs.numbers.in_base.Given as goal

abbrev pub invariant-loop-b : goal.invariant-loop-b
invariant-loop-b l = Basing l.radix l.ds l.n l.b-index
