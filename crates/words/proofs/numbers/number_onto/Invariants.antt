-- `numbers::number_onto` meets its contract.
use Rattle.words.proofs.Digits.{Adding}
use Rattle.words.proofs.numbers.number_onto.Given as goal

abbrev pub invariant-loop-b : goal.invariant-loop-b
invariant-loop-b l = Adding l.first l.ds l.cap l.n l.b-index
