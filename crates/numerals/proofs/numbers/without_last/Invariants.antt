-- `numbers::without_last` meets its contract.
use Rattle.numerals.proofs.Digits.{Fewer}
use Rattle.numerals.proofs.numbers.without_last.Given as goal

abbrev pub invariant-loop : goal.invariant-loop
invariant-loop l = Fewer l.n l.v l.counter
