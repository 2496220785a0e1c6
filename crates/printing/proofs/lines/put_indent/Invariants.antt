-- `lines::put_indent` meets its contract.
use Rattle.printing.proofs.Between.{Indenting}
use Rattle.printing.proofs.lines.put_indent.Given as goal

abbrev pub invariant-loop : goal.invariant-loop
invariant-loop l = Indenting l.initial.out l.out l.n l.counter
