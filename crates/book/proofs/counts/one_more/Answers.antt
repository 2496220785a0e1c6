-- `counts::one_more` meets its contract.
use Prim.Native.Nat.{◌-◌}
use native.Mathlib.Omega.{arith}
use Rattle.rules.proofs.Book.Counters.{below}
use Rattle.book.proofs.counts.one_more.Goals as goal

pub overflow_add-c : goal.overflow_add-c
overflow_add-c c = omega (arith, below c.args.c (c.args.n - 1))
