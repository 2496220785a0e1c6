-- `numbers::put_wide` meets its contract.
use Prim.Native.Nat.{◌-◌, ◌/◌, ◌^◌}
use Rattle.numerals.proofs.Digits.{Wide}
use Rattle.numerals.proofs.numbers.put_wide.Given as goal

abbrev pub invariant-loop-i : goal.invariant-loop-i
invariant-loop-i l = Wide l.e (l.n / 10 ^ (l.k - l.e)) l.initial.out l.out l.v l.i
