-- `bytes::put_folded` meets its contract.
use mathlib.Core.List.{map}
use Rattle.rules.specs.Bytes.{fold}
use Rattle.output.proofs.Copies.{Laying}
use Rattle.output.proofs.bytes.put_folded.Given as goal

abbrev pub invariant-loop-i : goal.invariant-loop-i
invariant-loop-i l = Laying (map fold l.w) l.initial.out l.out l.i
