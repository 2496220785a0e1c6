-- `texts::put_reassembled` meets its contract.
use borrow.Author.Rules.{rules}
use native.Mathlib.Omega.{arith}
use Rattle.output.proofs.Reassembly.{join_start, join_turn, join_end}
use Rattle.output.proofs.texts.put_reassembled.Goals as goal

ruleset ways = (join_start, join_turn, rules)

pub loop-i-init : goal.loop-i-init
loop-i-init c = search ways

pub loop-i-preserved : goal.loop-i-preserved
loop-i-preserved c = search ways

pub returns : goal.returns
returns c = join_end _ _ _ _ _ _ c.loop-i.invariant (omega arith)
