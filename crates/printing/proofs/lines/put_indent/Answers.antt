-- `lines::put_indent` meets its contract.
use borrow.Author.Rules.{rules}
use native.Mathlib.Omega.{arith}
use Rattle.printing.proofs.Between.{indent_start, indent_turn, indent_end}
use Rattle.printing.proofs.lines.put_indent.Goals as goal

ruleset ways = (indent_start, rules)

pub loop-init : goal.loop-init
loop-init c = search ways

pub loop-preserved : goal.loop-preserved
loop-preserved c = indent_turn _ _ _ _ _ _ _ c.loop.invariant c.min-k.ensures c.put_bytes-n.ensures

pub returns : goal.returns
returns c = indent_end _ _ _ _ _ c.loop.invariant (omega arith) c.requires
