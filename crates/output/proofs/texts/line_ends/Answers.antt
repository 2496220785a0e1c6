-- `texts::line_ends` meets its contract.
use borrow.Author.Rules.{rules}
use Rattle.output.proofs.Reassembly.{next_start, next_turn, next_is, next_end}
use Rattle.output.proofs.texts.line_ends.Goals as goal

ruleset ways = (next_start, next_turn, next_is, next_end, rules)

pub returns-then-is_kept : goal.returns-then-is_kept
returns-then-is_kept c = search ways

pub loop-b-preserved : goal.loop-b-preserved
loop-b-preserved c = search ways

pub returns : goal.returns
returns c = search ways
