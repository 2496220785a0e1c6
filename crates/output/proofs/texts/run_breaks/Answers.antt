-- `texts::run_breaks` meets its contract.
use borrow.Author.Rules.{rules}
use Rattle.output.proofs.Reassembly.{breaks_start, breaks_turn, breaks_yes, breaks_no, breaks_past}
use Rattle.output.proofs.texts.run_breaks.Goals as goal

ruleset ways = (breaks_start, breaks_turn, breaks_yes, breaks_no, breaks_past, rules)

pub returns-then-is_line_end : goal.returns-then-is_line_end
returns-then-is_line_end c = search ways

pub returns-then-is_shown : goal.returns-then-is_shown
returns-then-is_shown c = search ways

pub loop-b-preserved : goal.loop-b-preserved
loop-b-preserved c = search ways

pub returns : goal.returns
returns c = search ways
