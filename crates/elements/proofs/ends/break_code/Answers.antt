-- `ends::break_code` meets its contract.
use mathlib.Core.Path.{◌≡◌, sym, ◌∙◌}
use native.Mathlib.Omega.{arith}
use lib.ListN.{drop}
use Rattle.std.proofs.lemmas.Grind.{common_steps}
use Rattle.elements.proofs.Skips.{line_ends, left_open, foreign_byte}
use Rattle.elements.proofs.ends.break_code.Goals as goal

pub returns-then-is_none_or : goal.returns-then-is_none_or
returns-then-is_none_or c = left_open _ (let e : c.is_none_or.result ≡ line_ends (drop c.args.at c.args.label.now) = grind (arith, common_steps) in sym e ∙ c.if-is_none_or.true)

pub returns-else-is_none_or : goal.returns-else-is_none_or
returns-else-is_none_or c = foreign_byte _ (let e : c.is_none_or.result ≡ line_ends (drop c.args.at c.args.label.now) = grind (arith, common_steps) in sym e ∙ c.if-is_none_or.false)
