-- `times::trim` meets its contract.
use borrow.Author.Rules.{rules}
use Rattle.numerals.proofs.Digits.{trim_turn, trim_end, trim_none}
use Rattle.numerals.proofs.times.trim.Goals as goal

ruleset ways = (trim_turn, trim_end, trim_none, rules)

pub returns-then-v-ne0 : goal.returns-then-v-ne0
returns-then-v-ne0 c = search ways

pub loop-k-preserved : goal.loop-k-preserved
loop-k-preserved c = search ways

pub returns : goal.returns
returns c = search ways
