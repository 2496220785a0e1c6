-- `numbers::digit_count` meets its contract.
use borrow.Author.Rules.{rules}
use Rattle.numerals.proofs.Digits.{count_start, count_turn, count_less, count_end}
use Rattle.numerals.proofs.numbers.digit_count.Goals as goal

ruleset ways = (count_start, count_turn, count_less, count_end, rules)

pub loop-v-init : goal.loop-v-init
loop-v-init c = search ways

pub loop-v-preserved : goal.loop-v-preserved
loop-v-preserved c = search ways

pub returns : goal.returns
returns c = search ways
