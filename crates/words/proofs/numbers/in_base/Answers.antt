-- `numbers::in_base` meets its contract.
use borrow.Author.Rules.{rules}
use Rattle.words.proofs.Digits.{base_start, base_turn, base_mul, base_over, base_unfit, base_end}
use native.Mathlib.Omega.{arith}
use Rattle.words.proofs.numbers.in_base.Goals as goal

ruleset ways = (base_start, base_turn, base_over, base_unfit, base_end, rules)

pub loop-b-init : goal.loop-b-init
loop-b-init c = search ways

pub returns-then-radix-d : goal.returns-then-radix-d
returns-then-radix-d c = search ways

pub returns-then-d-radix : goal.returns-then-d-radix
returns-then-d-radix c = search ways

pub overflow_mul-n : goal.overflow_mul-n
overflow_mul-n c = omega (arith, base_mul c.args.radix c.loop-b.n c.worth_of-d.result (search rules) (search rules))

pub overflow_add-n : goal.overflow_add-n
overflow_add-n c = omega (arith, base_mul c.args.radix c.loop-b.n c.worth_of-d.result (search rules) (search rules))

pub loop-b-preserved : goal.loop-b-preserved
loop-b-preserved c = search ways

pub returns : goal.returns
returns c = search ways
