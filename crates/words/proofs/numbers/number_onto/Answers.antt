-- `numbers::number_onto` meets its contract.
use borrow.Author.Rules.{rules}
use Rattle.words.proofs.Digits.{start, turn, capped, whole}
use Rattle.words.proofs.numbers.number_onto.Goals as goal

ruleset ways = (start, capped, whole, rules)

pub loop-b-init : goal.loop-b-init
loop-b-init c = search ways

pub returns-then-cap-d : goal.returns-then-cap-d
returns-then-cap-d c = search ways

pub loop-b-preserved : goal.loop-b-preserved
loop-b-preserved c = turn _ _ _ _ _ _ (search rules) (search rules) (search rules) (search rules) (search rules)

pub returns : goal.returns
returns c = search ways
