-- `is_name` meets its contract.
use borrow.Author.Rules.{rules}
use Rattle.words.proofs.Reserved.{a_name, another, unfit}
use Rattle.words.proofs.is_name.Goals as goal

ruleset ways = (a_name, unfit, rules)

pub returns-in-Ok-Name : goal.returns-in-Ok-Name
returns-in-Ok-Name c = search ways

pub returns-in_default : goal.returns-in_default
returns-in_default c = another c.word.ensures c.in_default.field-0 c.in_default.is (λ z. search rules)

pub returns-in_default-2 : goal.returns-in_default-2
returns-in_default-2 c = search ways
