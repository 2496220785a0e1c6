-- Each turn of the loop is one step of the rule.
use borrow.Author.Rules.{rules}
use Rattle.forms.proofs.Identifiers.{going, plain_turn, under_turn, other_byte, two_unders, gone}
use Rattle.forms.proofs.is_more.Goals as goal

ruleset ways = (going, plain_turn, under_turn, other_byte, two_unders, gone, rules)

pub loop-b-init : goal.loop-b-init
loop-b-init c = search ways

pub loop-b-preserved-then-is_alnum : goal.loop-b-preserved-then-is_alnum
loop-b-preserved-then-is_alnum c = search ways

pub returns-then-b-ne95 : goal.returns-then-b-ne95
returns-then-b-ne95 c = search ways

pub returns-then-under : goal.returns-then-under
returns-then-under c = search ways

pub loop-b-preserved : goal.loop-b-preserved
loop-b-preserved c = search ways

pub returns : goal.returns
returns c = search ways
