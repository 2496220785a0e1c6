-- `names::name` meets its contract.
use Rattle.words.proofs.Reserved.{end, object, end_object, group, end_group, begin_object, plain_name, long_name}
use Rattle.words.proofs.names.name.Goals as goal

pub returns-then-alike : goal.returns-then-alike
returns-then-alike c = end _ c.alike.ensures c.if-alike.true

pub returns-then-alike-2 : goal.returns-then-alike-2
returns-then-alike-2 c = object _ c.alike.ensures c.if-alike.false c.alike-2.ensures c.if-alike-2.true

pub returns-then-alike-3 : goal.returns-then-alike-3
returns-then-alike-3 c = end_object _ c.alike.ensures c.if-alike.false c.alike-2.ensures c.if-alike-2.false c.alike-3.ensures c.if-alike-3.true

pub returns-then-alike-4 : goal.returns-then-alike-4
returns-then-alike-4 c = group _ c.alike.ensures c.if-alike.false c.alike-2.ensures c.if-alike-2.false c.alike-3.ensures c.if-alike-3.false c.alike-4.ensures c.if-alike-4.true

pub returns-then-alike-5 : goal.returns-then-alike-5
returns-then-alike-5 c = end_group _ c.alike.ensures c.if-alike.false c.alike-2.ensures c.if-alike-2.false c.alike-3.ensures c.if-alike-3.false c.alike-4.ensures c.if-alike-4.false c.alike-5.ensures c.if-alike-5.true

pub returns-then-alike-6 : goal.returns-then-alike-6
returns-then-alike-6 c = begin_object _ c.alike.ensures c.if-alike.false c.alike-2.ensures c.if-alike-2.false c.alike-3.ensures c.if-alike-3.false c.alike-4.ensures c.if-alike-4.false c.alike-5.ensures c.if-alike-5.false c.alike-6.ensures c.if-alike-6.true

pub returns-then-w-le-LONGEST_NAME : goal.returns-then-w-le-LONGEST_NAME
returns-then-w-le-LONGEST_NAME c = plain_name _ c.alike.ensures c.if-alike.false c.alike-2.ensures c.if-alike-2.false c.alike-3.ensures c.if-alike-3.false c.alike-4.ensures c.if-alike-4.false c.alike-5.ensures c.if-alike-5.false c.alike-6.ensures c.if-alike-6.false c.if-w-le-LONGEST_NAME.true

pub returns : goal.returns
returns c = long_name _ c.alike.ensures c.if-alike.false c.alike-2.ensures c.if-alike-2.false c.alike-3.ensures c.if-alike-3.false c.alike-4.ensures c.if-alike-4.false c.alike-5.ensures c.if-alike-5.false c.alike-6.ensures c.if-alike-6.false c.if-w-le-LONGEST_NAME.false
