-- `element_at` meets its contract.
use Rattle.elements.proofs.Signs.{one_sign, lone_slash, no_sign}
use Rattle.elements.proofs.element_at.Goals as goal

pub returns-in-Some-One : goal.returns-in-Some-One
returns-in-Some-One c = one_sign _ _ c.requires.0 c.if-at-label.false _ c.mark_of.ensures _ c.in-Some-One.is _ c.in-Some-One.field-0-is

pub returns-in-Some-Stroke : goal.returns-in-Some-Stroke
returns-in-Some-Stroke c = lone_slash _ _ c.requires.0 c.if-at-label.false _ c.mark_of.ensures _ c.in-Some-Stroke.is c.in-Some-Stroke.field-0-is

pub returns-in-None : goal.returns-in-None
returns-in-None c = no_sign _ _ c.requires.0 c.if-at-label.false _ c.mark_of.ensures _ c.is_word.ensures c.if-is_word.false c.in-None.is
