-- `marks::mark_of` meets its contract.
use mathlib.Core.Path.{refl}
use borrow.Author.Rules.{rules}
use Rattle.elements.specs.Places.{m_star, m_slash, m_quote, m_apostrophe}
use Rattle.elements.proofs.Signs.{mark_is, no_mark}
use Rattle.elements.proofs.marks.mark_of.Goals as goal

ruleset ways = (no_mark, rules)

pub returns-in-61 : goal.returns-in-61
returns-in-61 c = mark_is _ 61 _ c.in-61.is refl

pub returns-in-44 : goal.returns-in-44
returns-in-44 c = mark_is _ 44 _ c.in-44.is refl

pub returns-in-42 : goal.returns-in-42
returns-in-42 c = m_star c.in-42.is

pub returns-in-47 : goal.returns-in-47
returns-in-47 c = m_slash c.in-47.is

pub returns-in-94 : goal.returns-in-94
returns-in-94 c = mark_is _ 94 _ c.in-94.is refl

pub returns-in-60 : goal.returns-in-60
returns-in-60 c = mark_is _ 60 _ c.in-60.is refl

pub returns-in-62 : goal.returns-in-62
returns-in-62 c = mark_is _ 62 _ c.in-62.is refl

pub returns-in-40 : goal.returns-in-40
returns-in-40 c = mark_is _ 40 _ c.in-40.is refl

pub returns-in-41 : goal.returns-in-41
returns-in-41 c = mark_is _ 41 _ c.in-41.is refl

pub returns-in-123 : goal.returns-in-123
returns-in-123 c = mark_is _ 123 _ c.in-123.is refl

pub returns-in-125 : goal.returns-in-125
returns-in-125 c = mark_is _ 125 _ c.in-125.is refl

pub returns-in-34 : goal.returns-in-34
returns-in-34 c = m_quote c.in-34.is

pub returns-in-39 : goal.returns-in-39
returns-in-39 c = m_apostrophe c.in-39.is

pub returns-in_default : goal.returns-in_default
returns-in_default c = search ways
