-- `texts::turn_of` meets its contract.
use borrow.Author.Rules.{rules}
use Rattle.output.proofs.Reassembly.{turn_vanish, turn_hyphen, turn_other, turn_dealt, turn_breaks, turn_unbroken, turn_known, turn_passed}
use Rattle.output.proofs.texts.turn_of.Goals as goal
use Rattle.output.proofs.texts.turn_of.Goals.{else-b-eq45-via-then-b-eq45+else-line_ends, else-b-eq45-via-else-b-eq45}

ruleset ways = (turn_vanish, turn_hyphen, turn_other, turn_dealt, turn_breaks, turn_unbroken, turn_known, turn_passed, rules)

pub returns-then-line_ends : goal.returns-then-line_ends
returns-then-line_ends c = search ways

pub returns-then-is_shown : goal.returns-then-is_shown
returns-then-is_shown c = elim c.else-b-eq45.branch [ else-b-eq45-via-then-b-eq45+else-line_ends v ↦ search ways | else-b-eq45-via-else-b-eq45 v ↦ search ways ]

pub returns-in-Dealt : goal.returns-in-Dealt
returns-in-Dealt c = search ways

pub returns-in-Unbroken : goal.returns-in-Unbroken
returns-in-Unbroken c = search ways

pub returns-in-Fresh : goal.returns-in-Fresh
returns-in-Fresh c = search ways

pub returns-in-Fresh-2 : goal.returns-in-Fresh-2
returns-in-Fresh-2 c = search ways

pub returns : goal.returns
returns c = search ways
