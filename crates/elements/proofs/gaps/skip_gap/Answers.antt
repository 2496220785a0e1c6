-- `gaps::skip_gap` meets its contract.
use borrow.Author.Rules.{rules}
use Rattle.std.proofs.lemmas.Result.{err_from_is_err_and}
use Rattle.elements.proofs.Skips.{start, blank_turn, remark_turn, opens, broken_at, clear_first, clear_second, clear_end}
use Rattle.elements.proofs.gaps.skip_gap.Goals as goal
use Rattle.elements.proofs.gaps.skip_gap.Goals.{else-b-eq47-via-then-b-eq47+else-byte_at-eq42, else-b-eq47-via-else-b-eq47}

ruleset ways = (start, blank_turn, remark_turn, opens, broken_at, clear_first, clear_second, clear_end, rules)

pub loop-i-init : goal.loop-i-init
loop-i-init c = search ways

pub loop-i-preserved-then-is_blank : goal.loop-i-preserved-then-is_blank
loop-i-preserved-then-is_blank c = search ways

pub loop-i-preserved : goal.loop-i-preserved
loop-i-preserved c = remark_turn _ _ _ _ c.loop-i.invariant c.in_ok-i.ensures

pub returns-in_err-i : goal.returns-in_err-i
returns-in_err-i c = let p = err_from_is_err_and c.from_residual.result c.from_residual.ensures.1 in rw (p.1, p.2) (broken_at _ _ _ _ c.loop-i.invariant c.in_err-i.ensures)

pub returns : goal.returns
returns c = search ways

pub returns-else-b-eq47 : goal.returns-else-b-eq47
returns-else-b-eq47 c = elim c.else-b-eq47.branch [ else-b-eq47-via-then-b-eq47+else-byte_at-eq42 w ↦ search ways | else-b-eq47-via-else-b-eq47 w ↦ search ways ]
