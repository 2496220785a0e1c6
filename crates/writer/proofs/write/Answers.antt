-- `write` meets its contract.
use native.Mathlib.Omega.{arith}
use Rattle.std.proofs.lemmas.Result.{err_from_is_err_and}
use Rattle.writer.proofs.Rooms.{over, not_proper}
use Rattle.writer.proofs.write.Goals as goal

pub returns-then-label-gt-LONGEST_LABEL : goal.returns-then-label-gt-LONGEST_LABEL
returns-then-label-gt-LONGEST_LABEL c = over _ _ _ c.if-label-gt-LONGEST_LABEL.true

pub write_proper-requires : goal.write_proper-requires
write_proper-requires c = (omega (arith, c.if-label-gt-LONGEST_LABEL.false), c.in_ok-check.ensures)

pub returns-in_err-check : goal.returns-in_err-check
returns-in_err-check c = let p = err_from_is_err_and c.from_residual.result c.from_residual.ensures.1 in
    rw (p.1, p.2) (not_proper _ (omega (arith, c.if-label-gt-LONGEST_LABEL.false)) c.in_err-check.ensures)
