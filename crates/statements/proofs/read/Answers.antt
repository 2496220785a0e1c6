-- The reader: each way out, from the first pass and, where its room was too short, from the second.
use native.Mathlib.Omega.{arith}
use Rattle.std.proofs.lemmas.Result.{err_from_is_err_and}
use Rattle.statements.proofs.Answers.{not_read_long, carried, refusal_stands, short, copied, resumed}
use Rattle.statements.proofs.Rooms.{copied_front}
use Rattle.statements.proofs.Running.{begins}
use Rattle.statements.proofs.read.Goals as goal

pub returns-then-label-gt-LONGEST_LABEL : goal.returns-then-label-gt-LONGEST_LABEL
returns-then-label-gt-LONGEST_LABEL c = not_read_long _ _ c.if-label-gt-LONGEST_LABEL.true

pub pass-first-requires : goal.pass-first-requires
pass-first-requires c = (c.if-label-gt-LONGEST_LABEL.false, begins c.start.ensures _ _)

pub returns-in_err-a : goal.returns-in_err-a
returns-in_err-a c = let p = err_from_is_err_and c.from_residual.result c.from_residual.ensures.1 in
    rw (p.1, p.2) (refusal_stands c.args.table.now c.if-label-gt-LONGEST_LABEL.false (rw c.in_err-a.was at c.pass-first.ensures.concluded))

pub returns-then-table-n : goal.returns-then-table-n
returns-then-table-n c = short c.args.table.now c.if-label-gt-LONGEST_LABEL.false (rw c.in_ok-a.was at c.pass-first.ensures.concluded) c.if-table-n.true

pub returns-then-n-le-OWN_ROOM : goal.returns-then-n-le-OWN_ROOM
returns-then-n-le-OWN_ROOM c = copied c.args.table.now c.if-label-gt-LONGEST_LABEL.false (rw c.in_ok-a.was at c.pass-first.ensures.concluded) (omega (arith, c.if-table-n.false)) (omega (arith, c.if-n-le-OWN_ROOM.true)) (omega (arith, c.pass-first.auto)) c.put_bytes.ensures

pub slice_bounds-put_bytes-end-2 : goal.slice_bounds-put_bytes-end-2
slice_bounds-put_bytes-end-2 c = omega (arith, c.pass-first.ensures.full.fits, c.pass-first.auto)

pub pass-rest-requires : goal.pass-rest-requires
pass-rest-requires c = let f = c.pass-first.ensures.full in
    (c.if-label-gt-LONGEST_LABEL.false, carried c.args.table.now f (omega (arith, f.fits, c.pass-first.auto)) (copied_front _ _ _ c.put_bytes-2.ensures f.fits (omega (arith, f.fits, c.pass-first.auto))))

pub returns : goal.returns
returns c = let f = c.pass-first.ensures.full in
    resumed c.args.table.now c.if-label-gt-LONGEST_LABEL.false (rw c.in_ok-a.was at c.pass-first.ensures.concluded) c.pass-rest.result.answer (copied_front _ _ _ c.put_bytes-2.ensures f.fits (omega (arith, f.fits, c.pass-first.auto))) (omega arith) f.fits (omega (arith, f.fits, c.pass-first.auto)) c.pass-rest.ensures.concluded
