-- One pass: the loop keeps up what the rules give from here on, and a place behind from which a reading may go on.
use mathlib.Core.Path.{◌∙◌}
use native.Mathlib.Omega.{arith}
use Rattle.statements.proofs.Running.{Noting, resumes, noted_here, noted_before, still_reached, ahead, name_places, again, none_there, early, faulty, refused_there, accepted_there, hands_back}
use Rattle.statements.proofs.Turns.{stepped, may_push, turn_open, turn_close, turn_nothing, turn_row}
use Rattle.statements.proofs.passes.pass.Goals as goal
use Rattle.statements.proofs.passes.pass.Goals.{then-n-room, else-n-room}

pub loop-n-init : goal.loop-n-init
loop-n-init c = resumes c.requires.1

pub overflow_add-n : goal.overflow_add-n
overflow_add-n c = omega (arith, c.loop-n.invariant.running.sofar.small, c.loop-n.invariant.running.sofar.within, c.requires.0)

pub next-requires : goal.next-requires
next-requires c = (c.loop-n.invariant.running.sofar.within, c.requires.0)

pub add_rows-n-requires : goal.add_rows-n-requires
add_rows-n-requires c = omega (arith, c.loop-n.invariant.running.sofar.small, c.loop-n.invariant.running.sofar.within, c.requires.0)

pub loop-n-smaller-in-None : goal.loop-n-smaller-in-None
loop-n-smaller-in-None c = let z = ahead (rw (c.in-Ok.is, c.in-Some.is) at c.next.ensures) in omega (arith, z.0, z.1)

pub loop-n-preserved-in-None : goal.loop-n-preserved-in-None
loop-n-preserved-in-None c =
    let held : Noting c.args.label.now c.args.room.now c.loop-n.room c.loop-n.state c.loop-n.blocks c.loop-n.at c.loop-n.n c.if-n-room.full =
    elim c.if-n-room.branch [
      | then-n-room w ↦ noted_here _ c.loop-n.invariant.running w.if-n-room.true w.standing-full.ensures w.full-is
      | else-n-room w ↦ noted_before c.loop-n.invariant w.full-is
    ] in
    again held (rw (c.in-Ok.is, c.in-Some.is) at c.next.ensures) (turn_nothing (stepped c.step.ensures c.in-Ok-step.is) c.loop-n.invariant.running.sound c.in-None.is) c.add_rows-n.ensures

pub shape_of-room-in-Last : goal.shape_of-room-in-Last
shape_of-room-in-Last c = c.add_rows-n.ensures.long ∙ c.loop-n.invariant.running.long

pub returns-in-Last : goal.returns-in-Last
returns-in-Last c =
    let held : Noting c.args.label.now c.args.room.now c.loop-n.room c.loop-n.state c.loop-n.blocks c.loop-n.at c.loop-n.n c.if-n-room.full =
    elim c.if-n-room.branch [
      | then-n-room w ↦ noted_here _ c.loop-n.invariant.running w.if-n-room.true w.standing-full.ensures w.full-is
      | else-n-room w ↦ noted_before c.loop-n.invariant w.full-is
    ] in
    hands_back c.ended-in-Last.ensures (accepted_there held.running (rw (c.in-Ok.is, c.in-Some.is) at c.next.ensures) (stepped c.step.ensures c.in-Ok-step.is) c.in-Some-row.is c.in-Last.is c.add_rows-n.ensures) (still_reached held.reached held.behind c.add_rows-n.ensures)

pub push-blocks-requires : goal.push-blocks-requires
push-blocks-requires c = let z = may_push (stepped c.step.ensures c.in-Ok-step.is) c.loop-n.invariant.running.sound c.in-Some-row.is c.in-Open.is in let y = name_places (rw (c.in-Ok.is, c.in-Some.is) at c.next.ensures) z.1 c.requires.0 in (z.0, y.0, y.1)

pub seen-state-requires : goal.seen-state-requires
seen-state-requires c = omega (arith, (may_push (stepped c.step.ensures c.in-Ok-step.is) c.loop-n.invariant.running.sound c.in-Some-row.is c.in-Open.is).0, c.push-blocks.ensures.1)

pub loop-n-smaller-in-Open : goal.loop-n-smaller-in-Open
loop-n-smaller-in-Open c = let z = ahead (rw (c.in-Ok.is, c.in-Some.is) at c.next.ensures) in omega (arith, z.0, z.1)

pub loop-n-preserved-in-Open : goal.loop-n-preserved-in-Open
loop-n-preserved-in-Open c =
    let held : Noting c.args.label.now c.args.room.now c.loop-n.room c.loop-n.state c.loop-n.blocks c.loop-n.at c.loop-n.n c.if-n-room.full =
    elim c.if-n-room.branch [
      | then-n-room w ↦ noted_here _ c.loop-n.invariant.running w.if-n-room.true w.standing-full.ensures w.full-is
      | else-n-room w ↦ noted_before c.loop-n.invariant w.full-is
    ] in
    again held (rw (c.in-Ok.is, c.in-Some.is) at c.next.ensures) (turn_open (stepped c.step.ensures c.in-Ok-step.is) c.loop-n.invariant.running.sound c.in-Some-row.is c.in-Open.is c.push-blocks.ensures c.seen-state.ensures) c.add_rows-n.ensures

pub with_name-state-requires : goal.with_name-state-requires
with_name-state-requires c = c.loop-n.invariant.running.sound.within

pub seen-state-requires-in-Close : goal.seen-state-requires-in-Close
seen-state-requires-in-Close c = omega (arith, c.loop-n.invariant.running.sound.within, c.pop-blocks.ensures.1)

pub loop-n-smaller-in-Close : goal.loop-n-smaller-in-Close
loop-n-smaller-in-Close c = let z = ahead (rw (c.in-Ok.is, c.in-Some.is) at c.next.ensures) in omega (arith, z.0, z.1)

pub loop-n-preserved-in-Close : goal.loop-n-preserved-in-Close
loop-n-preserved-in-Close c =
    let held : Noting c.args.label.now c.args.room.now c.loop-n.room c.loop-n.state c.loop-n.blocks c.loop-n.at c.loop-n.n c.if-n-room.full =
    elim c.if-n-room.branch [
      | then-n-room w ↦ noted_here _ c.loop-n.invariant.running w.if-n-room.true w.standing-full.ensures w.full-is
      | else-n-room w ↦ noted_before c.loop-n.invariant w.full-is
    ] in
    again held (rw (c.in-Ok.is, c.in-Some.is) at c.next.ensures) (turn_close (stepped c.step.ensures c.in-Ok-step.is) c.loop-n.invariant.running.sound c.in-Some-row.is c.in-Close.is c.with_name-state.ensures c.pop-blocks.ensures c.seen-state-in-Close.ensures) c.add_rows-n.ensures

pub loop-n-smaller : goal.loop-n-smaller
loop-n-smaller c = let z = ahead (rw (c.in-Ok.is, c.in-Some.is) at c.next.ensures) in omega (arith, z.0, z.1)

pub loop-n-preserved : goal.loop-n-preserved
loop-n-preserved c =
    let held : Noting c.args.label.now c.args.room.now c.loop-n.room c.loop-n.state c.loop-n.blocks c.loop-n.at c.loop-n.n c.if-n-room.full =
    elim c.if-n-room.branch [
      | then-n-room w ↦ noted_here _ c.loop-n.invariant.running w.if-n-room.true w.standing-full.ensures w.full-is
      | else-n-room w ↦ noted_before c.loop-n.invariant w.full-is
    ] in
    again held (rw (c.in-Ok.is, c.in-Some.is) at c.next.ensures) (turn_row (stepped c.step.ensures c.in-Ok-step.is) c.loop-n.invariant.running.sound c.in-Some-row.is c.in_default-row.not-Last c.in_default-row.not-Open c.in_default-row.not-Close) c.add_rows-n.ensures

pub returns-in-Err : goal.returns-in-Err
returns-in-Err c =
    let held : Noting c.args.label.now c.args.room.now c.loop-n.room c.loop-n.state c.loop-n.blocks c.loop-n.at c.loop-n.n c.if-n-room.full =
    elim c.if-n-room.branch [
      | then-n-room w ↦ noted_here _ c.loop-n.invariant.running w.if-n-room.true w.standing-full.ensures w.full-is
      | else-n-room w ↦ noted_before c.loop-n.invariant w.full-is
    ] in
    hands_back c.ended.ensures (faulty held.running (rw c.in-Err.is at c.next.ensures) c.from.ensures) held.reached

pub returns-in_default : goal.returns-in_default
returns-in_default c =
    let held : Noting c.args.label.now c.args.room.now c.loop-n.room c.loop-n.state c.loop-n.blocks c.loop-n.at c.loop-n.n c.if-n-room.full =
    elim c.if-n-room.branch [
      | then-n-room w ↦ noted_here _ c.loop-n.invariant.running w.if-n-room.true w.standing-full.ensures w.full-is
      | else-n-room w ↦ noted_before c.loop-n.invariant w.full-is
    ] in
    hands_back c.ended-in_default.ensures (early held.running (none_there c.args.label.now c.loop-n.at _ (rw c.in-Ok.is at c.next.ensures) c.in_default.not-Some)) held.reached

pub returns-in-Err-step : goal.returns-in-Err-step
returns-in-Err-step c =
    let held : Noting c.args.label.now c.args.room.now c.loop-n.room c.loop-n.state c.loop-n.blocks c.loop-n.at c.loop-n.n c.if-n-room.full =
    elim c.if-n-room.branch [
      | then-n-room w ↦ noted_here _ c.loop-n.invariant.running w.if-n-room.true w.standing-full.ensures w.full-is
      | else-n-room w ↦ noted_before c.loop-n.invariant w.full-is
    ] in
    hands_back c.ended-in-Err-step.ensures (refused_there held.running (rw (c.in-Ok.is, c.in-Some.is) at c.next.ensures) c.step.ensures c.in-Err-step.is c.start_of.ensures c.misfit.ensures) held.reached
