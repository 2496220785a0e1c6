-- `start_time` meets its contract.
use mathlib.Core.Path.{refl}
use native.Mathlib.Omega.{arith}
use Rattle.book.proofs.Walk.{walk_found, walk_closed, walk_ends, walk_closes, walks}
use Rattle.book.proofs.start_time.Goals as goal
use Rattle.book.proofs.start_time.Goals.{in-Named+else-depth-eq0, else-depth-eq0-via-then-depth-eq0+else-is_start_time, else-depth-eq0-via-else-depth-eq0, in-Plain, in-Opening, in-Closing+in_ok-depth-in-Closing}

pub loop-at-init : goal.loop-at-init
loop-at-init c = search walks

pub returns-then-is_start_time : goal.returns-then-is_start_time
returns-then-is_start_time c = walk_found _ _ c.loop-at.invariant c.loop-at-test.true refl c.from.ensures c.in-Named.is c.if-depth-eq0.true c.is_start_time.ensures c.if-is_start_time.true

pub returns-in_err-depth-in-Closing : goal.returns-in_err-depth-in-Closing
returns-in_err-depth-in-Closing c =
    rw c.from_residual.ensures (walk_closed _ _ c.loop-at.invariant c.loop-at-test.true refl c.from.ensures c.in-Closing.is (omega (arith, c.in_err-depth-in-Closing.ensures)))

pub loop-at-preserved : goal.loop-at-preserved
loop-at-preserved c = elim c.match-from.branch [
  | in-Named+else-depth-eq0 w ↦ rw w.depth-is (elim w.else-depth-eq0.branch [ else-depth-eq0-via-then-depth-eq0+else-is_start_time w' ↦ search walks | else-depth-eq0-via-else-depth-eq0 w' ↦ search walks ])
  | in-Plain w ↦ rw w.depth-is (search walks)
  | in-Opening w ↦ rw w.depth-is (search walks)
  | in-Closing+in_ok-depth-in-Closing w ↦ let h = w.in_ok-depth-in-Closing.ensures in rw (w.depth-is, h.1) (walk_closes _ _ c.loop-at.invariant c.loop-at-test.true c.row_length-at.ensures.0 c.from.ensures w.in-Closing.is (λ z. omega (arith, z, h.0)))
]

pub returns-in-Ending : goal.returns-in-Ending
returns-in-Ending c = walk_ends _ _ c.loop-at.invariant c.loop-at-test.true refl c.from.ensures c.in-Ending.is

pub returns : goal.returns
returns c = search walks
