-- `places::past_block` meets its contract.
use native.Mathlib.Omega.{arith}
use borrow.Author.Rules.{rules}
use Rattle.queries.proofs.BlockEnds.{block_starts, block_runs_out, block_cut, block_ends, block_goes_on, block_closes, block_opens}
use Rattle.queries.proofs.RowsLeft.{row_further, row_within, row_nearer}
use Rattle.queries.proofs.places.+past_block.Goals as goal

ruleset ways = (block_starts, block_runs_out, block_cut, block_ends, block_goes_on, block_closes, block_opens, row_within, row_nearer, rules)

pub loop-at-init : goal.loop-at-init
loop-at-init t c = search ways

pub returns-in_default : goal.returns-in_default
returns-in_default t c = search ways

pub loop-at-smaller-in-Named : goal.loop-at-smaller-in-Named
loop-at-smaller-in-Named t c = search ways

pub loop-at-preserved-in-Named : goal.loop-at-preserved-in-Named
loop-at-preserved-in-Named t c = search ways

pub past_block-at-requires : goal.past_block-at-requires
past_block-at-requires t c = (omega (arith, c.loop-at.invariant.after, row_further _ _ _ c.row_at.ensures _ _ c.in-Some.is), search ways)

pub loop-at-smaller : goal.loop-at-smaller
loop-at-smaller t c = search ways

pub loop-at-preserved : goal.loop-at-preserved
loop-at-preserved t c = search ways

pub returns-in-Closing : goal.returns-in-Closing
returns-in-Closing t c = search ways

pub returns-in-Ending : goal.returns-in-Ending
returns-in-Ending t c = search ways

pub returns : goal.returns
returns t c = search ways
