-- `lookup::seek` meets its contract.
use borrow.Author.Rules.{rules}
use Rattle.queries.proofs.Lookups.{seek_starts, seek_cut, seek_found, seek_passes, seek_plain, seek_opens, seek_stops, seek_runs_out}
use Rattle.queries.proofs.RowsLeft.{row_within, row_nearer}
use Rattle.queries.proofs.lookup.seek.Goals as goal

ruleset ways = (seek_starts, seek_cut, seek_found, seek_passes, seek_plain, seek_opens, seek_stops, seek_runs_out, row_within, row_nearer, rules)

pub loop-at-init : goal.loop-at-init
loop-at-init c = search ways

pub returns-in_default : goal.returns-in_default
returns-in_default c = search ways

pub returns-then-alike : goal.returns-then-alike
returns-then-alike c = search ways

pub loop-at-preserved-in-Named : goal.loop-at-preserved-in-Named
loop-at-preserved-in-Named c = search ways

pub loop-at-preserved-in-Plain : goal.loop-at-preserved-in-Plain
loop-at-preserved-in-Plain c = search ways

pub loop-at-preserved : goal.loop-at-preserved
loop-at-preserved c = search ways

pub returns-in-Closing : goal.returns-in-Closing
returns-in-Closing c = search ways

pub returns : goal.returns
returns c = search ways
