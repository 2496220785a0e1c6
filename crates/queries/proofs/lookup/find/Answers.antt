-- `lookup::find` meets its contract.
use Rattle.std.proofs.lemmas.Result.{err_from_is_err_and}
use Rattle.queries.proofs.Lookups.{found_long, found_improper, found_proper}
use Rattle.queries.proofs.lookup.find.Goals as goal

pub returns-then-label-gt-LONGEST_LABEL : goal.returns-then-label-gt-LONGEST_LABEL
returns-then-label-gt-LONGEST_LABEL c = found_long _ _ _ _ c.if-label-gt-LONGEST_LABEL.true

pub returns-in_err-check : goal.returns-in_err-check
returns-in_err-check c = let p = err_from_is_err_and c.from_residual.result c.from_residual.ensures.1 in
    rw (p.1, p.2) (found_improper _ _ _ _ c.if-label-gt-LONGEST_LABEL.false c.in_err-check.ensures)

pub returns : goal.returns
returns c = found_proper _ _ _ _ _ c.if-label-gt-LONGEST_LABEL.false c.in_ok-check.ensures c.find_from.ensures
