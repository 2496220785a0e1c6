-- `next` meets its contract.
use borrow.Author.Rules.{rules}
use Rattle.std.proofs.lemmas.Result.{err_from_is_err_and}
use Rattle.elements.proofs.Finding.{gap_broken, next_found}
use Rattle.elements.proofs.next.Goals as goal

ruleset ways = (next_found, rules)

pub returns-in_err-at : goal.returns-in_err-at
returns-in_err-at c = let p = err_from_is_err_and c.from_residual.result c.from_residual.ensures.1 in rw (p.1, p.2) (gap_broken _ _ _ c.in_err-at.ensures)

pub returns : goal.returns
returns c = search ways
