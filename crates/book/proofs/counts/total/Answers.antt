-- `counts::total` meets its contract.
use mathlib.Core.Path.{refl, sym, ◌∙◌}
use borrow.Author.Rules.{rules}
use Rattle.std.proofs.Common.{◌≡◌}
use Rattle.std.specs.List.{sum_by}
use Rattle.std.proofs.iter.runs.Made.{chains}
use Rattle.std.proofs.iter.runs.Sources.{sums}
use Rattle.std.proofs.lemmas.List.Recursion.{is_sum_by}
use Rattle.rules.specs.Book.{sum}
use Rattle.book.proofs.counts.total.Goals as goal

pub sum-requires-clause-fits : goal.sum-requires-clause-fits
sum-requires-clause-fits c = search (rules, sums)

-- the rules' sum is std's
pub returns : goal.returns
returns c = let e : c.sum.result ≡ sum_by (λ x. x) c.args.c = search (rules, chains) in e ∙ sym (is_sum_by sum (λ x. x) refl (λ _ _. refl) c.args.c)
