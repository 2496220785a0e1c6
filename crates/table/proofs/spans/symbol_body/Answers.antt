-- `spans::symbol_body` meets its contract.
use borrow.Author.Rules.{rules}
use borrow.Author.Tests.{tests}
use Rattle.std.proofs.lemmas.Iterator.{YieldsList-from_slice}
use Rattle.std.proofs.lemmas.Iterator.Search.{all_from_yields_List}
use Rattle.rules.proofs.Machine.Checks.{symbol_byte}
use Rattle.table.proofs.Held.{symbol_is}
use Rattle.table.proofs.spans.symbol_body.Goals as goal

pub returns : goal.returns
returns c = symbol_is _ _ (all_from_yields_List symbol_byte _ _ c.all-all.result c.all-all.ensures.ran (YieldsList-from_slice c.args.w.now cc) (λ x b q k. search (rules, tests)))
