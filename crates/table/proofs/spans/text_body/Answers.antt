-- `spans::text_body` meets its contract.
use borrow.Author.Rules.{rules}
use borrow.Author.Tests.{tests}
use Rattle.std.proofs.lemmas.Iterator.{YieldsList-from_slice}
use Rattle.std.proofs.lemmas.Iterator.Search.{all_from_yields_List}
use Rattle.rules.proofs.Machine.Checks.{text_byte}
use Rattle.table.proofs.Held.{text_is}
use Rattle.table.proofs.spans.text_body.Goals as goal

pub returns : goal.returns
returns c = text_is _ _ (all_from_yields_List text_byte _ _ _ c.all.ensures.ran (YieldsList-from_slice c.args.w.now cc) (λ x b q k. search (rules, tests)))
