-- `reals::scaled` meets its contract.
use borrow.Author.Rules.{rules}
use Rattle.words.proofs.Decimals.{settled}
use Rattle.words.proofs.reals.scaled.Goals as goal

ruleset ways = (settled, rules)

pub returns : goal.returns
returns c = search ways
