-- `times::ten_to` meets its contract.
use borrow.Author.Rules.{rules}
use Rattle.words.proofs.Clocks.{two_fit, three_fit, four_fit, ten_most, ten_is}
use Rattle.words.proofs.times.ten_to.Goals as goal

ruleset ways = (two_fit, three_fit, four_fit, ten_most, ten_is, rules)

pub returns : goal.returns
returns c = search ways
