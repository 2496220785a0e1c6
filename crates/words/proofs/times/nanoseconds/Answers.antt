-- `times::nanoseconds` meets its contract.
use borrow.Author.Rules.{rules}
use Rattle.words.proofs.Clocks.{too_many, product_fits, nanos_fit, nanos_are}
use Rattle.words.proofs.times.nanoseconds.Goals as goal

ruleset ways = (too_many, product_fits, nanos_fit, nanos_are, rules)

pub returns-then-k-gt9 : goal.returns-then-k-gt9
returns-then-k-gt9 c = search ways

pub returns : goal.returns
returns c = search ways

pub overflow_cast-result : goal.overflow_cast-result
overflow_cast-result c = search ways
