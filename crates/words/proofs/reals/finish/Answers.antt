-- `reals::finish` meets its contract.
use borrow.Author.Rules.{rules}
use Rattle.words.proofs.Decimals.{no_number, big_number, below_fits, above_fits, below_far, above_far}
use Rattle.words.proofs.reals.finish.Goals as goal

ruleset ways = (no_number, big_number, below_fits, above_fits, below_far, above_far, rules)

pub returns-then-m-eq0 : goal.returns-then-m-eq0
returns-then-m-eq0 c = search ways

pub returns-then-m-gt-LARGEST_NUMBER : goal.returns-then-m-gt-LARGEST_NUMBER
returns-then-m-gt-LARGEST_NUMBER c = search ways

pub returns-then-p-gt-LARGEST_POWER : goal.returns-then-p-gt-LARGEST_POWER
returns-then-p-gt-LARGEST_POWER c = search ways

pub returns-then-plus-minus : goal.returns-then-plus-minus
returns-then-plus-minus c = search ways

pub returns-then-p-gt-LARGEST_POWER-2 : goal.returns-then-p-gt-LARGEST_POWER-2
returns-then-p-gt-LARGEST_POWER-2 c = search ways

pub returns : goal.returns
returns c = search ways
