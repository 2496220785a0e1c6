-- `numbers::in_radix` meets its contract.
use borrow.Author.Rules.{rules}
use Rattle.words.proofs.Digits.{radix_low, radix_high, radix_past, radix_fits}
use Rattle.words.proofs.numbers.in_radix.Goals as goal

ruleset ways = (radix_low, radix_high, radix_past, radix_fits, rules)

pub returns-then-b-lt2 : goal.returns-then-b-lt2
returns-then-b-lt2 c = search ways

pub returns-then-b-gt16 : goal.returns-then-b-gt16
returns-then-b-gt16 c = search ways

pub returns-in_default : goal.returns-in_default
returns-in_default c = search ways

pub returns : goal.returns
returns c = search ways
