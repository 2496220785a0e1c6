-- `reals::without_zeros` meets its contract.
use Rattle.std.proofs.Common.{rules}
use Rattle.words.proofs.Decimals.{last_digit, no_digit}
use Rattle.words.proofs.reals.without_zeros.Goals as goal

pub returns-in-Some : goal.returns-in-Some
returns-in-Some c = last_digit c.args.s.now c.in-Some.i (search rules) (λ k l h. search rules) (λ q. search rules)

pub returns-in-None : goal.returns-in-None
returns-in-None c = no_digit c.args.s.now (λ k l h. search rules)
