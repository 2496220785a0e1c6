-- `signs::is_the`: which word or sign an element is, by its number.
use mathlib.Core.Path.{sym, ◌∙◌}
use borrow.Author.Rules.{rules}
use denote.Enum.Bare.{same_true, same_false}
use Rattle.words.specs.contracts.Fixed.{the_type}
use Rattle.steps.proofs.Offers.{told, signed, no_sign}
use Rattle.steps.proofs.signs.is_the.Goals as goal

pub returns-in-The : goal.returns-in-The
returns-in-The c =
    rw (signed c.in-The.is) (told c.in-The.k c.args.sign c.eq.result (λ h. same_true the_type (search rules) _ _ (sym c.eq.ensures ∙ h)) (λ h. same_false the_type _ _ (sym c.eq.ensures ∙ h)))

pub returns-in_default : goal.returns-in_default
returns-in_default c = no_sign _ _ c.in_default.not-The
