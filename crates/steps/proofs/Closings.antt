-- The closing name, compared with the open block's.
use Prim.Native.Nat.{ℕ, ◌≤◌}
use mathlib.Core.Bool.{Bool, true, false, true≢false}
use mathlib.Core.Path.{◌≡◌, refl, sym, ap, ◌∙◌}
use mathlib.Core.List.{List, map}
use borrow.Author.Rules.{rules}
use lib.ListN.{length}
use Rattle.std.specs.Prelude.{Result, Err}
use Rattle.rules.proofs.Machine.Statements as machine
use Rattle.rules.specs.Bytes.{fold}
use Rattle.rules.specs.Grammar.{strict}
use Rattle.rules.specs.Values.{same}
use Rattle.rules.proofs.Tables.Tests.{same_true, true_same}
use Rattle.classes.specs.Places.{part, name_at}
use Rattle.steps.specs.States.{awaiting}
use Rattle.steps.specs.Steps.{nothing, giving, Does}
use Rattle.elements.specs.declared.Element.{Element}
use Rattle.elements.specs.declared.Element.TheVariants.{Name}
use Rattle.steps.specs.declared.Awaited.TheVariants as await
use Rattle.steps.specs.declared.Misfit.TheVariants as misfits
use Rattle.steps.specs.declared.Misfit.{Misfit}
use Rattle.steps.specs.declared.State.{State}
use Rattle.steps.specs.declared.Stepped.{Stepped}
use Rattle.steps.proofs.Ways.{known, halts_known, no_name, within_limit, past_limit}

named_by : (label u : List ℕ) (a b : ℕ) → u ≡ part label a b → map fold u ≡ name_at label a b
unfolding name_at
named_by label u a b h = ap (map fold) h

one_name : (label u w : List ℕ) (a b x y : ℕ) → u ≡ part label a b → w ≡ part label x y → same (map fold u) (map fold w) ≡ true → name_at label a b ≡ name_at label x y
one_name label u w a b x y p q h = sym (named_by label u a b p) ∙ same_true (map fold u) (map fold w) h ∙ named_by label w x y q

two_names : (label u w : List ℕ) (a b x y : ℕ) → u ≡ part label a b → w ≡ part label x y → same (map fold u) (map fold w) ≡ false → name_at label a b ≡ name_at label x y → ⊥
two_names label u w a b x y p q h z =
    let e : map fold u ≡ map fold w = named_by label u a b p ∙ z ∙ sym (named_by label w x y q) in
    true≢false (sym (true_same (map fold u)) ∙ ap (same (map fold u)) e ∙ h)

module _ (x y : ℕ) {label : List ℕ} {t : State} {e : Element} {r : Result Stepped Misfit} {a b : ℕ} {u w : List ℕ} {f : Bool} where
  pub closes_same : {s : State} → e ≡ Name a b → (u ≡ part label a b) × (length u ≤ length label) → (w ≡ part label x y) × (length w ≤ length label) → f ≡ same (map fold u) (map fold w) → f ≡ true →
      r ≡ giving s nothing → s ≡ awaiting t await.Statement → Does label t (machine.at_closed (name_at label x y)) e r
  closes_same k p q d h z i =
      known k z i (record { room = λ x. tt; settles = (refl, refl, refl, refl) })
      (λ bs v. ap (machine.judge strict) (sym (within_limit (machine.name_discrete (name_at label a b) (name_at label x y)) _ _ (one_name label u w a b x y p.0 q.0 (sym d ∙ h)))))

  pub closes_other : e ≡ Name a b → (u ≡ part label a b) × (length u ≤ length label) → (w ≡ part label x y) × (length w ≤ length label) → f ≡ same (map fold u) (map fold w) → f ≡ false →
      r ≡ Err misfits.OtherName → Does label t (machine.at_closed (name_at label x y)) e r
  closes_other s p q d h g =
      halts_known misfits.OtherName s g
      (λ bs v. ap (machine.judge strict) (sym (past_limit (machine.name_discrete (name_at label a b) (name_at label x y)) _ _ (two_names label u w a b x y p.0 q.0 (sym d ∙ h)))))

pub ruleset closings = (closes_same, closes_other, no_name, rules)
