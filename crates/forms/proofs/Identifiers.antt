-- The loop over an identifier.
use Prim.Native.Nat.{ℕ, ◌+◌, ◌-◌, ◌≤◌, ◌<◌}
use mathlib.Core.Bool.{Bool, true, false, not}
use mathlib.Core.Path.{◌≡◌, sym, ap, ◌∙◌}
use mathlib.Core.List.{List, []}
use native.Mathlib.Omega.{arith}
use borrow.Author.Tests.{eq-eqb, ne_eqb}
use lib.Dec.{eqb}
use lib.ListN.{length, get_or, take, drop, length-drop, drop_of_length-le}
use lib.Seq.{take_all}
use Rattle.rules.specs.Bytes.{alnum}
use Rattle.rules.proofs.Machine.Words.{more, next_more}
use Rattle.classes.proofs.Runs.{unroll}

-- what is left of the bytes, behind an underscore or not, decides the answer
pub record Going (s : List ℕ) (answer : Bool) (u : Bool) (i : ℕ) : Type 0 where
  pub within : i ≤ length s
  pub rest : more u (drop i s) ≡ answer

pub going : (w : List ℕ) (from : ℕ) → Going (take (length w - from) (drop from w)) (more false (drop from w)) false 0
going w from = record { within = omega arith; rest = ap (more false) (take_all (length w - from) (drop from w) (omega (arith, length-drop from w))) }

module _ (s : List ℕ) (answer u : Bool) (i : ℕ) (v : Going s answer u i) where
  module _ (h : i < length s) (t : Bool) (e : t ≡ alnum (get_or s i 0)) where
    step : more u (drop i s) ≡ next_more (alnum (get_or s i 0)) (eqb (get_or s i 0) 95) u (more false (drop (i + 1) s)) (more true (drop (i + 1) s))
    step = ap (more u) (unroll s i h)

    pub plain_turn : t ≡ true → Going s answer false (i + 1)
    plain_turn k = record { within = omega arith; rest = sym (step ∙ rw (sym e ∙ k)) ∙ v.rest }

    module _ (k : t ≡ false) where
      pub other_byte : (get_or s i 0 ≡ 95 → ⊥) → false ≡ answer
      other_byte q = sym (step ∙ rw (sym e ∙ k, ne_eqb (get_or s i 0) 95 q)) ∙ v.rest

      pub two_unders : get_or s i 0 ≡ 95 → u ≡ true → false ≡ answer
      two_unders q z = sym (step ∙ rw (sym e ∙ k, eq-eqb (get_or s i 0) 95 q, z)) ∙ v.rest

      pub under_turn : get_or s i 0 ≡ 95 → u ≡ false → Going s answer true (i + 1)
      under_turn q z = record { within = omega arith; rest = sym (step ∙ rw (sym e ∙ k, eq-eqb (get_or s i 0) 95 q, z)) ∙ v.rest }

  pub gone : length s ≤ i → not u ≡ answer
  gone h = let e : drop i s ≡ [] = drop_of_length-le s h in sym (ap (more u) e) ∙ v.rest
