-- Names compared case folded: std folds them down, the rules up.
use Prim.Native.Nat.{ℕ, ◌+◌, ◌≤◌}
use mathlib.Core.Bool.{Bool, true, false}
use mathlib.Core.Path.{◌≡◌, refl, sym, ap, ap₂, ◌∙◌}
use mathlib.Core.List.{List, [], ◌∷◌, map}
use native.Mathlib.Omega.{arith}
use lib.Dec.{ltb}
use Rattle.std.specs.Prelude.{◌↔◌, IsTrue}
use Rattle.std.specs.Char.{to_ascii_uppercase, to_ascii_lowercase}
use Rattle.std.proofs.Common.{rules}
use Rattle.std.proofs.lemmas.Bool.{ltb-true, ltb-false}
use Rattle.std.proofs.lemmas.Str.Ascii.{lowercase-uppercase, lowercase_is, uppercase_is}
use Rattle.rules.specs.Bytes.{fold}
use Rattle.rules.specs.Values.{same}
use Rattle.rules.proofs.Tables.Tests.{same_true, true_same}

-- the rules' folding is std's
fold_is : (b : ℕ) → to_ascii_uppercase b ≡ fold b
fold_is b = search rules

uppercase_lowercase : (b : ℕ) → to_ascii_uppercase (to_ascii_lowercase b) ≡ to_ascii_uppercase b
uppercase_lowercase b = go (ltb b 65) (ltb 90 b) refl refl
  where
    go : (s t : Bool) → ltb b 65 ≡ s → ltb 90 b ≡ t → to_ascii_uppercase (to_ascii_lowercase b) ≡ to_ascii_uppercase b
    go true t e f = ap to_ascii_uppercase ((lowercase_is b).1 (ltb-true b 65 e))
    go false true e f = ap to_ascii_uppercase ((lowercase_is b).2 (ltb-true 90 b f))
    go false false e f =
        let l : 65 ≤ b = ltb-false b 65 e in
        let u : b ≤ 90 = ltb-false 90 b f in
        let d : to_ascii_lowercase b ≡ b + 32 = (lowercase_is b).0 (l, u) in
        let v : to_ascii_uppercase b ≡ b = (uppercase_is b).1 (omega arith) in
        let w : to_ascii_uppercase (b + 32) + 32 ≡ b + 32 = (uppercase_is (b + 32)).0 (omega arith, omega arith) in
        ap to_ascii_uppercase d ∙ omega (arith, v, w)

-- each folding of bytes is one of the other's
up_down : (s : List ℕ) → map fold (map to_ascii_lowercase s) ≡ map fold s
up_down [] = refl
up_down (b ∷ s) = ap₂ (λ (a : ℕ) (t : List ℕ). a ∷ t) (sym (fold_is (to_ascii_lowercase b)) ∙ uppercase_lowercase b ∙ fold_is b) (up_down s)

down_up : (s : List ℕ) → map to_ascii_lowercase (map fold s) ≡ map to_ascii_lowercase s
down_up [] = refl
down_up (b ∷ s) = ap₂ (λ (a : ℕ) (t : List ℕ). a ∷ t) (ap to_ascii_lowercase (sym (fold_is b)) ∙ lowercase-uppercase b) (down_up s)

module _ (w k : List ℕ) where
  alike_if : map to_ascii_lowercase w ≡ map to_ascii_lowercase k → same (map fold w) (map fold k) ≡ true
  alike_if e = ap (same (map fold w)) (sym (sym (up_down w) ∙ ap (map fold) e ∙ up_down k)) ∙ true_same (map fold w)

  only_alike : same (map fold w) (map fold k) ≡ true → map to_ascii_lowercase w ≡ map to_ascii_lowercase k
  only_alike h = sym (down_up w) ∙ ap (map to_ascii_lowercase) (same_true (map fold w) (map fold k) h) ∙ down_up k

  -- the answer of std's comparison is the rules'
  pub alike_is : (t : Bool) → IsTrue t ↔ (map to_ascii_lowercase w ≡ map to_ascii_lowercase k) → t ≡ same (map fold w) (map fold k)
  alike_is true i = sym (alike_if (i.0 refl))
  alike_is false i = go (same (map fold w) (map fold k)) (λ h. i.1 (only_alike h))
    where
      go : (t : Bool) → (t ≡ true → false ≡ true) → false ≡ t
      go true n = n refl
      go false n = refl
