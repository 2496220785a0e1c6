-- Numbers written in places, and read back: the bytes of a table and the digits of a date.
use Prim.Native.Nat.{ℕ, zero, suc, ◌+◌, ◌*◌, ◌/◌, ◌%◌, ◌^◌, ◌<◌}
use mathlib.Core.Path.{◌≡◌, refl, sym, ap, ap₂, ◌∙◌, subst}
use mathlib.Core.List.{List, [], ◌∷◌, map}
use native.Mathlib.Nat.{pow-zero, pow-succ', mul-one, mod-one, mul_assoc, add_assoc, add-mul, mod-eq_of_lt, zero-mul, zero-add, mul-pos}
use native.Mathlib.Omega.{arith}
use lib.Arith.{mod-mul, digits_lt, digits_div, digits_mod}
use lib.ListN.{length}
use Rattle.rules.specs.Table.{bytes}
use Rattle.rules.specs.Written.{wide}
use Rattle.rules.specs.Proper.{Each, none, one}

-- the last `k` digits of a number to the base `B`, the high one first
unfoldable pub places : ℕ → ℕ → ℕ → List ℕ
places B zero n = []
places B (suc k) n = n / B ^ k % B ∷ places B k n

pub bytes_places : (k n : ℕ) → bytes k n ≡ places 256 k n
unfolding places
bytes_places zero n = refl
bytes_places (suc k) n = ap (λ (l : List ℕ). n / 256 ^ k % 256 ∷ l) (bytes_places k n)

pub wide_places : (k n : ℕ) → wide k n ≡ map (λ d. 48 + d) (places 10 k n)
unfolding places wide
wide_places zero n = refl
wide_places (suc k) n = ap (λ (l : List ℕ). (48 + n / 10 ^ k % 10) ∷ l) (wide_places k n)

-- the number that places stand for, after those that gave `a`
unfoldable pub value_onto : ℕ → ℕ → List ℕ → ℕ
value_onto B a [] = a
value_onto B a (d ∷ s) = value_onto B (a * B + d) s

pub pow_positive : (B k : ℕ) → 0 < B → 0 < B ^ k
pow_positive B zero h = rw pow-zero (omega arith)
pow_positive B (suc k) h = rw pow-succ' (mul-pos h (pow_positive B k h))

pub places_value : (B : ℕ) → 0 < B → (k a n : ℕ) → value_onto B a (places B k n) ≡ a * B ^ k + n % B ^ k
unfolding places value_onto
places_value B h zero a n = sym (rw (pow-zero, mul-one, mod-one) (omega arith))
places_value B h (suc k) a n =
    places_value B h k (a * B + n / B ^ k % B) n
    ∙ rw (pow-succ', mod-mul n h (pow_positive B k h), add-mul, mul_assoc, add_assoc)

pub places_back : (B : ℕ) → 0 < B → (k n : ℕ) → n < B ^ k → value_onto B 0 (places B k n) ≡ n
places_back B h k n l = places_value B h k 0 n ∙ rw (zero-mul, zero-add, mod-eq_of_lt l)

pub bytes_back : (k n : ℕ) → n < 256 ^ k → value_onto 256 0 (bytes k n) ≡ n
bytes_back k n h = ap (value_onto 256 0) (bytes_places k n) ∙ places_back 256 (omega arith) k n h

-- ---- the places of a value

module _ (B : ℕ) where
  value_shift : (c : ℕ) (bs : List ℕ) → value_onto B c bs ≡ c * B ^ length bs + value_onto B 0 bs
  unfolding value_onto
  value_shift c [] = sym (rw (pow-zero, mul-one) (omega arith))
  value_shift c (b ∷ bs) =
      let e : value_onto B (0 * B + b) bs ≡ (0 * B + b) * B ^ length bs + value_onto B 0 bs = value_shift (0 * B + b) bs in
      value_shift (c * B + b) bs
      ∙ sym (rw (e, pow-succ', zero-mul, zero-add, add-mul, mul_assoc, add_assoc))

  pub value_bound : {bs : List ℕ} → Each (λ b. b < B) bs → value_onto B 0 bs < B ^ length bs
  unfolding value_onto
  value_bound none = rw pow-zero (omega arith)
  value_bound (one {a = b} {s = bs} h hs) =
      rw (value_shift (0 * B + b) bs, zero-mul, zero-add, pow-succ') (digits_lt h (value_bound hs))

  places_of : (a : ℕ) {bs : List ℕ} → Each (λ b. b < B) bs → places B (length bs) (value_onto B a bs) ≡ bs
  unfolding places value_onto
  places_of a none = refl
  places_of a (one {a = b} {s = bs} h hs) =
      let v : ℕ = value_onto B (a * B + b) bs in
      let e : v / B ^ length bs ≡ a * B + b = ap (λ (i : ℕ). i / B ^ length bs) (value_shift (a * B + b) bs) ∙ digits_div (a * B + b) (value_bound hs) in
      ap₂ (λ (x : ℕ) (y : List ℕ). x ∷ y) (ap (λ (i : ℕ). i % B) e ∙ digits_mod a h) (places_of (a * B + b) hs)

pub bytes_of : (k : ℕ) {bs : List ℕ} → length bs ≡ k → Each (λ b. b < 256) bs → bytes k (value_onto 256 0 bs) ≡ bs
bytes_of k {bs} e h = subst (λ (i : ℕ). bytes i (value_onto 256 0 bs) ≡ bs) e (bytes_places (length bs) (value_onto 256 0 bs) ∙ places_of 256 0 h)
