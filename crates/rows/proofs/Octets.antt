-- Numbers out of a body's bytes, as the rules' reader of rows takes them, and two's complement.
use Prim.Native.Nat.{ℕ, zero, suc, ◌+◌, ◌-◌, ◌*◌, ◌^◌, ◌≤◌, ◌<◌}
use mathlib.Core.Bool.{Bool, true, false, cond}
use mathlib.Core.Path.{◌≡◌, refl, sym, ap, subst, ◌∙◌}
use mathlib.Core.List.{List, [], ◌∷◌, ◌++◌}
use native.Mathlib.Nat.{add_assoc, zero-add, pow-suc, pow-le-pow_right}
use native.Mathlib.Omega.{arith}
use borrow.Author.Rules.{rules}
use borrow.Author.Tests.{lt-ltb, le-leb, lt-leb, leb-true, leb-false}
use lib.Dec.{ltb, leb}
use lib.ListN.{length, get_or, drop}
use Rattle.rules.proofs.Machine.Decoding.{Decoded, nothing, field, byte_then}
use Rattle.classes.specs.Places.{ByteAt}
use Rattle.classes.proofs.Runs.{unroll}
use Rattle.words.specs.Says.{whole}
use Rattle.rows.specs.Decoding.{fit, NumberAt, OctetAt}

-- ---- so many bytes of a body

pub fit_size : (n : ℕ) (b : List ℕ) → length (fit n b) ≡ n
unfolding fit
fit_size zero b = refl
fit_size (suc n) [] = ap suc (fit_size n [])
fit_size (suc n) (x ∷ b) = ap suc (fit_size n b)

pub fit_whole : (n : ℕ) (b : List ℕ) → length b ≡ n → fit n b ≡ b
unfolding fit
fit_whole zero [] e = refl
fit_whole zero (x ∷ b) e = absurd (omega arith)
fit_whole (suc n) [] e = absurd (omega arith)
fit_whole (suc n) (x ∷ b) e = ap (λ (l : List ℕ). x ∷ l) (fit_whole n b (omega arith))

fit_at : (n : ℕ) (b : List ℕ) (i : ℕ) → i < n → get_or (fit n b) i 0 ≡ get_or b i 0
unfolding fit
fit_at zero b i h = absurd (omega arith)
fit_at (suc n) [] zero h = refl
fit_at (suc n) [] (suc i) h = fit_at n [] i (omega arith)
fit_at (suc n) (x ∷ b) zero h = refl
fit_at (suc n) (x ∷ b) (suc i) h = fit_at n b i (omega arith)

fit_turn : (n : ℕ) (b : List ℕ) (i x : ℕ) → ByteAt b i x → i + 1 ≤ n → drop i (fit n b) ≡ x ∷ drop (i + 1) (fit n b)
fit_turn n b i x h l =
    unroll (fit n b) i (omega (arith, fit_size n b)) ∙ ap (λ (y : ℕ). y ∷ drop (i + 1) (fit n b)) (fit_at n b i (omega arith) ∙ sym h.is)

-- ---- fields

one_octet : (a : ℕ) (b : List ℕ) (i x : ℕ) → ByteAt b i x → x < 256 → NumberAt 1 a b i (a * 256 + x)
unfolding field
one_octet a b i x h l = record { then = λ n k rest f. go n k rest f }
  where
    go : (n : ℕ) → i + 1 ≤ n → (rest : List ℕ) (f : ℕ → List ℕ → Decoded) → field 1 a (drop i (fit n b) ++ rest) f ≡ f (a * 256 + x) (drop (i + 1) (fit n b) ++ rest)
    go n k rest f = rw (fit_turn n b i x h k, lt-ltb x 256 l)

pub an_octet : (b : List ℕ) (i x : ℕ) → ByteAt b i x → OctetAt b i x
an_octet b i x h = record { then = λ n k rest f. go n k rest f }
  where
    go : (n : ℕ) → i + 1 ≤ n → (rest : List ℕ) (f : ℕ → List ℕ → Decoded) → byte_then (drop i (fit n b) ++ rest) f ≡ f x (drop (i + 1) (fit n b) ++ rest)
    go n k rest f = rw (fit_turn n b i x h k)

-- a number in two parts
field_more : (k j a : ℕ) (s : List ℕ) (f : ℕ → List ℕ → Decoded) → field (k + j) a s f ≡ field k a s (λ v t. field j v t f)
unfolding field
field_more zero j a s f = ap (λ (n : ℕ). field n a s f) (zero-add j)
field_more (suc k) j a [] f = let e : suc k + j ≡ suc (k + j) = omega arith in ap (λ (n : ℕ). field n a [] f) e
field_more (suc k) j a (x ∷ s) f =
    let e : suc k + j ≡ suc (k + j) = omega arith in
    ap (λ (n : ℕ). field n a (x ∷ s) f) e ∙ ap (λ (d : Decoded). cond (ltb x 256) d nothing) (field_more k j (a * 256 + x) s f)

together : (k j a : ℕ) (b : List ℕ) (i h r : ℕ) → NumberAt k a b i h → NumberAt j h b (i + k) r → NumberAt (k + j) a b i r
together k j a b i h r p q = record {
  then = λ n l rest f. field_more k j a (drop i (fit n b) ++ rest) f ∙ p.then n (omega arith) rest (λ v t. field j v t f) ∙ q.then n (omega arith) rest f
      ∙ ap (λ (m : ℕ). f r (drop m (fit n b) ++ rest)) (add_assoc i k j);
}

-- a number of so many bytes, and its bound
pub record Number (k : ℕ) (b : List ℕ) (i v : ℕ) : Type 0 where
  pub at : NumberAt k 0 b i v
  pub small : v < 256 ^ k

pub no_octets : (b : List ℕ) (i : ℕ) → Number 0 b i 0
unfolding field
no_octets b i = record {
  at = record { then = λ n k rest f. let e : i ≡ i + 0 = omega arith in ap (λ (m : ℕ). f 0 (drop m (fit n b) ++ rest)) e };
  small = omega arith;
}

pub one_more : (k : ℕ) (b : List ℕ) (i v x y : ℕ) → Number k b i v → ByteAt b (i + k) x → x < 256 → y ≡ x → Number (k + 1) b i (v * 256 + y)
one_more k b i v x y w h l e = subst (λ (z : ℕ). Number (k + 1) b i (v * 256 + z)) (sym e) (record {
  at = together k 1 0 b i v (v * 256 + x) w.at (one_octet v b (i + k) x h l);
  small = let p : 256 ^ (k + 1) ≡ 256 ^ k * 256 = pow_more k in omega (arith, p, w.small);
})
  where
    pow_more : (k : ℕ) → 256 ^ (k + 1) ≡ 256 ^ k * 256
    pow_more k = let e : k + 1 ≡ suc k = omega arith in ap (λ (n : ℕ). 256 ^ n) e ∙ pow-suc 256 k

-- another byte of no more than eight fits the code's number
pub in_reach : (k v x : ℕ) → k < 8 → v < 256 ^ k → x < 256 → v * 256 + x < 18446744073709551616
in_reach k v x h l m = let p : 256 ^ k ≤ 256 ^ 7 = pow-le-pow_right {n = 256} (omega arith) {i = k} {j = 7} (omega arith) in omega (arith, p)

-- ---- two's complement

pub size_minus : (v half : ℕ) → half ≤ v → v < half + half → half - (v - half) ≡ cond (leb half v) (half + half - v) v
size_minus v half h l = rw (le-leb half v h) (omega arith)

pub size_plain : (v half : ℕ) → v < half → v ≡ cond (leb half v) (half + half - v) v
size_plain v half h = rw (lt-leb half v h)

-- a sign and a size that the code found so are the number
pub signs : (K half v : ℕ) (m : Bool) (z : ℕ) → K ≡ half + half → m ≡ leb half v → z ≡ cond (leb half v) (half + half - v) v →
    cond (leb K (2 * v)) (record { minus = true; size = K - v }) (record { minus = false; size = v }) ≡ whole m z
signs K half v m z e f g = go (leb half v) refl
  where
    go : (t : Bool) → leb half v ≡ t → cond (leb K (2 * v)) (record { minus = true; size = K - v }) (record { minus = false; size = v }) ≡ whole m z
    go true h =
        let a : leb K (2 * v) ≡ true = le-leb K (2 * v) (omega (arith, leb-true half v h)) in
        rw (a, f, g, h, e)
    go false h =
        let a : leb K (2 * v) ≡ false = lt-leb K (2 * v) (omega (arith, leb-false half v h)) in
        rw (a, f, g, h)

pub ruleset numbers = (an_octet, no_octets, one_more, in_reach, size_minus, size_plain, rules)
