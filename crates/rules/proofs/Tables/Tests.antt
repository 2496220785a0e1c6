-- Tests that are true or false: taken apart and put together; what holds of the bytes of a list; and tests of every number below a bound.
use Prim.Native.Nat.{ℕ, zero, suc, ◌≤◌, ◌<◌}
use native.Mathlib.Omega.{arith}
use mathlib.Core.Path.{◌≡◌, refl, ap, ◌∙◌}
use mathlib.Core.Bool.{Bool, true, false, cond, not, ◌&&◌, ◌||◌, false≢true, true≢false, and-false}
use mathlib.Core.List.{List, [], ◌∷◌, ◌++◌}
use borrow.Author.Tests.{leb-true, le-leb, lt-leb, eqb-true, eqb-false, eq-eqb}
use lib.Dec.{leb, eqb}
use Rattle.rules.specs.Bytes.{between, All}
use Rattle.rules.specs.Bytes as Bytes
use Rattle.rules.specs.Values.{each, same}
use Rattle.rules.specs.Proper.{Each, none, one}

pub cond-case {ℓ} : {A : Type ℓ} (G : A → Type 0) (t : Bool) (a b : A) → (t ≡ true → G a) → (t ≡ false → G b) → G (cond t a b)
cond-case G true a b f g = f refl
cond-case G false a b f g = g refl

pub cond_same {ℓ} : {A : Type ℓ} (t : Bool) (a : A) → cond t a a ≡ a
cond_same true a = refl
cond_same false a = refl

pub and_true : {a b : Bool} → a ≡ true → b ≡ true → (a && b) ≡ true
and_true {a} {b} p q = rw p q

pub and_left : (a b : Bool) → (a && b) ≡ true → a ≡ true
and_left true b h = refl
and_left false b h = absurd (false≢true h)

pub and_right : (a b : Bool) → (a && b) ≡ true → b ≡ true
and_right true b h = h
and_right false b h = absurd (false≢true h)

pub or_left : (a b : Bool) → (a || b) ≡ false → a ≡ false
or_left true b h = absurd (true≢false h)
or_left false b h = refl

pub or_right : (a b : Bool) → (a || b) ≡ false → b ≡ false
or_right true b h = absurd (true≢false h)
or_right false b h = h

pub or_first : (a b : Bool) → a ≡ true → (a || b) ≡ true
or_first a b h = rw h

pub or_second : (a b : Bool) → b ≡ true → (a || b) ≡ true
or_second true b h = refl
or_second false b h = h

pub or_case : (a b : Bool) (P : Type 0) → (a || b) ≡ true → (a ≡ true → P) → (b ≡ true → P) → P
or_case true b P h f g = f refl
or_case false b P h f g = g h

pub not_as : (a : Bool) → a ≡ false → not a ≡ true
not_as a h = rw h

pub as_not : (a : Bool) → not a ≡ true → a ≡ false
as_not true h = absurd (false≢true h)
as_not false h = refl

pub between_in : (lo hi b : ℕ) → lo ≤ b → b ≤ hi → between lo hi b ≡ true
between_in lo hi b h k = and_true (le-leb lo b h) (le-leb b hi k)

pub between_out : (lo hi b : ℕ) → between lo hi b ≡ true → (lo ≤ b) × (b ≤ hi)
between_out lo hi b h = (leb-true lo b (and_left (leb lo b) (leb b hi) h), leb-true b hi (and_right (leb lo b) (leb b hi) h))

pub between_below : (lo hi b : ℕ) → b < lo → between lo hi b ≡ false
between_below lo hi b h = rw (lt-leb lo b h)

pub between_above : (lo hi b : ℕ) → hi < b → between lo hi b ≡ false
between_above lo hi b h = rw (lt-leb b hi h) (and-false (leb lo b))

-- ---- lists

pub passes_each : (p : ℕ → Bool) (s : List ℕ) → each p s ≡ true → Each (λ b. p b ≡ true) s
passes_each p [] h = none
passes_each p (b ∷ s) h = one (and_left (p b) (each p s) h) (passes_each p s (and_right (p b) (each p s) h))

pub each_map : {A : Type 0} {P Q : A → Type 0} {s : List A} → ((a : A) → P a → Q a) → Each P s → Each Q s
each_map f none = none
each_map f (one {a} h hs) = one (f a h) (each_map f hs)

pub all_append : {c : ℕ → Bool} {a b : List ℕ} → All c a → All c b → All c (a ++ b)
all_append Bytes.none k = k
all_append (Bytes.one h hs) k = Bytes.one h (all_append hs k)

module _ {A : Type 0} {P : A → Type 0} where
  pub each_left : (xs ys : List A) → Each P (xs ++ ys) → Each P xs
  each_left [] ys h = none
  each_left (x ∷ xs) ys (one p h) = one p (each_left xs ys h)

  pub each_right : (xs ys : List A) → Each P (xs ++ ys) → Each P ys
  each_right [] ys h = h
  each_right (x ∷ xs) ys (one p h) = each_right xs ys h

  pub each_append : {xs ys : List A} → Each P xs → Each P ys → Each P (xs ++ ys)
  each_append none k = k
  each_append (one p h) k = one p (each_append h k)

  pub each_last : {xs : List A} {y : A} → Each P xs → P y → Each P (xs ++ (y ∷ []))
  each_last h p = each_append h (one p none)

-- the test of equal bytes
pub same_true : (s t : List ℕ) → same s t ≡ true → s ≡ t
same_true [] [] h = refl
same_true [] (b ∷ t) h = absurd (false≢true h)
same_true (a ∷ s) [] h = absurd (false≢true h)
same_true (a ∷ s) (b ∷ t) h = let e = eqb-true a b (and_left (eqb a b) (same s t) h) in let f = same_true s t (and_right (eqb a b) (same s t) h) in rw (e, f)

pub true_same : (s : List ℕ) → same s s ≡ true
true_same [] = refl
true_same (a ∷ s) = rw (eq-eqb a a refl) (true_same s)

-- ---- a test of every number below a bound

abbrev pub check : (ℕ → Bool) → ℕ → Bool
check p zero = true
check p (suc k) = p k && check p k

pub upto : (p : ℕ → Bool) (k : ℕ) → check p k ≡ true → (m : ℕ) → m < k → p m ≡ true
upto p zero h m l = absurd (omega arith)
upto p (suc k) h m l = go (upto p k (and_right (p k) (check p k) h) m) (eqb m k) refl
  where
    go : (m < k → p m ≡ true) → (t : Bool) → eqb m k ≡ t → p m ≡ true
    go ih true e = ap p (eqb-true m k e) ∙ and_left (p k) (check p k) h
    go ih false e = let n = eqb-false m k e in ih (omega arith)

-- of two tests, as of a leap year and of a plain one
pub upto_either : (p : Bool → ℕ → Bool) (k : ℕ) → check (p true) k ≡ true → check (p false) k ≡ true → (t : Bool) (m : ℕ) → m < k → p t m ≡ true
upto_either p k h g true m l = upto (p true) k h m l
upto_either p k h g false m l = upto (p false) k g m l
