-- Digits: the loops that add digits up, and integers, decimal and based.
use Prim.Native.Nat.{ℕ, ◌+◌, ◌-◌, ◌*◌, ◌/◌, ◌^◌, ◌≤◌, ◌<◌, min}
use mathlib.Core.Bool.{Bool, true, false, cond, not, ◌&&◌}
use mathlib.Core.Path.{◌≡◌, refl, sym, ap, ◌∙◌}
use mathlib.Core.List.{List, [], ◌∷◌}
use native.Mathlib.Nat.{le_refl, mul-le-mul_left, le-div_iff_mul-le, div-lt_iff_lt-mul}
use native.Mathlib.Omega.{arith}
use borrow.Author.Tests.{lt-ltb, le-ltb, le-leb, lt-leb}
use lib.Dec.{eqb, ltb}
use lib.ListN.{length, get_or, drop, drop_of_length-le}
use Rattle.rules.specs.Bytes.{digit, fold}
use Rattle.rules.specs.Data as elem
use Rattle.rules.specs.Values.{onto, number, signed, within, fits, worth, in_base, each, a_whole, a_based}
use Rattle.rules.proofs.Machine.Words.{is, over, limited}
use Rattle.std.specs.Prelude.{Option, Some, None, Ok, Err}
use Rattle.words.specs.declared.Value.TheVariants.{Integer, Based}
use Rattle.words.specs.declared.Unfit.TheVariants.{PastLimit}
use Rattle.words.specs.Says.{Answer, Worth}
use Rattle.words.specs.Parts.{based}
use Rattle.classes.proofs.Runs.{unroll}

pub grows : (n : ℕ) (ds : List ℕ) → n ≤ onto n ds
grows n [] = le_refl n
grows n (d ∷ ds) = omega (arith, grows (n * 10 + (d - 48)) ds)

-- the loop's invariant: what is read, with what is left, is the whole
pub record Adding (first : ℕ) (ds : List ℕ) (cap n i : ℕ) : Type 0 where
  pub within : i ≤ length ds
  pub small : n ≤ cap
  pub same : onto n (drop i ds) ≡ onto first ds

pub start : (first : ℕ) (ds : List ℕ) (cap : ℕ) → first ≤ cap → Adding first ds cap first 0
start first ds cap h = record { within = omega arith; small = omega arith; same = refl }

-- the next digit
next : (ds : List ℕ) (n i : ℕ) → i < length ds → onto n (drop i ds) ≡ onto (n * 10 + (get_or ds i 0 - 48)) (drop (i + 1) ds)
next ds n i h = ap (onto n) (unroll ds i h)

pub turn : (first : ℕ) (ds : List ℕ) (cap n i d : ℕ) → Adding first ds cap n i → i < length ds → d ≡ get_or ds i 0 - 48 → n ≤ (cap - d) / 10 → d ≤ cap → Adding first ds cap (n * 10 + d) (i + 1)
turn first ds cap n i d v h e q k = record {
  within = omega arith;
  small = omega arith;
  same = rw e (sym (next ds n i h) ∙ v.same);
}

pub capped : (first : ℕ) (ds : List ℕ) (cap n i d : ℕ) → Adding first ds cap n i → i < length ds → d ≡ get_or ds i 0 - 48 → (cap - d) / 10 < n → cap ≡ min cap (onto first ds)
capped first ds cap n i d v h e q = omega (arith, v.same, next ds n i h, grows (n * 10 + (get_or ds i 0 - 48)) (drop (i + 1) ds))

pub whole : (first : ℕ) (ds : List ℕ) (cap n i : ℕ) → Adding first ds cap n i → length ds ≤ i → n ≡ min cap (onto first ds)
whole first ds cap n i v h =
    let e : onto n (drop i ds) ≡ n = ap (onto n) (drop_of_length-le ds h) in
    omega (arith, v.same)

pub number_is : (n : ℕ) (s t : List ℕ) → s ≡ t → n ≡ min 10000 (onto 0 s) → n ≡ min 10000 (number t)
number_is n s t e h = h ∙ ap (λ (u : List ℕ). min 10000 (onto 0 u)) e

-- ---- integers

pub past : (neg : Bool) (ds : List ℕ) (n : ℕ) → n ≡ min 9223372036854775808 (onto 0 ds) → n ≡ 9223372036854775808 → Worth (a_whole (signed neg (number ds))) (Err PastLimit)
past neg ds n e h = record { worth = λ w off. rw (le-ltb (onto 0 ds) (2 ^ 63) (omega arith)) }

pub fitting : (neg : Bool) (ds : List ℕ) (n : ℕ) → n ≡ min 9223372036854775808 (onto 0 ds) → (n ≡ 9223372036854775808 → ⊥) → Worth (a_whole (signed neg (number ds))) (Ok (Integer (neg && not (eqb n 0)) n))
fitting neg ds n e h =
    let q : onto 0 ds ≡ n = omega arith in
    record { worth = λ w off. rw (q, lt-ltb n (2 ^ 63) (omega arith)) }

-- ---- based integers

pub digit_worth : (b v : ℕ) (t : Bool) → t ≡ digit b → t ≡ true → v ≡ b - 48 → v ≡ worth b
digit_worth b v t e h x = rw (sym e ∙ h) x

pub letter_worth : (b f v : ℕ) (t : Bool) → t ≡ digit b → t ≡ false → f ≡ fold b → v ≡ f - 55 → v ≡ worth b
letter_worth b f v t e h q x = rw (sym e ∙ h) (x ∙ ap (λ (k : ℕ). k - 55) q)

module _ (r : ℕ) where
  abbrev below : ℕ → Bool
  below d = ltb (worth d) r

  pub record Basing (ds : List ℕ) (n i : ℕ) : Type 0 where
    pub within : i ≤ length ds
    pub small : n ≤ 9223372036854775807
    pub kept : each below ds ≡ each below (drop i ds)
    pub same : in_base r n (drop i ds) ≡ in_base r 0 ds

  pub base_start : (ds : List ℕ) → Basing ds 0 0
  base_start ds = record { within = omega arith; small = omega arith; kept = refl; same = refl }

  base_grows : (n : ℕ) (ds : List ℕ) → 2 ≤ r → n ≤ in_base r n ds
  base_grows n [] h = le_refl n
  base_grows n (d ∷ ds) h =
      let g : n * r + worth d ≤ in_base r (n * r + worth d) ds = base_grows (n * r + worth d) ds h in
      let k : n * 2 ≤ n * r = mul-le-mul_left n h in
      omega arith

  pub base_mul : (n d : ℕ) → 2 ≤ r → n ≤ (9223372036854775807 - d) / r → n * r ≤ 9223372036854775807 - d
  base_mul n d z q = (le-div_iff_mul-le {k = r} {x = n} {y = 9223372036854775807 - d} (omega arith)).0 q

  pub base_turn : (ds : List ℕ) (n i d : ℕ) → 2 ≤ r → r ≤ 16 → Basing ds n i → i < length ds → d ≡ worth (get_or ds i 0) → d < r → n ≤ (9223372036854775807 - d) / r → Basing ds (n * r + d) (i + 1)
  base_turn ds n i d z y v h e k q =
      let m = base_mul n d z q in
      record {
        within = omega arith;
        small = omega arith;
        kept = v.kept ∙ ap (each below) (unroll ds i h) ∙ rw (lt-ltb (worth (get_or ds i 0)) r (omega arith));
        same = rw e (sym (ap (in_base r n) (unroll ds i h)) ∙ v.same);
      }

  held : (t : Bool) (x : ℕ) → 9223372036854775808 ≤ x → None ≡ cond t (cond (ltb x 9223372036854775808) (Some x) None) None
  held true x h = rw (le-ltb x 9223372036854775808 h)
  held false x h = refl

  pub base_over : (ds : List ℕ) (n i d : ℕ) → 2 ≤ r → Basing ds n i → i < length ds → d ≡ worth (get_or ds i 0) → (9223372036854775807 - d) / r < n → None ≡ based r ds
  unfolding based
  base_over ds n i d z v h e q =
      let m : 9223372036854775807 - d < n * r = (div-lt_iff_lt-mul {k = r} {x = 9223372036854775807 - d} {y = n} (omega arith)).0 q in
      let s : in_base r (n * r + worth (get_or ds i 0)) (drop (i + 1) ds) ≡ in_base r 0 ds = sym (ap (in_base r n) (unroll ds i h)) ∙ v.same in
      held (each below ds) (in_base r 0 ds) (omega (arith, s, base_grows (n * r + worth (get_or ds i 0)) (drop (i + 1) ds) z))

  pub base_unfit : (ds : List ℕ) (n i d : ℕ) → Basing ds n i → i < length ds → d ≡ worth (get_or ds i 0) → r ≤ d → None ≡ based r ds
  unfolding based
  base_unfit ds n i d v h e k =
      let f : each below ds ≡ false = v.kept ∙ ap (each below) (unroll ds i h) ∙ rw (le-ltb (worth (get_or ds i 0)) r (omega arith)) in
      rw f

  pub base_end : (ds : List ℕ) (n i : ℕ) → Basing ds n i → length ds ≤ i → Some n ≡ based r ds
  unfolding based
  base_end ds n i v h =
      let t : each below ds ≡ true = v.kept ∙ ap (each below) (drop_of_length-le ds h) in
      let e : in_base r n (drop i ds) ≡ n = ap (in_base r n) (drop_of_length-le ds h) in
      let q : in_base r 0 ds ≡ n = sym v.same ∙ e in
      rw (t, q, lt-ltb n 9223372036854775808 (omega (arith, v.small)))

-- the number that there is
abbrev pub num_or : ℕ → Option ℕ → ℕ
num_or d None = d
num_or d (Some n) = n

pub none_some : {n : ℕ} → ◌≡◌ {A = Option ℕ} None (Some n) → ⊥
none_some {n} h = absurd (omega (arith, ap (λ (o : Option ℕ). is_there o) h))
  where
    is_there : Option ℕ → ℕ
    is_there None = 0
    is_there (Some n) = 1

abbrev InRadix : List ℕ → Bool → List ℕ → Answer → Type 0
InRadix rs neg ds v = Worth (a_based (number rs) neg ds) v

pub radix_low : (rs ds : List ℕ) (neg : Bool) (b : ℕ) → b ≡ min 255 (onto 0 rs) → b < 2 → InRadix rs neg ds (Err PastLimit)
radix_low rs ds neg b e h = record { worth = λ w off. rw (lt-leb 2 (onto 0 rs) (omega arith)) }

pub radix_high : (rs ds : List ℕ) (neg : Bool) (b : ℕ) → b ≡ min 255 (onto 0 rs) → 16 < b → InRadix rs neg ds (Err PastLimit)
radix_high rs ds neg b e h = record { worth = λ w off. rw (le-leb 2 (onto 0 rs) (omega arith), lt-leb (onto 0 rs) 16 (omega arith)) }

abbrev fine : ℕ → List ℕ → Bool
fine r ds = each (λ d. ltb (worth d) r) ds

module _ (rs ds : List ℕ) (neg : Bool) (b : ℕ) (e : b ≡ min 255 (onto 0 rs)) (l : 2 ≤ b) (m : b ≤ 16) (o : Option ℕ) (f : o ≡ based b ds) where
  pub radix_past : o ≡ None → InRadix rs neg ds (Err PastLimit)
  unfolding based
  radix_past h =
      let q : onto 0 rs ≡ b = omega arith in
      record { worth = λ w off. rw (q, le-leb 2 b l, le-leb b 16 m) (go (fine b ds) (in_base b 0 ds) neg (ltb (in_base b 0 ds) 9223372036854775808) refl (sym h ∙ f)) }
    where
      go : (t : Bool) (x : ℕ) (neg : Bool) (u : Bool) → ltb x 9223372036854775808 ≡ u → None ≡ cond t (cond u (Some x) None) None → limited (within (t && fits (signed neg x)) (elem.based (signed neg x))) ≡ over
      go true x neg false k h = rw k
      go true x neg true k h = absurd (none_some h)
      go false x neg u k h = refl

  pub radix_fits : (n : ℕ) → o ≡ Some n → InRadix rs neg ds (Ok (Based (neg && not (eqb n 0)) n))
  unfolding based
  radix_fits n h =
      let q : onto 0 rs ≡ b = omega arith in
      record { worth = λ w off. rw (q, le-leb 2 b l, le-leb b 16 m) (go (fine b ds) (in_base b 0 ds) (ltb (in_base b 0 ds) 9223372036854775808) refl (sym h ∙ f)) }
    where
      go : (t : Bool) (x : ℕ) (u : Bool) → ltb x 9223372036854775808 ≡ u → Some n ≡ cond t (cond u (Some x) None) None → limited (within (t && fits (signed neg x)) (elem.based (signed neg x))) ≡ is (elem.based (signed neg n))
      go true x true k g = let z : x ≡ n = ap (num_or 0) (sym g) in rw (k, z)
      go true x false k g = absurd (none_some (sym g))
      go false x u k g = absurd (none_some (sym g))
