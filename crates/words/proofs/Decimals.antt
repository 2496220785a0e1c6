-- Reals: the loop that passes trailing zeros, the limits, and the power with an exponent that is held to a cap.
use Prim.Native.Nat.{ℕ, zero, suc, ◌+◌, ◌-◌, ◌^◌, ◌≤◌, ◌<◌, min}
use mathlib.Core.Bool.{Bool, true, false, cond, not, ◌&&◌, and-false}
use mathlib.Core.Option.{none, some}
use mathlib.Core.Path.{◌≡◌, refl, sym, ap, ◌∙◌}
use mathlib.Core.List.{List, [], ◌∷◌, ◌++◌}
use native.Mathlib.Nat.{le_refl}
use native.Mathlib.Omega.{arith}
use borrow.Author.Tests.{eqb-true, leb-true, leb-false, lt-ltb, le-ltb, le-leb, lt-leb, ne_eqb}
use lib.Dec.{eqb, ltb, leb}
use lib.ListN.{length, get_or, take, length-append}
use lib.Seq.{take_all, take-suc, length-take-le}
use Rattle.rules.specs.Data.{Whole}
use Rattle.rules.specs.Values.{onto, number, signed, each, significant, moved, real_kept, a_decimal}
use Rattle.rules.proofs.Words.Worth.{nought, zeros_behind, digit_behind, onto_append, all_zeros}
use Rattle.std.specs.Prelude.{Ok, Err}
use Rattle.words.specs.declared.Value.TheVariants.{Float}
use Rattle.words.specs.declared.Unfit.TheVariants.{PastLimit}
use Rattle.words.specs.Says.{Answer, Worth}
use Rattle.words.specs.Parts.{Significant, RealIs, Finished, Scaled}
use Rattle.words.proofs.Digits.{grows}

and_yes : (a : Bool) → (a && true) ≡ a
and_yes true = refl
and_yes false = refl

-- ---- digits without the zeros that end them

pub record Trimming (s : List ℕ) (j : ℕ) : Type 0 where
  pub within : j ≤ length s
  pub same : significant s ≡ significant (take j s)

pub trim_start : (s : List ℕ) → Trimming s (length s)
trim_start s = record { within = le_refl (length s); same = ap significant (sym (take_all (length s) s (le_refl (length s)))) }

-- the first j bytes end in the one before place j
last_one : (s : List ℕ) (j : ℕ) → 0 < j → j ≤ length s → take j s ≡ take (j - 1) s ++ get_or s (j - 1) 0 ∷ []
last_one s j h l =
    let q : j ≡ suc (j - 1) = omega arith in
    ap (λ (k : ℕ). take k s) q ∙ take-suc s (j - 1) 0 (omega arith)

pub trim_turn : (s : List ℕ) (j : ℕ) → Trimming s j → 0 < j → get_or s (j - 1) 0 ≡ 48 → Trimming s (j - 1)
trim_turn s j t h e = record {
  within = omega (arith, t.within);
  same = t.same ∙ ap significant (last_one s j h t.within) ∙ zeros_behind (take (j - 1) s) (get_or s (j - 1) 0 ∷ []) (rw e);
}

pub trim_stop : (s : List ℕ) (j : ℕ) → Trimming s j → 0 < j → (get_or s (j - 1) 0 ≡ 48 → ⊥) → Significant s j
trim_stop s j t h e =
    let n : eqb (get_or s (j - 1) 0) 48 ≡ false = ne_eqb (get_or s (j - 1) 0) 48 e in
    record {
      within = t.within;
      is = t.same ∙ ap significant (last_one s j h t.within) ∙ digit_behind (take (j - 1) s) (get_or s (j - 1) 0 ∷ []) (rw n) ∙ rw n (sym (last_one s j h t.within));
    }

pub trim_end : (s : List ℕ) (j : ℕ) → Trimming s j → j ≤ 0 → Significant s 0
trim_end s j t h =
    let q : j ≡ 0 = omega arith in
    record { within = omega arith; is = rw q at t.same }

-- all from place j on are zeros
module _ (s : List ℕ) (j : ℕ) (h : j ≤ length s) (z : (k : ℕ) → j ≤ k → k < length s → get_or s k 0 ≡ 48) where
  trimmed : (n : ℕ) → n ≤ length s - j → Trimming s (length s - n)
  trimmed zero l = let q : length s - 0 ≡ length s = omega arith in rw q (trim_start s)
  trimmed (suc n) l =
      let q : length s - suc n ≡ length s - n - 1 = omega arith in
      rw q (trim_turn s (length s - n) (trimmed n (omega arith)) (omega arith) (z (length s - n - 1) (omega arith) (omega arith)))

  trim_to : Trimming s j
  trim_to = let q : length s - (length s - j) ≡ j = omega arith in rw q at (trimmed (length s - j) (le_refl (length s - j)))

pub last_digit : (s : List ℕ) (i : ℕ) → i < length s → ((k : ℕ) → i + 1 ≤ k → k < length s → get_or s k 0 ≡ 48) → (get_or s i 0 ≡ 48 → ⊥) → Significant s (i + 1)
last_digit s i h z n =
    let q : i + 1 - 1 ≡ i = omega arith in
    trim_stop s (i + 1) (trim_to s (i + 1) (omega arith) z) (omega arith) (λ e. n (sym (ap (λ (k : ℕ). get_or s k 0) q) ∙ e))

pub no_digit : (s : List ℕ) → ((k : ℕ) → 0 ≤ k → k < length s → get_or s k 0 ≡ 48) → Significant s 0
no_digit s z = trim_end s 0 (trim_to s 0 (omega arith) z) (omega arith)

-- ---- the limits

real_kept_lem : (neg t : Bool) (m p : ℕ) → (m ≡ 0 → ⊥) → m < 10 ^ 18 → p ≤ 999 → (t && not (eqb p 0)) ≡ t → RealIs (signed neg m) (signed t p) (Ok (Float (record { minus = neg; number = m; below = t; power = p })))
real_kept_lem neg t m p z h k e = record { worth = λ w off. rw (ne_eqb m 0 z, lt-ltb m (10 ^ 18) h, le-leb p 999 k, e, and_yes neg) }

far_power : (n p : Whole) → 999 < p.size → real_kept (record { number = n; power = p }) ≡ cond (eqb n.size 0) (some (record { number = signed false 0; power = signed false 0 })) none
far_power n p h = rw (lt-leb p.size 999 h, and-false (ltb n.size (10 ^ 18)))

far_past : (n p : Whole) → (n.size ≡ 0 → ⊥) → 999 < p.size → RealIs n p (Err PastLimit)
far_past n p z h = record { worth = λ w off. rw (far_power n p h, ne_eqb n.size 0 z) }

module _ (neg : Bool) (m plus minus : ℕ) where
  pub no_number : m ≡ 0 → Finished neg m plus minus (Ok (Float (record { minus = false; number = 0; below = false; power = 0 })))
  no_number h = record { worth = λ n e. let q : n ≡ 0 = omega arith in record { worth = λ w off. rw q } }

  pub big_number : 999999999999999999 < m → Finished neg m plus minus (Err PastLimit)
  big_number h = record {
    worth = λ n e. let z : n ≡ 0 → ⊥ = λ z. omega arith in
        record { worth = λ w off. rw (ne_eqb n 0 z, le-ltb n (10 ^ 18) (omega arith)) };
  }

  pub below_fits : (m ≡ 0 → ⊥) → m ≤ 999999999999999999 → plus < minus → minus - plus ≤ 999 → Finished neg m plus minus (Ok (Float (record { minus = neg; number = m; below = true; power = minus - plus })))
  below_fits z h l k = record {
    worth = λ n e.
        let q : n ≡ m = omega arith in
        let d : (plus - minus) + (minus - plus) ≡ minus - plus = omega arith in
        rw (q, d, lt-ltb plus minus l) (real_kept_lem neg true m (minus - plus) z (omega arith) k (rw (ne_eqb (minus - plus) 0 (λ x. omega arith))));
  }

  pub above_fits : (m ≡ 0 → ⊥) → m ≤ 999999999999999999 → minus ≤ plus → plus - minus ≤ 999 → Finished neg m plus minus (Ok (Float (record { minus = neg; number = m; below = false; power = plus - minus })))
  above_fits z h l k = record {
    worth = λ n e.
        let q : n ≡ m = omega arith in
        let d : (plus - minus) + (minus - plus) ≡ plus - minus = omega arith in
        rw (q, d, le-ltb plus minus l) (real_kept_lem neg false m (plus - minus) z (omega arith) k refl);
  }

  far : (m ≡ 0 → ⊥) → 999 < (plus - minus) + (minus - plus) → Finished neg m plus minus (Err PastLimit)
  far z h = record { worth = λ n e. far_past (signed neg n) (signed (ltb plus minus) ((plus - minus) + (minus - plus))) (λ x. z (omega arith)) h }

  pub below_far : (m ≡ 0 → ⊥) → 999 < minus - plus → Finished neg m plus minus (Err PastLimit)
  below_far z h = far z (omega arith)

  pub above_far : (m ≡ 0 → ⊥) → 999 < plus - minus → Finished neg m plus minus (Err PastLimit)
  above_far z h = far z (omega arith)

-- ---- an exponent that is held to a million decides the same

pub up_yes : (t : Bool) (x y : ℕ) → t ≡ true → y ≡ y + cond t 0 x
up_yes t x y h = rw h (omega arith)

pub up_no : (t : Bool) (x y : ℕ) → t ≡ false → y + x ≡ y + cond t 0 x
up_no t x y h = rw h

pub down_yes : (t : Bool) (x y : ℕ) → t ≡ true → y + x ≡ y + cond t x 0
down_yes t x y h = rw h

pub down_no : (t : Bool) (x y : ℕ) → t ≡ false → y ≡ y + cond t x 0
down_no t x y h = rw h (omega arith)

above_zero : (t : Bool) (z : ℕ) → cond (t && not (eqb z 0)) 0 z ≡ cond t 0 z
above_zero false z = refl
above_zero true z = go (eqb z 0) refl
  where
    go : (u : Bool) → eqb z 0 ≡ u → cond (not u) 0 z ≡ 0
    go true e = eqb-true z 0 e
    go false e = refl

below_zero : (t : Bool) (z : ℕ) → cond (t && not (eqb z 0)) z 0 ≡ cond t z 0
below_zero false z = refl
below_zero true z = go (eqb z 0) refl
  where
    go : (u : Bool) → eqb z 0 ≡ u → cond (not u) z 0 ≡ z
    go true e = sym (eqb-true z 0 e)
    go false e = refl

abbrev difference : ℕ → ℕ → Whole
difference a b = signed (ltb a b) ((a - b) + (b - a))

moved_is : (t : Bool) (z up down : ℕ) → moved (signed t z) up down ≡ difference (up + cond t 0 z) (down + cond t z 0)
moved_is t z up down = rw (above_zero t z, below_zero t z)

both_far : (n p q : Whole) (r : Answer) → 999 < p.size → 999 < q.size → RealIs n p r → RealIs n q r
both_far n p q r h k v = record { worth = λ w off. rw (far_power n q k) (rw (far_power n p h) at (v.worth w off)) }

module _ (neg : Bool) (m : ℕ) (below : Bool) (scale up down plus minus : ℕ) {r : Answer} where
  pub settled : up ≤ 200000 → down ≤ 200000 → plus ≡ up + cond below 0 scale → minus ≡ down + cond below scale 0 → Finished neg m plus minus r → Scaled neg m below scale up down r
  settled a b p q F = record { worth = λ n z e f. rw (moved_is below z up down) (go below n z f (leb z 1000000) refl (rw (p, q) at (F.worth n e))) }
    where
      go : (t : Bool) (n z : ℕ) → scale ≡ min 1000000 z → (u : Bool) → leb z 1000000 ≡ u →
          RealIs (signed neg n) (difference (up + cond t 0 scale) (down + cond t scale 0)) r →
          RealIs (signed neg n) (difference (up + cond t 0 z) (down + cond t z 0)) r
      go t n z f true l v = let k : scale ≡ z = omega (arith, leb-true z 1000000 l) in rw k at v
      go true n z f false l v = both_far (signed neg n) (difference (up + 0) (down + scale)) (difference (up + 0) (down + z)) r (omega (arith, leb-false z 1000000 l)) (omega (arith, leb-false z 1000000 l)) v
      go false n z f false l v = both_far (signed neg n) (difference (up + scale) (down + 0)) (difference (up + z) (down + 0)) r (omega (arith, leb-false z 1000000 l)) (omega (arith, leb-false z 1000000 l)) v

-- ---- the digits of a real

first_zero : (fs : List ℕ) (i : ℕ) → Significant fs i → i ≡ 0 → each nought fs ≡ true
first_zero fs i f e = all_zeros fs (f.is ∙ ap (λ (k : ℕ). take k fs) e)

not_zero : (fs : List ℕ) (i : ℕ) → Significant fs i → (i ≡ 0 → ⊥) → each nought fs ≡ false
not_zero fs i f e = go (each nought fs) refl
  where
    go : (t : Bool) → each nought fs ≡ t → each nought fs ≡ false
    go false h = h
    go true h =
        let l : length (take i fs) ≡ 0 = ap length (sym f.is ∙ zeros_behind [] fs h) in
        absurd (e (sym (length-take-le i fs f.within) ∙ l))

onto_capped : (cap n : ℕ) (s : List ℕ) → min cap (onto (min cap n) s) ≡ min cap (onto n s)
onto_capped cap n s = go (leb n cap) refl
  where
    go : (t : Bool) → leb n cap ≡ t → min cap (onto (min cap n) s) ≡ min cap (onto n s)
    go true h = let q : min cap n ≡ n = omega (arith, leb-true n cap h) in rw q
    go false h =
        let l = leb-false n cap h in
        let q : min cap n ≡ cap = omega arith in
        rw q (omega (arith, grows cap s, grows n s))

module _ (neg : Bool) (ds fs : List ℕ) (below : Bool) (x : List ℕ) (i scale : ℕ) {r : Answer} where
  answer : (s : List ℕ) (m up : ℕ) → significant (ds ++ fs) ≡ s → m ≡ min (10 ^ 18) (onto 0 s) → up ≡ length (ds ++ fs) - length s → scale ≡ min 1000000 (onto 0 x) → Scaled neg m below scale up (length fs) r → Worth (a_decimal neg ds fs (signed below (number x))) r
  answer s m up e f g h S = record { worth = λ w off. rw (e, ← g) ((S.worth (onto 0 s) (onto 0 x) f h).worth w off) }

  pub decimal_before : (k m : ℕ) → scale ≡ min 1000000 (onto 0 x) → Significant fs i → i ≡ 0 → Significant ds k → m ≡ min (10 ^ 18) (onto 0 (take (k - 0) ds)) → Scaled neg m below scale (length ds - k + length fs) (length fs) r → Worth (a_decimal neg ds fs (signed below (number x))) r
  decimal_before k m h f e g n S =
      let z : k - 0 ≡ k = omega arith in
      answer (take k ds) m (length ds - k + length fs) (zeros_behind ds fs (first_zero fs i f e) ∙ g.is) (rw z at n)
      (omega (arith, length-append ds fs, length-take-le k ds g.within, g.within)) h S

  pub decimal_behind : (a m : ℕ) → scale ≡ min 1000000 (onto 0 x) → Significant fs i → (i ≡ 0 → ⊥) → a ≡ min (10 ^ 18) (onto 0 ds) → m ≡ min (10 ^ 18) (onto a (take (i - 0) fs)) → Scaled neg m below scale (length fs - i) (length fs) r → Worth (a_decimal neg ds fs (signed below (number x))) r
  decimal_behind a m h f e n o S =
      let z : i - 0 ≡ i = omega arith in
      answer (ds ++ take i fs) m (length fs - i) (digit_behind ds fs (not_zero fs i f e) ∙ ap (λ (s : List ℕ). ds ++ s) f.is)
      ((rw (n, z) at o) ∙ onto_capped (10 ^ 18) (onto 0 ds) (take i fs) ∙ ap (min (10 ^ 18)) (sym (onto_append 0 ds (take i fs))))
      (omega (arith, length-append ds fs, length-append ds (take i fs), length-take-le i fs f.within, f.within)) h S
