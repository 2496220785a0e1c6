-- A comment passed with one look at each byte: whether a star goes on is told by the byte behind it.
use Prim.Native.Nat.{ℕ, ◌+◌, ◌-◌, ◌≤◌, ◌<◌}
use mathlib.Core.Bool.{Bool, true, false, not, ◌&&◌, true≢false}
use mathlib.Core.Path.{◌≡◌, refl, sym, ap, subst, ◌∙◌}
use mathlib.Core.List.{List, [], ◌∷◌}
use native.Mathlib.Omega.{arith}
use lib.Dec.{eqb, ltb}
use lib.ListN.{length, get_or, drop, drop_of_length-le}
use Rattle.rules.specs.Bytes.{line_end}
use Rattle.rules.specs.Elements.{in_comment}
use Rattle.classes.specs.Places.{EndsAt}
use Rattle.classes.proofs.Runs.{Passing, start, turn, stop, last, unroll}
use borrow.Author.Tests.{eqb-true}
use Rattle.elements.proofs.Pairs.{two}

-- below 128 and no line end
abbrev plain : ℕ → Bool
plain b = ltb b 128 && not (line_end b)

-- what is passed: all up to here, or where a star stands behind, all up to that
pub record Behind (l : List ℕ) (at i : ℕ) (star : Bool) : Type 0 where
  pub within : i ≤ length l
  pub from : at ≤ i
  pub free : star ≡ false → Passing in_comment l at i
  pub held : star ≡ true → (at + 1 ≤ i) × (get_or l (i - 1) 0 ≡ 42) × Passing in_comment l at (i - 1)

pub begins : (l : List ℕ) (at : ℕ) → at ≤ length l → Behind l at at false
begins l at h = record { within = h; from = omega arith; free = λ e. start in_comment l at h; held = λ e. absurd (true≢false (sym e)) }

-- a byte that is no star goes on where it is plain
other : (b : ℕ) (r : List ℕ) → plain b ≡ true → eqb b 42 ≡ false → in_comment (b ∷ r) ≡ true
other b [] p e = rw (p, e)
other b (c ∷ r) p e = rw (p, e)

starred : (c : ℕ) (r : List ℕ) → eqb c 47 ≡ false → in_comment (42 ∷ c ∷ r) ≡ true
starred c r e = rw e

closes : (c : ℕ) (r : List ℕ) → eqb c 47 ≡ true → in_comment (42 ∷ c ∷ r) ≡ false
closes c r e = rw e

foreign : (b : ℕ) (r : List ℕ) → plain b ≡ false → in_comment (b ∷ r) ≡ false
foreign b r p = rw p

-- what the code's test of one byte tells
not_plain : (p e : Bool) → (p && not (e && false)) ≡ false → p ≡ false
not_plain false e q = refl
not_plain true true q = absurd (true≢false q)
not_plain true false q = absurd (true≢false q)

is_plain : (p e : Bool) → (p && not (e && false)) ≡ true → p ≡ true
is_plain true e q = refl
is_plain false e q = absurd (true≢false (sym q))

module _ (l : List ℕ) (at i : ℕ) (h : i < length l) where
  b : ℕ
  b = get_or l i 0

  -- the star behind with the byte here
  pair_behind : 1 ≤ i → get_or l (i - 1) 0 ≡ 42 → drop (i - 1) l ≡ 42 ∷ b ∷ drop (i - 1 + 2) l
  unfolding b
  pair_behind k s = two l (i - 1) 42 (get_or l i 0) s (let q : i - 1 + 1 ≡ i = omega arith in ap (λ (n : ℕ). get_or l n 0) q) (omega arith)

  closed_by : (star : Bool) → Behind l at i star → (star && eqb b 47) ≡ true → (1 ≤ i) × EndsAt in_comment l at (i - 1)
  closed_by false v e = absurd (true≢false (sym e))
  closed_by true v e =
      let w = v.held refl in
      let k : 1 ≤ i = omega (arith, w.0) in
      (k, stop in_comment l at (i - 1) w.2 (ap in_comment (pair_behind k w.1) ∙ closes b (drop (i - 1 + 2) l) e))

  passed_by : (star : Bool) → Behind l at i star → (star && eqb b 47) ≡ false → Passing in_comment l at i
  passed_by false v e = v.free refl
  passed_by true v e =
      let w = v.held refl in
      let k : 1 ≤ i = omega (arith, w.0) in
      let q : i - 1 + 1 ≡ i = omega arith in
      subst (Passing in_comment l at) q (turn in_comment l at (i - 1) w.2 (omega arith) (ap in_comment (pair_behind k w.1) ∙ starred b (drop (i - 1 + 2) l) e))

  module _ (star t : Bool) (v : Behind l at i star) (e : t ≡ (star && eqb (get_or l i 0) 47)) where
    pub closed : t ≡ true → (1 ≤ i) × EndsAt in_comment l at (i - 1)
    unfolding b
    closed f = closed_by star v (sym e ∙ f)

    module _ (r : Bool) (f : t ≡ false) (g : r ≡ ((ltb (get_or l i 0) 128 && not (line_end (get_or l i 0))) && not (eqb (get_or l i 0) 42 && eqb 0 47))) where
      here : Passing in_comment l at i
      unfolding b
      here = passed_by star v (sym e ∙ f)

      pub stops_here : r ≡ false → EndsAt in_comment l at i
      stops_here n = stop in_comment l at i here (ap in_comment (unroll l i h) ∙ foreign (get_or l i 0) (drop (i + 1) l) (not_plain _ (eqb (get_or l i 0) 42) (sym g ∙ n)))

      pub onward : (u : Bool) → r ≡ true → u ≡ eqb (get_or l i 0) 42 → Behind l at (i + 1) u
      onward u n k = record {
        within = omega arith;
        from = omega (arith, v.from);
        free = λ z. turn in_comment l at i here h (ap in_comment (unroll l i h) ∙ other (get_or l i 0) (drop (i + 1) l) (is_plain _ (eqb (get_or l i 0) 42) (sym g ∙ n)) (sym k ∙ z));
        held = λ z. let q : i + 1 - 1 ≡ i = omega arith in (omega (arith, v.from), rw q (eqb-true (get_or l i 0) 42 (sym k ∙ z)), rw q here);
      }

pub comes_out : (l : List ℕ) (at i : ℕ) (star : Bool) → Behind l at i star → length l ≤ i → EndsAt in_comment l at (length l)
comes_out l at i false v h = last in_comment l at i (v.free refl) h refl
comes_out l at i true v h =
    let w = v.held refl in
    let q : i - 1 + 1 ≡ i = omega (arith, w.0) in
    let d : drop (i - 1) l ≡ 42 ∷ [] = unroll l (i - 1) (omega (arith, w.0, v.within)) ∙ rw (w.1, q, drop_of_length-le l h) in
    last in_comment l at i (subst (Passing in_comment l at) q (turn in_comment l at (i - 1) w.2 (omega (arith, w.0, v.within)) (ap in_comment d))) h refl
