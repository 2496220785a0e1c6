-- A loop that passes a run, of any test of what is left: each turn is one constructor of the rule `Run`.
use Prim.Native.Nat.{ℕ, suc, ◌+◌, ◌-◌, ◌≤◌, ◌<◌}
use mathlib.Core.Bool.{Bool, true, false}
use mathlib.Core.Path.{◌≡◌, refl, sym, ap, subst, ◌∙◌}
use mathlib.Core.List.{List, [], ◌∷◌, ◌++◌}
use native.Mathlib.Nat.{add-zero}
use native.Mathlib.Numerals.{add-one}
use native.Mathlib.Omega.{arith}
use lib.Dec.{eqb}
use lib.ListN.{length, get_or, take, drop, take-append-drop, drop_of_length-le}
use lib.Seq.{drop-cons, drop-drop, get_or-drop}
use Rattle.rules.specs.Bytes.{front, Run, stops, goes_on}
use Rattle.classes.specs.Places.{part, EndsAt}

abbrev Ends : (List ℕ → Bool) → List ℕ → ℕ → ℕ → Type 0
Ends p l at e = Run p (part l at e) (drop e l)

-- the invariant: whatever run is found from here is the rest of the run from the start
pub record Passing (p : List ℕ → Bool) (l : List ℕ) (at i : ℕ) : Type 0 where
  pub from : at ≤ i
  pub within : i ≤ length l
  pub on : (e : ℕ) → i ≤ e → Ends p l i e → Ends p l at e

pub start : (p : List ℕ → Bool) (l : List ℕ) (at : ℕ) → at ≤ length l → Passing p l at at
start p l at h = record { from = omega arith; within = h; on = λ e k w. w }

pub unroll : (l : List ℕ) (i : ℕ) → i < length l → drop i l ≡ get_or l i 0 ∷ drop (i + 1) l
unroll l i h = rw (add-one, drop-cons l i 0)

-- what is passed and what is left, from a place on
pub joined : (l : List ℕ) (i e : ℕ) → i ≤ e → part l i e ++ drop e l ≡ drop i l
joined l i e h =
    let q : i + (e - i) ≡ e = omega arith in
    ap (λ (n : ℕ). take (e - i) (drop i l) ++ drop n l) (sym q) ∙ rw (← drop-drop (e - i) i l) (take-append-drop (e - i) (drop i l))

pub turn : (p : List ℕ → Bool) (l : List ℕ) (at i : ℕ) → Passing p l at i → i < length l → p (drop i l) ≡ true → Passing p l at (i + 1)
turn p l at i v h y = record {
  from = omega (arith, v.from);
  within = omega arith;
  on = λ e k w. v.on e (omega arith) (more e k w);
}
  where
    more : (e : ℕ) → i + 1 ≤ e → Ends p l (i + 1) e → Ends p l i e
    more e k w =
        let q : e - i ≡ suc (e - (i + 1)) = omega arith in
        let z : p (get_or l i 0 ∷ (take (e - (i + 1)) (drop (i + 1) l) ++ drop e l)) ≡ true =
        ap (λ (t : List ℕ). p (get_or l i 0 ∷ t)) (joined l (i + 1) e k) ∙ ap p (sym (unroll l i h)) ∙ y in
        rw (q, unroll l i h) (goes_on z w)

pub stop : (p : List ℕ → Bool) (l : List ℕ) (at i : ℕ) → Passing p l at i → p (drop i l) ≡ false → EndsAt p l at i
stop p l at i v y = record {
  is = v.on i (omega arith) (let q : i - i ≡ 0 = omega arith in rw q (stops y));
  from = v.from;
  within = v.within;
}

pub last : (p : List ℕ → Bool) (l : List ℕ) (at i : ℕ) → Passing p l at i → length l ≤ i → p [] ≡ false → EndsAt p l at (length l)
last p l at i v h y =
    let e : i ≡ length l = omega (arith, v.within) in
    subst (EndsAt p l at) e (stop p l at i v (ap p (drop_of_length-le l h) ∙ y))

-- ---- what the code tests of what is left: one byte, and one that may not be there

pub front_at : (c : ℕ → Bool) (l : List ℕ) (i : ℕ) → i < length l → front c (drop i l) ≡ c (get_or l i 0)
front_at c l i h = ap (front c) (unroll l i h)

-- a byte other than 0 at a place that may lie past the end
pub front_byte : (l : List ℕ) (i k : ℕ) → eqb 0 k ≡ false → front (λ b. eqb b k) (drop i l) ≡ eqb (get_or l i 0) k
front_byte l i k z = go (drop i l) ∙ ap (λ (b : ℕ). eqb b k) (rw (get_or-drop, add-zero))
  where
    go : (s : List ℕ) → front (λ b. eqb b k) s ≡ eqb (get_or s 0 0) k
    go [] = sym z
    go (b ∷ s) = refl
