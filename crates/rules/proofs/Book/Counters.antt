-- The eight counters: one more of one of them and the rest equal, and their sum.
use Prim.Native.Nat.{ℕ, zero, suc, ◌+◌, ◌-◌, ◌≤◌, ◌<◌}
use mathlib.Core.Path.{◌≡◌}
use mathlib.Core.List.{List, [], ◌∷◌}
use native.Mathlib.Omega.{arith}
use native.Mathlib.Nat.{le_of_suc-le-suc, not-suc-le-zero}
use lib.ListN.{length, get_or, set, length-set}
use lib.Seq.{get_or-set_same, get_or-set_other}
use Rattle.rules.specs.Book.{sum, count, with_one_more}

-- a number of a counter
pub record Counter (n : ℕ) : Type 0 where
  pub from : 1 ≤ n
  pub upto : n ≤ 8

-- no counter is more than the sum
pub below : (c : List ℕ) (i : ℕ) → get_or c i 0 ≤ sum c
below [] i = omega arith
below (x ∷ xs) zero = omega arith
below (x ∷ xs) (suc i) = omega (arith, below xs i)

sum_set : (c : List ℕ) (i v : ℕ) → i < length c → sum (set c i v) + get_or c i 0 ≡ sum c + v
sum_set [] i v h = absurd (not-suc-le-zero h)
sum_set (x ∷ xs) zero v h = omega arith
sum_set (x ∷ xs) (suc i) v h = omega (arith, sum_set xs i v (le_of_suc-le-suc h))

pub more_length : (c : List ℕ) (n : ℕ) → length (with_one_more c n) ≡ length c
more_length c n = length-set c (n - 1) _

module _ (c : List ℕ) (n : ℕ) (l : length c ≡ 8) (k : Counter n) where
  inside : n - 1 < length c
  inside = omega (arith, k.from, k.upto)

  pub sum_more : sum (with_one_more c n) ≡ sum c + 1
  sum_more = omega (arith, sum_set c (n - 1) (count c n + 1) inside)

  -- one counter is one more,
  pub this_more : count (with_one_more c n) n ≡ count c n + 1
  this_more = get_or-set_same c (n - 1) (count c n + 1) 0 inside

  -- and the rest equal
  pub rest-equal : (m : ℕ) → Counter m → (m ≡ n → ⊥) → count (with_one_more c n) m ≡ count c m
  rest-equal m h d = get_or-set_other c (n - 1) (m - 1) (count c n + 1) 0 (λ e. d (omega (arith, h.from, k.from)))
