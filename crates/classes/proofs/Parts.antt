-- The bytes from a place to another: how many they are, and how they are cut.
use Prim.Native.Nat.{ℕ, zero, suc, ◌+◌, ◌-◌, ◌≤◌, ◌<◌}
use mathlib.Core.Path.{◌≡◌, ap, ◌∙◌}
use mathlib.Core.List.{List, [], ◌∷◌, ◌++◌}
use native.Mathlib.Omega.{arith}
use lib.ListN.{length, get_or, drop, length-take, length-drop}
use Rattle.classes.specs.Places.{part, HasByte}
use Rattle.classes.proofs.Runs.{unroll}

pub part_length : (l : List ℕ) (a e : ℕ) → e ≤ length l → length (part l a e) ≡ e - a
part_length l a e h = simp (length-take, length-drop) (omega arith)

pub part_nil : (l : List ℕ) (a : ℕ) → part l a a ≡ []
part_nil l a = let q : a - a ≡ 0 = omega arith in rw q

pub part_cons : (l : List ℕ) (a e : ℕ) → a < e → e ≤ length l → part l a e ≡ get_or l a 0 ∷ part l (a + 1) e
part_cons l a e h k =
    let q : e - a ≡ suc (e - (a + 1)) = omega arith in
    rw (q, unroll l a (omega arith))

pub part_one : (l : List ℕ) (i : ℕ) → i < length l → part l i (i + 1) ≡ get_or l i 0 ∷ []
part_one l i h = part_cons l i (i + 1) (omega arith) (omega arith) ∙ ap (λ (t : List ℕ). get_or l i 0 ∷ t) (part_nil l (i + 1))

split_at : (n : ℕ) (l : List ℕ) (a b e : ℕ) → b ≡ a + n → b ≤ e → e ≤ length l → part l a e ≡ part l a b ++ part l b e
split_at zero l a b e h k w = let q : b ≡ a = omega arith in rw (q, part_nil l a)
split_at (suc n) l a b e h k w =
    rw (part_cons l a e (omega arith) w, part_cons l a b (omega arith) (omega arith)) (ap (λ (t : List ℕ). get_or l a 0 ∷ t) (split_at n l (a + 1) b e (omega arith) k w))

pub part_split : (l : List ℕ) (a b e : ℕ) → a ≤ b → b ≤ e → e ≤ length l → part l a e ≡ part l a b ++ part l b e
part_split l a b e h k w = split_at (b - a) l a b e (omega arith) k w

pub begins_with : (l : List ℕ) (at k : ℕ) → HasByte l at k → drop at l ≡ k ∷ drop (at + 1) l
begins_with l at k b = rw (unroll l at b.within, b.is)
