-- Two bytes at a place, of which the second may lie past the end.
use Prim.Native.Nat.{ℕ, ◌+◌, ◌≤◌}
use mathlib.Core.Bool.{false, ◌&&◌, and-false}
use mathlib.Core.Path.{◌≡◌, refl, ◌∙◌}
use mathlib.Core.List.{List, [], ◌∷◌}
use native.Mathlib.Nat.{add-zero}
use native.Mathlib.Omega.{arith}
use borrow.Author.Tests.{ne_eqb}
use lib.Dec.{eqb}
use lib.ListN.{length, get_or, drop}
use lib.Seq.{get_or-drop}
use Rattle.rules.specs.Bytes.{pair}
use Rattle.classes.specs.Places.{part}
use Rattle.classes.proofs.Runs.{unroll}
use Rattle.classes.proofs.Parts.{part_cons}

pub pair_at : (l : List ℕ) (i x y : ℕ) → eqb 0 x ≡ false → eqb 0 y ≡ false → pair x y (drop i l) ≡ (eqb (get_or l i 0) x && eqb (get_or l (i + 1) 0) y)
pair_at l i x y z u = go (drop i l) ∙ rw (get_or-drop, get_or-drop, add-zero)
  where
    go : (s : List ℕ) → pair x y s ≡ (eqb (get_or s 0 0) x && eqb (get_or s 1 0) y)
    go [] = rw z
    go (a ∷ []) = rw u
    go (a ∷ b ∷ s) = refl

pub first_not : (l : List ℕ) (i x y : ℕ) → eqb 0 x ≡ false → eqb 0 y ≡ false → (get_or l i 0 ≡ x → ⊥) → pair x y (drop i l) ≡ false
first_not l i x y z u h = pair_at l i x y z u ∙ rw (ne_eqb (get_or l i 0) x h)

pub second_not : (l : List ℕ) (i x y : ℕ) → eqb 0 x ≡ false → eqb 0 y ≡ false → (get_or l (i + 1) 0 ≡ y → ⊥) → pair x y (drop i l) ≡ false
second_not l i x y z u h = pair_at l i x y z u ∙ rw (ne_eqb (get_or l (i + 1) 0) y h) (and-false (eqb (get_or l i 0) x))

pub two : (l : List ℕ) (i x y : ℕ) → get_or l i 0 ≡ x → get_or l (i + 1) 0 ≡ y → i + 2 ≤ length l → drop i l ≡ x ∷ y ∷ drop (i + 2) l
two l i x y e f h =
    let q : i + 1 + 1 ≡ i + 2 = omega arith in
    rw (unroll l i (omega arith), unroll l (i + 1) (omega arith), e, f, q)

pub two_part : (l : List ℕ) (i x y e : ℕ) → get_or l i 0 ≡ x → get_or l (i + 1) 0 ≡ y → i + 2 ≤ e → e ≤ length l → part l i e ≡ x ∷ y ∷ part l (i + 2) e
two_part l i x y e p r h k =
    let q : i + 1 + 1 ≡ i + 2 = omega arith in
    rw (part_cons l i e (omega arith) k, part_cons l (i + 1) e (omega arith) k, p, r, q)
