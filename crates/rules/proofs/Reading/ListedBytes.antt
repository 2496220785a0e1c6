-- The list of a label's elements is of its own bytes: each stands at its place and is one element there, the last is END or none is, and END is told to
-- be set off by what stands behind it.
use Prim.Native.Nat.{ℕ, ◌+◌}
use native.Mathlib.Omega.{arith}
use mathlib.Core.Bool.{Bool, true, false}
use mathlib.Core.Path.{◌≡◌, sym, subst, subst₂}
use mathlib.Core.List.{List, [], ◌∷◌, ◌++◌, append_assoc}
use lib.ListN.{length, length-append}
use Rattle.rules.specs.Modes.{Mode}
use Rattle.rules.specs.Elements.{sets_off}
use Rattle.rules.specs.SameElements.{OneElement, is_end_word, Through, first_end_word, no_end_word, Listed, to_the_end, through_end, and_then}
use Rattle.rules.proofs.Reading.SameElements.{FromOffset, from_start, onward}

-- the elements of a label by the bytes before each
pub data OwnBytes (m : Mode) (l : List ℕ) : List (List ℕ) → List ℕ → Through → Type 0 where
  no_more : OwnBytes m l [] [] no_end_word
  the_end_word : (before r : List ℕ) {w : List ℕ} → l ≡ before ++ (w ++ r) → OneElement m w r → is_end_word w ≡ true → OwnBytes m l (w ∷ []) (length before ∷ []) (first_end_word (sets_off m r))
  another : (before r : List ℕ) {w : List ℕ} {ws : List (List ℕ)} {ps : List ℕ} {t : Through} → l ≡ before ++ (w ++ r) → OneElement m w r → is_end_word w ≡ false → OwnBytes m l ws ps t →
      OwnBytes m l (w ∷ ws) (length before ∷ ps) t

module _ (m : Mode) (l : List ℕ) where
  -- behind a gap
  past_gap : {i : ℕ} (g : List ℕ) {r : List ℕ} → FromOffset l i (g ++ r) → FromOffset l (i + length g) r
  past_gap g f = record { before = f.before ++ g; is = simp append_assoc f.is; size = omega (arith, f.size, length-append f.before g) }

  own : {i : ℕ} {r ps : List ℕ} {ws : List (List ℕ)} {t : Through} → FromOffset l i r → Listed m i r ws ps t → OwnBytes m l ws ps t
  own f (to_the_end g) = no_more
  own f (through_end {g = g} {w = w} {r = r} x s h e) =
      let b = past_gap g f in
      subst₂ (λ (n : ℕ) (off : Bool). OwnBytes m l (w ∷ []) (n ∷ []) (first_end_word off)) (sym b.size) e (the_end_word b.before r b.is s h)
  own f (and_then {g = g} {w = w} {l = r} {ws = ws} {ps = ps} {t = t} x s h a) =
      let b = past_gap g f in
      subst (λ (n : ℕ). OwnBytes m l (w ∷ ws) (n ∷ ps) t) (sym b.size) (another b.before r b.is s h (own (onward g w r f) a))

  -- the list of a label
  pub listed_own : {ps : List ℕ} {ws : List (List ℕ)} {t : Through} → Listed m 0 l ws ps t → OwnBytes m l ws ps t
  listed_own a = own (from_start l) a
