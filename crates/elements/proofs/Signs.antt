-- Signs at a place, and what a byte begins, in the rules' terms.
use Prim.Native.Nat.{ℕ, ◌+◌, ◌≤◌, ◌<◌}
use mathlib.Core.Bool.{Bool, false, and-false}
use mathlib.Core.Option.{some}
use Rattle.std.specs.Prelude.{Option, Some, None}
use mathlib.Core.Path.{◌≡◌, refl, sym, ap, subst, ◌∙◌}
use mathlib.Core.List.{List, [], ◌∷◌}
use native.Mathlib.Omega.{arith}
use borrow.Author.Tests.{ne_eqb}
use lib.Dec.{eqb}
use lib.ListN.{length, get_or, drop}
use Rattle.rules.specs.Bytes.{word_byte, pair}
use Rattle.rules.specs.Data.{the, power}
use Rattle.rules.specs.Modes.{base}
use Rattle.rules.specs.Elements.{is_blank, sign_of, Spells, sign, one_star, two_stars, one_slash, no_element}
use Rattle.classes.specs.Places.{part, ByteAt, HasByte}
use Rattle.elements.specs.Places.{Clear, MarkOf, m_sign, m_slash, m_nothing}
use Rattle.words.specs.declared.Fixed.{Fixed}
use Rattle.words.specs.declared.Fixed.TheVariants.{Star, Slash, Power}
use Rattle.elements.specs.declared.marks.Mark.{Mark}
use Rattle.elements.specs.declared.marks.Mark.TheVariants.{One, Stroke}
use Rattle.elements.specs.declared.Element.TheVariants.{The}
use Rattle.elements.specs.declared.Fault.TheVariants.{ForeignByte}
use Rattle.elements.specs.Next.{ElementAt, FaultAt}
use Rattle.classes.proofs.Runs.{unroll, front_at, front_byte}
use Rattle.classes.proofs.Parts.{part_nil, part_one, begins_with}
use Rattle.elements.proofs.Finding.{stand, fails}
use Rattle.elements.proofs.Pairs.{two_part}
use Rattle.words.specs.Says.{fixed_of}

pub two_star : (l : List ℕ) (at x : ℕ) → HasByte l at 42 → ByteAt l (at + 1) x → x ≡ 42 → ElementAt l at (The Power at (at + 2), at + 2)
two_star l at x b y q =
    let w : at + 2 ≤ length l = omega (arith, y.inside, b.within) in
    let k : at < at + 2 = omega arith in
    let n : part l (at + 2) (at + 2) ≡ [] = part_nil l (at + 2) in
    let p : part l at (at + 2) ≡ 42 ∷ 42 ∷ [] = two_part l at 42 42 (at + 2) b.is (sym y.is ∙ q) (omega arith) w ∙ ap (λ (t : List ℕ). 42 ∷ 42 ∷ t) n in
    stand l at (at + 2) 0 at (at + 2) (The Power at (at + 2)) (the power) refl (omega arith) (omega arith) refl k w (subst (λ (t : List ℕ). Spells base t (the power) 0 (drop (at + 2) l)) (sym p) two_stars)

single : (l : List ℕ) (at k : ℕ) (s : Fixed) → HasByte l at k → Spells base (k ∷ []) (the (fixed_of s)) 0 (drop (at + 1) l) → ElementAt l at (The s at (at + 1), at + 1)
single l at k s b h =
    let w : at + 1 ≤ length l = omega (arith, b.within) in
    let u : at < at + 1 = omega arith in
    stand l at (at + 1) 0 at (at + 1) (The s at (at + 1)) (the (fixed_of s)) refl (omega arith) (omega arith) refl u w (subst (λ (t : List ℕ). Spells base t (the (fixed_of s)) 0 (drop (at + 1) l)) (sym (rw (part_one l at b.within, b.is))) h)

pub lone_star : (l : List ℕ) (at x : ℕ) → HasByte l at 42 → ByteAt l (at + 1) x → (x ≡ 42 → ⊥) → ElementAt l at (The Star at (at + 1), at + 1)
lone_star l at x b y n = single l at 42 Star b (one_star (front_byte l (at + 1) 42 refl ∙ ne_eqb (get_or l (at + 1) 0) 42 (λ q. n (y.is ∙ q))))

-- ---- what a byte begins

pub mark_is : (b k : ℕ) (s : Fixed) → b ≡ k → sign_of base k ≡ some (fixed_of s) → MarkOf b (Some (One s))
mark_is b k s e h = m_sign (ap (sign_of base) e ∙ h)

-- none of the signs; `;` is one of PVL alone
pub no_mark : (b : ℕ) → (b ≡ 61 → ⊥) → (b ≡ 44 → ⊥) → (b ≡ 42 → ⊥) → (b ≡ 47 → ⊥) → (b ≡ 94 → ⊥) → (b ≡ 60 → ⊥) → (b ≡ 62 → ⊥) → (b ≡ 40 → ⊥) → (b ≡ 41 → ⊥) → (b ≡ 123 → ⊥) → (b ≡ 125 → ⊥) → (b ≡ 34 → ⊥) → (b ≡ 39 → ⊥) → MarkOf b None
no_mark b n61 n44 n42 n47 n94 n60 n62 n40 n41 n123 n125 n34 n39 =
    m_nothing (rw (and-false (eqb b 59), ne_eqb b 61 n61, ne_eqb b 44 n44, ne_eqb b 94 n94, ne_eqb b 60 n60, ne_eqb b 62 n62, ne_eqb b 40 n40, ne_eqb b 41 n41, ne_eqb b 123 n123, ne_eqb b 125 n125))
    (rw (ne_eqb b 42 n42, ne_eqb b 47 n47, ne_eqb b 34 n34, ne_eqb b 39 n39))

-- ---- what stands where the byte has a mark

no_blank_at : (l : List ℕ) (at : ℕ) → Clear l at → at < length l → is_blank (get_or l at 0) ≡ false
no_blank_at l at c h = sym (front_at is_blank l at h) ∙ c.no_blank

begins_at : (l : List ℕ) (at k : ℕ) → Clear l at → (at ≡ length l → ⊥) → get_or l at 0 ≡ k → HasByte l at k
begins_at l at k c n h = record { within = omega (arith, c.within); is = h }

module _ (l : List ℕ) (at : ℕ) (c : Clear l at) (n : at ≡ length l → ⊥) (m : Option Mark) (k : MarkOf (get_or l at 0) m) where
  module _ (x : Mark) (h : m ≡ Some x) where
    -- the mark that was matched
    told : (y : Mark) → x ≡ y → MarkOf (get_or l at 0) (Some y)
    told y q = subst (MarkOf (get_or l at 0)) (h ∙ ap Some q) k

    pub one_sign : (s : Fixed) → x ≡ One s → ElementAt l at (The s at (at + 1), at + 1)
    one_sign s q = go (told (One s) q)
      where
        go : MarkOf (get_or l at 0) (Some (One s)) → ElementAt l at (The s at (at + 1), at + 1)
        go (m_sign e) = single l at (get_or l at 0) s (begins_at l at (get_or l at 0) c n refl) (sign e)

    pub lone_slash : x ≡ Stroke → ElementAt l at (The Slash at (at + 1), at + 1)
    lone_slash q = go (told Stroke q)
      where
        go : MarkOf (get_or l at 0) (Some Stroke) → ElementAt l at (The Slash at (at + 1), at + 1)
        go (m_slash e) =
            let b = begins_at l at 47 c n e in
            single l at 47 Slash b (one_slash (ap (pair 47 42) (sym (begins_with l at 47 b)) ∙ c.no_comment))

  pub no_sign : (t : Bool) → t ≡ word_byte (get_or l at 0) → t ≡ false → m ≡ None → FaultAt l at (ForeignByte, at)
  no_sign t e f q = go (subst (MarkOf (get_or l at 0)) q k)
    where
      go : MarkOf (get_or l at 0) None → FaultAt l at (ForeignByte, at)
      go (m_nothing h o) =
          let w : at < length l = (begins_at l at (get_or l at 0) c n refl).within in
          fails l at ForeignByte w (rw (unroll l at w) (no_element (sym e ∙ f) (no_blank_at l at c w) h o))
