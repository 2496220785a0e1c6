-- Bytes with others behind them that begin with the same byte: the gaps and elements are the same, and so is what is cut off.
use Prim.Native.Nat.{ℕ, ◌+◌}
use native.Mathlib.Omega.{arith}
use mathlib.Core.Bool.{Bool, false}
use mathlib.Core.Path.{◌≡◌, refl, sym, ap, subst, ◌∙◌}
use mathlib.Core.List.{List, [], ◌∷◌, ◌++◌, append_assoc}
use lib.Dec.{eqb}
use lib.ListN.{length, length-append}
use Rattle.rules.specs.Bytes.{front, Run, stops, goes_on}
use Rattle.rules.specs.Data.{Elem, Placed}
use Rattle.rules.specs.Modes.{Mode}
use Rattle.rules.specs.Words.{Form}
use Rattle.rules.specs.Elements.{in_comment, sets_off, Comment, comment, Gap, no_gap, blank, remark, Spells, word, sign, one_star, two_stars, one_slash, quoted_text, quoted_symbol, Cut, none_more, next}

-- two lists that begin with the same byte
pub data Alike : List ℕ → List ℕ → Type 0 where
  alike : {b : ℕ} {x y : List ℕ} → Alike (b ∷ x) (b ∷ y)

pub behind : (a : List ℕ) {x y : List ℕ} → Alike x y → Alike (a ++ x) (a ++ y)
behind [] h = h
behind (b ∷ a) h = alike

pub run_alike : {c : ℕ → Bool} {a x y : List ℕ} → Run (front c) a x → Alike x y → Run (front c) a y
run_alike (stops h) alike = stops h
run_alike (goes_on h t) k = goes_on h (run_alike t k)

-- within a comment two bytes count
pub closing : {c : List ℕ} {x y : List ℕ} → Run in_comment c (42 ∷ 47 ∷ x) → Run in_comment c (42 ∷ 47 ∷ y)
closing {x = x} {y = y} t = go t refl
  where
    looks : (b : ℕ) (a : List ℕ) → in_comment (b ∷ (a ++ 42 ∷ 47 ∷ x)) ≡ in_comment (b ∷ (a ++ 42 ∷ 47 ∷ y))
    looks b [] = refl
    looks b (d ∷ a) = refl

    go : {a r : List ℕ} → Run in_comment a r → r ≡ 42 ∷ 47 ∷ x → Run in_comment a (42 ∷ 47 ∷ y)
    go (stops h) e = stops refl
    go (goes_on {b} {a} {r} h t) e = goes_on (sym (looks b a) ∙ ap (λ (s : List ℕ). in_comment (b ∷ (a ++ s))) (sym e) ∙ h) (go t e)

pub comment_alike : {c x y : List ℕ} → Comment c x → Alike x y → Comment c y
comment_alike (comment t u) h = comment (closing t) (run_alike u h)

pub gap_alike : {m : Mode} {g x y : List ℕ} → Gap m g x → Alike x y → Gap m g y
gap_alike no_gap h = no_gap
gap_alike (blank b t) h = blank b (gap_alike t h)
gap_alike (remark {g = g} c t) h = remark (comment_alike c (behind g h)) (gap_alike t h)

pub front_alike : (c : ℕ → Bool) {x y : List ℕ} → Alike x y → front c x ≡ false → front c y ≡ false
front_alike c alike h = h

pub off_alike : (m : Mode) {x y : List ℕ} → Alike x y → sets_off m x ≡ sets_off m y
off_alike m alike = refl

pub spells_alike : {m : Mode} {w x y : List ℕ} {e : Elem} {q : ℕ} → Spells m w e q x → Alike x y → Spells m w e q y
spells_alike {m} (word {b} {w} {e = e} t f) h = word (run_alike t h) (subst (λ (o : Bool). Form m o (b ∷ w) e) (off_alike m h) f)
spells_alike (sign k) h = sign k
spells_alike (one_star k) h = one_star (front_alike (λ b. eqb b 42) h k)
spells_alike two_stars h = two_stars
spells_alike (one_slash k) h = one_slash (front_alike (λ b. eqb b 42) h k)
spells_alike (quoted_text t) h = quoted_text (run_alike t alike)
spells_alike (quoted_symbol t k) h = quoted_symbol (run_alike t alike) k

-- a cut list is some bytes and those left, and any others alike may be left
pub record Cuts (m : Mode) (i : ℕ) (l : List ℕ) (es : List Placed) (j : ℕ) (r : List ℕ) : Type 0 where
  pub bytes : List ℕ
  pub is : l ≡ bytes ++ r
  pub size : j ≡ i + length bytes
  pub others : (r' : List ℕ) → Alike r r' → Cut m i (bytes ++ r') es j r'

pub cuts : {m : Mode} {i j : ℕ} {l r : List ℕ} {es : List Placed} → Cut m i l es j r → Cuts m i l es j r
cuts {i = i} none_more = record { bytes = []; is = refl; size = omega arith; others = λ r' h. none_more }
cuts {m} {i} {j = j} {r = r} {es = es} (next {l = l} {es = fs} g w x s c) =
    let k = cuts c in
    record {
      bytes = g ++ (w ++ k.bytes);
      is = simp append_assoc (ap (λ (t : List ℕ). g ++ (w ++ t)) k.is);
      size = omega (arith, k.size, length-append g (w ++ k.bytes), length-append w k.bytes);
      others = λ r' h.
          let a : Alike l (k.bytes ++ r') = subst (λ (t : List ℕ). Alike t (k.bytes ++ r')) (sym k.is) (behind k.bytes h) in
          simp append_assoc (next g w (gap_alike x (behind w a)) (spells_alike s a) (k.others r' h));
    }

pub seam : (u g w r : List ℕ) → u ++ (g ++ (w ++ r)) ≡ (u ++ (g ++ w)) ++ r
seam u g w r = simp append_assoc
