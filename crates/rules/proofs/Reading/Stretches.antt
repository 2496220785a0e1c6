-- Every element's span lies inside the label, and its bytes are what the element is.
use Prim.Native.Nat.{ℕ, ◌+◌, ◌-◌, ◌≤◌}
use native.Mathlib.Omega.{arith}
use mathlib.Core.Bool.{Bool, true, not, ◌&&◌}
use mathlib.Core.Path.{◌≡◌, refl, sym, ap, subst, ◌∙◌}
use mathlib.Core.List.{List, [], ◌∷◌, ◌++◌, append_assoc, append-nil}
use lib.Dec.{ltb, eqb}
use lib.ListN.{length, length-append, take, drop}
use lib.Seq.{take_at, drop_at}
use Rattle.rules.specs.Bytes.{between, All}
use Rattle.rules.specs.Data.{Span, Fixed, Elem, the, text, symbol, Placed, Row}
use Rattle.rules.specs.Modes.{Mode}
use Rattle.rules.specs.Words.{Form}
use Rattle.rules.specs.Elements.{Spells, word, sign, one_star, two_stars, one_slash, quoted_text, quoted_symbol, Cut, none_more, next}
use Rattle.rules.specs.Grammar.{strict, Label}
use Rattle.rules.specs.Proper.{stretch}
use Rattle.rules.proofs.Words.Runs.{run_all}
use Rattle.rules.proofs.Reading.FromElements.{Every, no_element, and_element, Rooted, label_from}

-- what stands in an element's span
pub data SpanHolds (m : Mode) : Elem → List ℕ → Type 0 where
  holds_word : {e : Elem} {w : List ℕ} {off : Bool} → Form m off w e → SpanHolds m e w
  holds_sign : {f : Fixed} {w : List ℕ} → SpanHolds m (the f) w
  holds_text : {w : List ℕ} → All (λ b. ltb b 128 && not (eqb b 34)) w → SpanHolds m text w
  holds_symbol : {w : List ℕ} → All (λ b. between 32 126 b && not (eqb b 39)) w → between 1 255 (length w) ≡ true → SpanHolds m symbol w

pub record InLabel (m : Mode) (l : List ℕ) (e : Elem) (p : Span) : Type 0 where
  pub order : p.from ≤ p.upto
  pub inside : p.upto ≤ length l
  pub content : SpanHolds m e (stretch l p)

-- an element's bytes without its quotes
pub record Bare (m : Mode) (w : List ℕ) (e : Elem) (q : ℕ) : Type 0 where
  pub before : List ℕ
  pub bytes : List ℕ
  pub behind : List ℕ
  pub is : w ≡ before ++ (bytes ++ behind)
  pub before_size : length before ≡ q
  pub behind_size : length behind ≡ q
  pub content : SpanHolds m e bytes

unquoted : {m : Mode} {w : List ℕ} {e : Elem} → SpanHolds m e w → Bare m w e 0
unquoted {w = w} h = record { before = []; bytes = w; behind = []; is = sym (append-nil w); before_size = refl; behind_size = refl; content = h }

pub bare : {m : Mode} {w r : List ℕ} {e : Elem} {q : ℕ} → Spells m w e q r → Bare m w e q
bare (word t f) = unquoted (holds_word f)
bare (sign h) = unquoted holds_sign
bare (one_star h) = unquoted holds_sign
bare two_stars = unquoted holds_sign
bare (one_slash h) = unquoted holds_sign
bare (quoted_text {t} h) = record { before = 34 ∷ []; bytes = t; behind = 34 ∷ []; is = refl; before_size = refl; behind_size = refl; content = holds_text (run_all h) }
bare (quoted_symbol {t} h k) =
    record { before = 39 ∷ []; bytes = t; behind = 39 ∷ []; is = refl; before_size = refl; behind_size = refl; content = holds_symbol (run_all h) k }

-- a part of a list, by its place
part : (a b c : List ℕ) (from upto : ℕ) → length a ≡ from → upto - from ≡ length b → take (upto - from) (drop from (a ++ (b ++ c))) ≡ b
part a b c from upto h k = rw (drop_at a (b ++ c) from h, k) (take_at b c (length b) refl)

module _ (m : Mode) where
  bare_size : (w : List ℕ) (e : Elem) (q : ℕ) (b : Bare m w e q) → length w ≡ length b.before + (length b.bytes + length b.behind)
  bare_size w e q b = ap length b.is ∙ length-append b.before (b.bytes ++ b.behind) ∙ ap (λ (n : ℕ). length b.before + n) (length-append b.bytes b.behind)

  -- an element's span holds its bytes without its quotes
  pub stretch_is : (a g w l : List ℕ) (e : Elem) (q i : ℕ) → i ≡ length a → (b : Bare m w e q) →
      stretch (a ++ (g ++ (w ++ l))) (record { from = i + length g + q; upto = i + length g + length w - q }) ≡ b.bytes
  stretch_is a g w l e q i h b =
      let z : a ++ (g ++ (w ++ l)) ≡ (a ++ (g ++ b.before)) ++ (b.bytes ++ (b.behind ++ l)) =
      ap (λ (t : List ℕ). a ++ (g ++ (t ++ l))) b.is ∙ simp append_assoc in
      let f : length (a ++ (g ++ b.before)) ≡ i + length g + q =
      length-append a (g ++ b.before) ∙ (let n = length-append g b.before in let o = b.before_size in omega arith) in
      let k : i + length g + length w - q - (i + length g + q) ≡ length b.bytes = omega (arith, b.before_size, b.behind_size, bare_size w e q b) in
      ap (λ (y : List ℕ). take (i + length g + length w - q - (i + length g + q)) (drop (i + length g + q) y)) z
      ∙ part (a ++ (g ++ b.before)) b.bytes (b.behind ++ l) (i + length g + q) (i + length g + length w - q) f k

  stands : (a g w l : List ℕ) (e : Elem) (q i : ℕ) → i ≡ length a → Bare m w e q →
      InLabel m (a ++ (g ++ (w ++ l))) e (record { from = i + length g + q; upto = i + length g + length w - q })
  stands a g w l e q i h b =
      record {
        order = omega (arith, b.before_size, b.behind_size, bare_size w e q b);
        inside = omega (arith, length-append a (g ++ (w ++ l)), length-append g (w ++ l), length-append w l);
        content = subst (SpanHolds m e) (sym (stretch_is a g w l e q i h b)) b.content;
      }

  cut_stands : (a : List ℕ) {i j : ℕ} {l r : List ℕ} {es : List Placed} → i ≡ length a → Cut m i l es j r → Every (InLabel m (a ++ l)) es
  cut_stands a h none_more = no_element
  cut_stands a {i} h (next {q = q} {l = l} {e = e} g w x s c) =
      and_element (stands a g w l e q i h (bare s))
      (simp append_assoc at (cut_stands (a ++ (g ++ w)) (omega (arith, length-append a (g ++ w), length-append g w)) c))

  -- from the start
  pub elements_stand : {i : ℕ} {l r : List ℕ} {es : List Placed} → Cut m 0 l es i r → Every (InLabel m l) es
  elements_stand c = cut_stands [] refl c

  -- each row's span lies inside the label, and holds what the row's kind allows
  pub rows_stand : {i : ℕ} {l r : List ℕ} {es : List Placed} {rows : List Row} → Cut m 0 l es i r → Label m strict es rows → Rooted (InLabel m l) rows
  rows_stand {l = l} c L = label_from (InLabel m l) m strict L (elements_stand c)
