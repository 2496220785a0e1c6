-- What a byte begins tells the byte, and the byte tells what it begins.
use Prim.Native.Nat.{ℕ, ◌≤◌}
use Prim.Native.Char.{code}
use native.Mathlib.Omega.{arith}
use mathlib.Core.Bool.{Bool, true, false, cond, ◌&&◌, ◌||◌, true≢false}
use mathlib.Core.Option.{Option, none, some}
use mathlib.Core.Path.{◌≡◌, refl, ap, ◌∙◌}
use mathlib.Core.List.{List, [], ◌∷◌}
use borrow.Author.Tests.{eqb-true, lt-leb, ne_eqb}
use lib.Dec.{eqb}
use Rattle.rules.specs.Bytes.{ascii, spacing, line_end, word_byte, among}
use Rattle.rules.specs.Data.{Fixed, semicolon}
use Rattle.rules.specs.Modes.{Mode}
use Rattle.rules.specs.Elements.{is_blank, Entry, ◌⇒◌, signs, look, sign_of}
use Rattle.rules.proofs.Tables.Tests.{or_case, between_out}
use Rattle.rules.proofs.Machine.Elements.{Begin, a_word, a_blank, a_star, a_slash, a_quote, an_apostrophe, no_start, a_sign, begin, other, or_sign}
use Rattle.rules.proofs.Options.{none_some}

-- ---- what a byte begins tells the byte

abbrev pub BeginsWith : Mode → Begin → ℕ → Type 0
BeginsWith m a_word b = word_byte b ≡ true
BeginsWith m a_blank b = is_blank b ≡ true
BeginsWith m a_star b = b ≡ 42
BeginsWith m a_slash b = b ≡ 47
BeginsWith m a_quote b = b ≡ 34
BeginsWith m an_apostrophe b = b ≡ 39
BeginsWith m no_start b = (word_byte b ≡ false) × (is_blank b ≡ false) × (sign_of m b ≡ none) × (among (ascii "*/\"'") b ≡ false)
BeginsWith m (a_sign f) b = sign_of m b ≡ some f

pub starts : (m : Mode) (b : ℕ) → BeginsWith m (begin m b) b
starts m b = by_word (word_byte b) refl (is_blank b) refl (sign_of m b) refl
  where
    by_other : word_byte b ≡ false → is_blank b ≡ false → sign_of m b ≡ none → (x y z w : Bool) → eqb b 42 ≡ x → eqb b 47 ≡ y → eqb b 34 ≡ z → eqb b 39 ≡ w →
        BeginsWith m (cond x a_star (cond y a_slash (cond z a_quote (cond w an_apostrophe no_start)))) b
    by_other f g h true y z w i j k l = eqb-true b 42 i
    by_other f g h false true z w i j k l = eqb-true b 47 j
    by_other f g h false false true w i j k l = eqb-true b 34 k
    by_other f g h false false false true i j k l = eqb-true b 39 l
    by_other f g h false false false false i j k l = (f, g, h, rw (i, j, k, l))

    by_word : (t : Bool) → word_byte b ≡ t → (u : Bool) → is_blank b ≡ u → (s : Option Fixed) → sign_of m b ≡ s → BeginsWith m (cond t a_word (cond u a_blank (or_sign s (other b)))) b
    by_word true f u g s h = f
    by_word false f true g s h = g
    by_word false f false g none h = by_other f g h (eqb b 42) (eqb b 47) (eqb b 34) (eqb b 39) refl refl refl refl
    by_word false f false g (some x) h = h

-- ---- and the byte tells what it begins

small_no_word : (b : ℕ) → b ≤ 32 → word_byte b ≡ false
small_no_word b h =
    rw (
      lt-leb 65 b (omega arith),
      lt-leb 97 b (omega arith),
      lt-leb 48 b (omega arith),
      ne_eqb b 95 (λ e. omega arith),
      ne_eqb b 43 (λ e. omega arith),
      ne_eqb b 45 (λ e. omega arith),
      ne_eqb b 46 (λ e. omega arith),
      ne_eqb b 58 (λ e. omega arith),
      ne_eqb b 35 (λ e. omega arith),
    )

blank_no_word : (b : ℕ) → is_blank b ≡ true → word_byte b ≡ false
blank_no_word b h =
    or_case (spacing b) (line_end b) _ h
    (λ e. or_case (eqb b 32) (eqb b 9) _ e (λ k. ap word_byte (eqb-true b 32 k)) (λ k. ap word_byte (eqb-true b 9 k)))
    (λ e. small_no_word b (omega (arith, (between_out 10 13 b e).1)))

pub blank_begins : (m : Mode) (b : ℕ) → is_blank b ≡ true → begin m b ≡ a_blank
blank_begins m b h = rw (blank_no_word b h, h)

-- each byte of the list is no byte of a word and no blank
abbrev Apart : List Entry → Type 0
Apart [] = Unit {0}
Apart (a ⇒ x ∷ l) = (word_byte (code a) ≡ false) × (is_blank (code a) ≡ false) × Apart l

look_apart : (l : List Entry) (b : ℕ) {f : Fixed} → Apart l → look l b ≡ some f → (word_byte b ≡ false) × (is_blank b ≡ false)
look_apart [] b h e = absurd (none_some e)
look_apart (a ⇒ x ∷ l) b {f} h e = go (λ k. look_apart l b h.2 k) (eqb b (code a)) refl e
  where
    go : (look l b ≡ some f → (word_byte b ≡ false) × (is_blank b ≡ false)) → (t : Bool) → eqb b (code a) ≡ t → cond t (some x) (look l b) ≡ some f → (word_byte b ≡ false) × (is_blank b ≡ false)
    go ih true k e = (ap word_byte (eqb-true b (code a) k) ∙ h.0, ap is_blank (eqb-true b (code a) k) ∙ h.1)
    go ih false k e = ih e

signs_apart : Apart signs
signs_apart = (refl, refl, (refl, refl, (refl, refl, (refl, refl, (refl, refl, (refl, refl, (refl, refl, (refl, refl, (refl, refl, tt)))))))))

sign_apart : (m : Mode) (b : ℕ) {f : Fixed} → sign_of m b ≡ some f → (word_byte b ≡ false) × (is_blank b ≡ false)
sign_apart m b {f} e = go (eqb b 59) refl m.pvl e
  where
    go : (t : Bool) → eqb b 59 ≡ t → (p : Bool) → cond (t && p) (some semicolon) (look signs b) ≡ some f → (word_byte b ≡ false) × (is_blank b ≡ false)
    go true k p e = (ap word_byte (eqb-true b 59 k), ap is_blank (eqb-true b 59 k))
    go false k p e = look_apart signs b signs_apart e

pub sign_begins : (m : Mode) (b : ℕ) {f : Fixed} → sign_of m b ≡ some f → begin m b ≡ a_sign f
sign_begins m b h = let a = sign_apart m b h in rw (a.0, a.1, h)

pub nothing_begins : (m : Mode) (b : ℕ) → BeginsWith m no_start b → begin m b ≡ no_start
nothing_begins m b (f, g, h, k) = rw (f, g, h) (go (eqb b 42) (eqb b 47) (eqb b 34) (eqb b 39) k)
  where
    go : (x y z w : Bool) → (x || (y || (z || (w || false)))) ≡ false → cond x a_star (cond y a_slash (cond z a_quote (cond w an_apostrophe no_start))) ≡ no_start
    go true y z w h = absurd (true≢false h)
    go false true z w h = absurd (true≢false h)
    go false false true w h = absurd (true≢false h)
    go false false false true h = absurd (true≢false h)
    go false false false false h = refl
