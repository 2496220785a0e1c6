-- Each test of what a span may hold is true exactly of the bytes that the rules allow.
use Prim.Native.Nat.{ℕ, ◌≤◌}
use mathlib.Core.Bool.{Bool, true, false, cond, ◌&&◌, false≢true}
use mathlib.Core.Logic.{◌↔◌}
use mathlib.Core.Option.{Option, none, some}
use mathlib.Core.Path.{◌≡◌, refl, sym, ap, ◌∙◌}
use mathlib.Core.List.{List, [], ◌∷◌, map}
use native.Mathlib.Omega.{arith}
use borrow.Author.Tests.{leb-true, eqb-true, ne_eqb}
use lib.Dec.{leb, eqb}
use lib.ListN.{length, length-map}
use Rattle.rules.specs.Bytes.{ascii, between, digit, lower, letter, alnum, word_byte, fold, front, All}
use Rattle.rules.specs.Bytes as Bytes
use Rattle.rules.specs.Data.{Name, OBJECT, END_OBJECT, GROUP, END_GROUP, BEGIN_OBJECT, BEGIN_GROUP, Elem, name, the, end, integer, based, real, moment, range, text, symbol}
use Rattle.rules.specs.Modes.{Mode}
use Rattle.rules.specs.Values.{Written, an_identifier, number, signed, within, absent, same, named, unreserved, fits, in_base, each, radix_kept, held, real_kept, day_of, time_kept, absent_day, at, then, value}
use Rattle.rules.specs.Words.{Range, from_to, name_byte, is_identifier, Based, in_radix, Decimal, pointed, bare, DateTime, upper_t, lower_t, Shape, identifier_word, integer_word, based_word, real_word, date_word, time_word, date_time_word, range_word, Form}
use Rattle.rules.specs.Written.{is_name}
use Rattle.rules.specs.Proper.{the_rules, NameWord, TextBody, SymbolBody}
use Rattle.rules.proofs.Words.Runs.{run_all, all_run}
use Rattle.rules.proofs.Tables.Tests.{and_true, and_left, and_right, or_first, or_case, not_as, between_in, between_out}
use Rattle.rules.proofs.Machine.Checks.{text_byte, symbol_byte, is_text, is_symbol}

-- ---- texts and symbols

pub all_passes : {c : ℕ → Bool} {s : List ℕ} → All c s → each c s ≡ true
all_passes Bytes.none = refl
all_passes (Bytes.one h hs) = and_true h (all_passes hs)

pub passes_all : (c : ℕ → Bool) (s : List ℕ) → each c s ≡ true → All c s
passes_all c [] h = Bytes.none
passes_all c (b ∷ s) h = Bytes.one (and_left (c b) (each c s) h) (passes_all c s (and_right (c b) (each c s) h))

pub text_body : (w : List ℕ) → TextBody w ↔ is_text w ≡ true
unfolding is_text
text_body w = (λ r. all_passes (run_all r), λ h. all_run (passes_all text_byte w h) refl)

pub symbol_body : (w : List ℕ) → SymbolBody w ↔ is_symbol w ≡ true
unfolding is_symbol
symbol_body w = (
  λ s. and_true (all_passes (run_all s.0)) s.1,
  λ h. (all_run (passes_all symbol_byte w (and_left (each symbol_byte w) (between 1 255 (length w)) h)) refl, and_right (each symbol_byte w) (between 1 255 (length w)) h),
)

-- ---- names

-- the element is a name
abbrev pub is_a_name_elem : Elem → Bool
is_a_name_elem (name n) = true
is_a_name_elem (the f) = false
is_a_name_elem (end b) = false
is_a_name_elem (integer w) = false
is_a_name_elem (based w) = false
is_a_name_elem (real x) = false
is_a_name_elem (moment t) = false
is_a_name_elem (range lo hi) = false
is_a_name_elem text = false
is_a_name_elem symbol = false

abbrev of_name : Option Elem → Bool
of_name none = false
of_name (some e) = is_a_name_elem e

-- the tests of `named`, in their order, and the limit
abbrev tests : List ℕ → Bool → Bool → Bool → Bool → Bool → Bool → Bool → Bool → Option Elem
tests u o a b c d e f l =
    cond a (some (end o)) (cond b (some (the OBJECT)) (cond c (some (the END_OBJECT)) (cond d (some (the GROUP)) (cond e (some (the END_GROUP)) (cond f (some (the BEGIN_OBJECT)) (within l (name u)))))))

record NameTests (u : List ℕ) (off a b c d e f l : Bool) : Type 0 where
  is : tests u off a b c d e f l ≡ some (name u)
  short : l ≡ true

name_tests : (u : List ℕ) (off a b c d e f l : Bool) → of_name (tests u true a b c d e f l) ≡ true → NameTests u off a b c d e f l
name_tests u off true b c d e f l h = absurd (false≢true h)
name_tests u off false true c d e f l h = absurd (false≢true h)
name_tests u off false false true d e f l h = absurd (false≢true h)
name_tests u off false false false true e f l h = absurd (false≢true h)
name_tests u off false false false false true f l h = absurd (false≢true h)
name_tests u off false false false false false true l h = absurd (false≢true h)
name_tests u off false false false false false false true h = record { is = refl; short = refl }
name_tests u off false false false false false false false h = absurd (false≢true h)

named_name : (off : Bool) (u : List ℕ) → of_name (named false true u) ≡ true → (named false off u ≡ some (name u)) × (leb (length u) 60 ≡ true)
named_name off u h =
    let p = name_tests u off (same u (ascii "END")) (same u (ascii "OBJECT")) (same u (ascii "END_OBJECT")) (same u (ascii "GROUP")) (same u (ascii "END_GROUP")) (same u (ascii "BEGIN_OBJECT")) (leb (length u) 60) h in
    (p.is, p.short)

-- a name of any mode is one; whether END is set off does not matter
wider : (u : List ℕ) (off a b c d e f g l : Bool) →
    of_name (cond a (some (end off)) (cond b (some (the OBJECT)) (cond c (some (the END_OBJECT)) (cond d (some (the GROUP)) (cond e (some (the END_GROUP)) (cond f (some (the BEGIN_OBJECT)) (cond g (some (the BEGIN_GROUP)) (within l (name u))))))))) ≡ true →
    of_name (tests u true a b c d e f l) ≡ true
wider u off true b c d e f g l h = absurd (false≢true h)
wider u off false true c d e f g l h = absurd (false≢true h)
wider u off false false true d e f g l h = absurd (false≢true h)
wider u off false false false true e f g l h = absurd (false≢true h)
wider u off false false false false true f g l h = absurd (false≢true h)
wider u off false false false false false true g l h = absurd (false≢true h)
wider u off false false false false false false true l h = absurd (false≢true h)
wider u off false false false false false false false l h = h

named_wider : (pvl off : Bool) (u : List ℕ) → of_name (named pvl off u) ≡ true → of_name (named false true u) ≡ true
named_wider pvl off u h =
    wider u off (same u (ascii "END")) (same u (ascii "OBJECT")) (same u (ascii "END_OBJECT")) (same u (ascii "GROUP")) (same u (ascii "END_GROUP")) (same u (ascii "BEGIN_OBJECT")) (pvl && same u (ascii "BEGIN_GROUP"))
    (leb (length u) 60) h

-- a name is an identifier that `named` takes for one
parts : (n : Name) (a b c d e f l : Bool) →
    (absent (cond a (some (end true)) (cond b (some (the OBJECT)) (cond c (some (the END_OBJECT)) (cond d (some (the GROUP)) (cond e (some (the END_GROUP)) (cond f (some (the BEGIN_OBJECT)) none)))))) && l) ≡ of_name (tests n true a b c d e f l)
parts n true b c d e f l = refl
parts n false true c d e f l = refl
parts n false false true d e f l = refl
parts n false false false true e f l = refl
parts n false false false false true f l = refl
parts n false false false false false true l = refl
parts n false false false false false false true = refl
parts n false false false false false false false = refl

name_parts : (w : List ℕ) → is_name w ≡ (is_identifier w && of_name (named false true (map fold w)))
unfolding is_name
name_parts w =
    let u : List ℕ = map fold w in
    ap (λ (n : ℕ). is_identifier w && (unreserved u && leb n 60)) (sym (length-map w fold))
    ∙ ap (λ (t : Bool). is_identifier w && t) (parts u (same u (ascii "END")) (same u (ascii "OBJECT")) (same u (ascii "END_OBJECT")) (same u (ascii "GROUP")) (same u (ascii "END_GROUP")) (same u (ascii "BEGIN_OBJECT")) (leb (length u) 60))

name_identifier : (w : List ℕ) → is_name w ≡ true → is_identifier w ≡ true
name_identifier w h = and_left (is_identifier w) _ (sym (name_parts w) ∙ h)

name_named : (w : List ℕ) → is_name w ≡ true → of_name (named false true (map fold w)) ≡ true
name_named w h = and_right (is_identifier w) _ (sym (name_parts w) ∙ h)

-- a name as it stands is the element of its folded word
pub name_word : (off : Bool) (w : List ℕ) → is_name w ≡ true → Form the_rules off w (name (map fold w))
name_word off w h =
    (an_identifier (map fold w), identifier_word (name_identifier w h), (named_name off (map fold w) (name_named w h)).0)

-- what is no name
never_within : (t : Bool) (x : Elem) → is_a_name_elem x ≡ false → of_name (within t x) ≡ true → ⊥
never_within true x e h = false≢true (sym e ∙ h)
never_within false x e h = false≢true h

never_then : {A : Type 0} (o : Option A) (f : A → Option Elem) → ((a : A) → of_name (f a) ≡ true → ⊥) → of_name (then o f) ≡ true → ⊥
never_then none f k h = false≢true h
never_then (some a) f k h = k a h

module _ (m : Mode) where
  based_never : (off : Bool) {w : List ℕ} {v : Written} → Based w v → of_name (value m off v) ≡ true → ⊥
  based_never off (in_radix {r = r} {ds = ds} {neg = neg} a b c d) h =
      let n = in_base (number r) 0 ds in never_within (radix_kept (number r) ds && fits (signed neg n)) (based (signed neg n)) refl h

  decimal_never : (off : Bool) {w : List ℕ} {v : Written} → Decimal w v → of_name (value m off v) ≡ true → ⊥
  decimal_never off (pointed {ds = ds} {fs = fs} {neg = neg} {z = z} sg a b l x) h = never_then (real_kept (held neg ds fs z)) _ (λ y. false≢true) h
  decimal_never off (bare {ds = ds} {neg = neg} {z = z} sg a x) h = never_then (real_kept (held neg ds [] z)) _ (λ y. false≢true) h

  both_never : (off : Bool) {w : List ℕ} {v : Written} → DateTime w v → of_name (value m off v) ≡ true → ⊥
  both_never off (upper_t {da = d} {ti = t} x y) h = never_then (day_of d) _ (λ z. never_within (time_kept t) (moment (at 3 z t)) refl) h
  both_never off (lower_t {da = d} {ti = t} x y) h = never_then (day_of d) _ (λ z. never_within (time_kept t) (moment (at 3 z t)) refl) h

  range_never : (off : Bool) {w : List ℕ} {v : Written} → Range w v → of_name (value m off v) ≡ true → ⊥
  range_never off (from_to {ds = ds} {neg = neg} {hi = hi} x y z) h = never_within (fits (signed neg (number ds)) && fits hi) (range (signed neg (number ds)) hi) refl h

  shape_name : (off : Bool) {w : List ℕ} {v : Written} → Shape m w v → of_name (value m off v) ≡ true → is_name w ≡ true
  shape_name off (identifier_word {w} i) h = name_parts w ∙ and_true i (named_wider m.pvl off (map fold w) h)
  shape_name off (integer_word {n = n} i) h = absurd (never_within (fits n) (integer n) refl h)
  shape_name off (based_word x) h = absurd (based_never off x h)
  shape_name off (real_word x) h = absurd (decimal_never off x h)
  shape_name off (date_word {d = d} x) h = absurd (never_then (day_of d) _ (λ y. false≢true) h)
  shape_name off (time_word {t = t} x) h = absurd (never_within (time_kept t) (moment (at 2 absent_day t)) refl h)
  shape_name off (date_time_word x) h = absurd (both_never off x h)
  shape_name off (range_word e r) h = absurd (range_never off r h)

  pub form_name : (off : Bool) (w : List ℕ) {n : Name} → Form m off w (name n) → is_name w ≡ true
  form_name off w f = shape_name off f.1 (ap of_name f.2)

pub name_test : (w : List ℕ) → NameWord w ↔ is_name w ≡ true
name_test w = (λ f. form_name the_rules true w f.1, λ h. (map fold w, name_word true w h))

-- ---- names are symbols too

letter_symbol : (b : ℕ) → alnum b ≡ true → symbol_byte b ≡ true
letter_symbol b h =
    let in_range : (lo hi : ℕ) → 40 ≤ lo → hi ≤ 126 → between lo hi b ≡ true → symbol_byte b ≡ true =
    λ lo hi k l e. let r = between_out lo hi b e in and_true (between_in 32 126 b (omega arith) (omega arith)) (not_as (eqb b 39) (ne_eqb b 39 (λ q. omega arith))) in
    or_case (letter b) (digit b) _ h (λ e. or_case (between 65 90 b) (lower b) _ e (in_range 65 90 (omega arith) (omega arith)) (in_range 97 122 (omega arith) (omega arith))) (in_range 48 57 (omega arith) (omega arith))

under_symbol : (b : ℕ) → eqb b 95 ≡ true → symbol_byte b ≡ true
under_symbol b h = ap symbol_byte (eqb-true b 95 h)

name_byte_symbol : (b : ℕ) → name_byte b ≡ true → symbol_byte b ≡ true
name_byte_symbol b h = or_case (alnum b) (eqb b 95) _ h (letter_symbol b) (under_symbol b)

each_also : (p q : ℕ → Bool) → ((b : ℕ) → p b ≡ true → q b ≡ true) → (s : List ℕ) → each p s ≡ true → each q s ≡ true
each_also p q f [] h = refl
each_also p q f (b ∷ s) h = and_true (f b (and_left (p b) (each p s) h)) (each_also p q f s (and_right (p b) (each p s) h))

identifier_bytes : (w : List ℕ) → is_identifier w ≡ true → each name_byte w ≡ true
identifier_bytes w h = and_left (each name_byte w) _ (and_right (front letter w) _ h)

front_some : (c : ℕ → Bool) (w : List ℕ) → front c w ≡ true → 1 ≤ length w
front_some c [] h = absurd (false≢true h)
front_some c (b ∷ s) h = omega arith

pub name_symbol : (w : List ℕ) → is_name w ≡ true → is_symbol w ≡ true
unfolding is_symbol
name_symbol w h =
    let i = name_identifier w h in
    let l = leb-true (length (map fold w)) 60 (named_name true (map fold w) (name_named w h)).1 in
    and_true (each_also name_byte symbol_byte name_byte_symbol w (identifier_bytes w i))
    (between_in 1 255 (length w) (front_some letter w (and_left (front letter w) _ i)) (omega (arith, length-map w fold)))

-- ---- the bytes of a name are word bytes, and the first is a letter

pub alnum_word : (b : ℕ) → alnum b ≡ true → word_byte b ≡ true
alnum_word b h = or_first (alnum b) _ h

name_byte_word : (b : ℕ) → name_byte b ≡ true → word_byte b ≡ true
name_byte_word b h = or_case (alnum b) (eqb b 95) _ h (alnum_word b) (λ e. ap word_byte (eqb-true b 95 e))

pub name_bytes : (w : List ℕ) → is_name w ≡ true → All word_byte w
name_bytes w h = passes_all word_byte w (each_also name_byte word_byte name_byte_word w (identifier_bytes w (name_identifier w h)))

letter_high : (b : ℕ) → letter b ≡ true → 65 ≤ b
letter_high b h = or_case (between 65 90 b) (between 97 122 b) (65 ≤ b) h (λ e. (between_out 65 90 b e).0) (λ e. omega (arith, (between_out 97 122 b e).0))

pub data Begun : List ℕ → Type 0 where
  begun : {b : ℕ} {s : List ℕ} → 65 ≤ b → Begun (b ∷ s)

lettered_begun : (w : List ℕ) → front letter w ≡ true → Begun w
lettered_begun [] h = absurd (false≢true h)
lettered_begun (b ∷ s) h = begun (letter_high b h)

pub name_begun : (w : List ℕ) → is_name w ≡ true → Begun w
name_begun w h = lettered_begun w (and_left (front letter w) _ (name_identifier w h))
