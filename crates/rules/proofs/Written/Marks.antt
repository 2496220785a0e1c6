-- The marks of dates and times: a row with its marks changed or left out, the rows of a meaning with their marks kept, and the marks of what is written.
use Prim.Native.Nat.{ℕ}
use mathlib.Core.Path.{◌≡◌, refl, sym, ap, ap₂, ◌∙◌}
use mathlib.Core.List.{List, [], ◌∷◌, map}
use Rattle.rules.specs.Data.{Span, MomentOf, Moment, Opens, RowOf, Row, attribute, pointer, opened, closed, an_integer, a_real, a_moment, a_text, a_symbol, a_unit, sequence, sequence_end, set, set_end, last}
use Rattle.rules.specs.Proper.{stretch, aside}
use Rattle.rules.specs.Meaning.{Sense, fold_all, reassemble, unmarked, sense, meaning}
use Rattle.rules.specs.Written.{prior, after, written_mark}

-- ---- marks changed

-- a row whose date or time is another
abbrev pub on_moment : {S L M M' : Type 0} → (MomentOf M → MomentOf M') → RowOf S L M → RowOf S L M'
on_moment f (attribute p) = attribute p
on_moment f (pointer p) = pointer p
on_moment f (opened k p) = opened k p
on_moment f (closed k) = closed k
on_moment f (an_integer w) = an_integer w
on_moment f (a_real x) = a_real x
on_moment f (a_moment t) = a_moment (f t)
on_moment f (a_text p) = a_text p
on_moment f (a_symbol p) = a_symbol p
on_moment f (a_unit op p w) = a_unit op p w
on_moment f sequence = sequence
on_moment f sequence_end = sequence_end
on_moment f set = set
on_moment f set_end = set_end
on_moment f (last n) = last n

-- what holds of each row and itself, and of each date or time changed and as it was, holds of each row changed and as it was
pub other_rows : {S L M : Type 0} (f : MomentOf M → MomentOf M) (P : RowOf S L M → RowOf S L M → Type 0) → ((t : MomentOf M) → P (a_moment (f t)) (a_moment t)) → ((r : RowOf S L M) → P r r) →
    (r : RowOf S L M) → P (on_moment f r) r
other_rows f P hm h (attribute p) = h (attribute p)
other_rows f P hm h (pointer p) = h (pointer p)
other_rows f P hm h (opened k p) = h (opened k p)
other_rows f P hm h (closed k) = h (closed k)
other_rows f P hm h (an_integer w) = h (an_integer w)
other_rows f P hm h (a_real x) = h (a_real x)
other_rows f P hm h (a_moment t) = hm t
other_rows f P hm h (a_text p) = h (a_text p)
other_rows f P hm h (a_symbol p) = h (a_symbol p)
other_rows f P hm h (a_unit op p w) = h (a_unit op p w)
other_rows f P hm h sequence = h sequence
other_rows f P hm h sequence_end = h sequence_end
other_rows f P hm h set = h set
other_rows f P hm h set_end = h set_end
other_rows f P hm h (last n) = h (last n)

-- without its mark
abbrev pub unmark : {S L M : Type 0} → RowOf S L M → RowOf S L (Unit {0})
unmark r = on_moment unmarked r

-- with the mark of what is written of it
abbrev pub as_written : Moment → Moment
as_written t = record {
  parts = t.parts;
  year = t.year;
  month = t.month;
  day = t.day;
  hour = t.hour;
  minute = t.minute;
  second = t.second;
  nanoseconds = t.nanoseconds;
  offset = t.offset;
  mark = written_mark t;
}

-- spans do not matter to it
pub aside_on : {S L M : Type 0} (f : MomentOf M → MomentOf M) (r : RowOf S L M) → aside (on_moment f r) ≡ on_moment f (aside r)
aside_on f (attribute p) = refl
aside_on f (pointer p) = refl
aside_on f (opened k p) = refl
aside_on f (closed k) = refl
aside_on f (an_integer w) = refl
aside_on f (a_real x) = refl
aside_on f (a_moment t) = refl
aside_on f (a_text p) = refl
aside_on f (a_symbol p) = refl
aside_on f (a_unit op p w) = refl
aside_on f sequence = refl
aside_on f sequence_end = refl
aside_on f set = refl
aside_on f set_end = refl
aside_on f (last n) = refl

-- ---- the rows of a meaning, with their marks

-- each span replaced by its bytes, as `sense` does it, but with the mark
abbrev pub wording : {M : Type 0} → List ℕ → RowOf Span ℕ M → RowOf (List ℕ) (Unit {0}) M
wording given (attribute p) = attribute (fold_all (stretch given p))
wording given (pointer p) = pointer (fold_all (stretch given p))
wording given (opened k p) = opened k (fold_all (stretch given p))
wording given (closed k) = closed k
wording given (an_integer w) = an_integer w
wording given (a_real x) = a_real x
wording given (a_moment t) = a_moment t
wording given (a_text p) = a_text (reassemble (stretch given p))
wording given (a_symbol p) = a_symbol (fold_all (stretch given p))
wording given (a_unit op p w) = a_unit op (fold_all (stretch given p)) w
wording given sequence = sequence
wording given sequence_end = sequence_end
wording given set = set
wording given set_end = set_end
wording given (last n) = last tt

abbrev pub Wording : Type 0
Wording = RowOf (List ℕ) (Unit {0}) ℕ

abbrev pub wordings : List ℕ → List Row → List Wording
wordings given rows = map (wording given) rows

pub aside_wording : (given : List ℕ) (r : Row) → aside (wording given r) ≡ aside r
aside_wording given (attribute p) = refl
aside_wording given (pointer p) = refl
aside_wording given (opened k p) = refl
aside_wording given (closed k) = refl
aside_wording given (an_integer w) = refl
aside_wording given (a_real x) = refl
aside_wording given (a_moment t) = refl
aside_wording given (a_text p) = refl
aside_wording given (a_symbol p) = refl
aside_wording given (a_unit op p w) = refl
aside_wording given sequence = refl
aside_wording given sequence_end = refl
aside_wording given set = refl
aside_wording given set_end = refl
aside_wording given (last n) = refl

-- a row's sense is its wording, but for the mark, left out behind or before
pub sense_unmark : (given : List ℕ) (r : Row) → sense given r ≡ unmark (wording given r)
sense_unmark given (attribute p) = refl
sense_unmark given (pointer p) = refl
sense_unmark given (opened k p) = refl
sense_unmark given (closed k) = refl
sense_unmark given (an_integer w) = refl
sense_unmark given (a_real x) = refl
sense_unmark given (a_moment t) = refl
sense_unmark given (a_text p) = refl
sense_unmark given (a_symbol p) = refl
sense_unmark given (a_unit op p w) = refl
sense_unmark given sequence = refl
sense_unmark given sequence_end = refl
sense_unmark given set = refl
sense_unmark given set_end = refl
sense_unmark given (last n) = refl

sense_unmarked : (given : List ℕ) (r : Row) → sense given r ≡ wording given (unmark r)
sense_unmarked given (attribute p) = refl
sense_unmarked given (pointer p) = refl
sense_unmarked given (opened k p) = refl
sense_unmarked given (closed k) = refl
sense_unmarked given (an_integer w) = refl
sense_unmarked given (a_real x) = refl
sense_unmarked given (a_moment t) = refl
sense_unmarked given (a_text p) = refl
sense_unmarked given (a_symbol p) = refl
sense_unmarked given (a_unit op p w) = refl
sense_unmarked given sequence = refl
sense_unmarked given sequence_end = refl
sense_unmarked given set = refl
sense_unmarked given set_end = refl
sense_unmarked given (last n) = refl

pub meaning_unmark : (given : List ℕ) (rs : List Row) → meaning given rs ≡ map unmark (wordings given rs)
meaning_unmark given [] = refl
meaning_unmark given (r ∷ rs) = ap₂ (λ (x : Sense) (y : List Sense). x ∷ y) (sense_unmark given r) (meaning_unmark given rs)

meaning_unmarked : (given : List ℕ) (rs : List Row) → meaning given rs ≡ map (wording given) (map unmark rs)
meaning_unmarked given [] = refl
meaning_unmarked given (r ∷ rs) = ap₂ (λ (x : Sense) (y : List Sense). x ∷ y) (sense_unmarked given r) (meaning_unmarked given rs)

-- tables that differ in marks alone mean the same
pub marks_mean_nothing : (given : List ℕ) (rs qs : List Row) → map unmark rs ≡ map unmark qs → meaning given rs ≡ meaning given qs
marks_mean_nothing given rs qs e = meaning_unmarked given rs ∙ ap (map (wording given)) e ∙ sym (meaning_unmarked given qs)

-- what a row is to the next, and the blocks open after it, whatever its mark
pub prior_unmark : (r : Wording) → prior (unmark r) ≡ prior r
prior_unmark (attribute p) = refl
prior_unmark (pointer p) = refl
prior_unmark (opened k p) = refl
prior_unmark (closed k) = refl
prior_unmark (an_integer w) = refl
prior_unmark (a_real x) = refl
prior_unmark (a_moment t) = refl
prior_unmark (a_text p) = refl
prior_unmark (a_symbol p) = refl
prior_unmark (a_unit op p w) = refl
prior_unmark sequence = refl
prior_unmark sequence_end = refl
prior_unmark set = refl
prior_unmark set_end = refl
prior_unmark (last n) = refl

pub after_unmark : (o : Opens) (r : Wording) → after o (unmark r) ≡ after o r
after_unmark o (attribute p) = refl
after_unmark o (pointer p) = refl
after_unmark o (opened k p) = refl
after_unmark o (closed k) = refl
after_unmark o (an_integer w) = refl
after_unmark o (a_real x) = refl
after_unmark o (a_moment t) = refl
after_unmark o (a_text p) = refl
after_unmark o (a_symbol p) = refl
after_unmark o (a_unit op p w) = refl
after_unmark o sequence = refl
after_unmark o sequence_end = refl
after_unmark o set = refl
after_unmark o set_end = refl
after_unmark o (last n) = refl
