-- Rows that are alike but for their spans come in the same order and have the same values; a table, its wording and the rows written are alike.
use Prim.Native.Nat.{ℕ}
use mathlib.Core.Path.{◌≡◌, refl, sym, ap, ap₂, ◌∙◌, subst, transport}
use mathlib.Core.List.{List, [], ◌∷◌, map}
use Rattle.rules.specs.Proper.{Each, none, one, aside}
use Rattle.rules.specs.Written.{Prior, prior, after}
use Rattle.rules.specs.Data.{Span, Opens, RowOf, Row, attribute, pointer, opened, closed, an_integer, a_real, a_moment, a_text, a_symbol, a_unit, sequence, sequence_end, set, set_end, last}
use Rattle.rules.proofs.Written.Marks.{Wording, wordings, aside_wording}
use Rattle.rules.proofs.Written.Pieces.{pieces_of}
use Rattle.rules.proofs.Machine.Rows.{Sort, sort, Await, Kinds, RowRun}
use Rattle.rules.proofs.Tables.RowRuns.{sort_aside, sorted_run}
use Rattle.rules.proofs.Machine.Limits.{Valued}
use Rattle.rules.proofs.Written.Place.{skip, span_in, spanned, laid}

aside_spanned : (p : Span) (r : Wording) → aside (spanned p r) ≡ aside r
aside_spanned p (attribute w) = refl
aside_spanned p (pointer w) = refl
aside_spanned p (opened k w) = refl
aside_spanned p (closed k) = refl
aside_spanned p (an_integer w) = refl
aside_spanned p (a_real x) = refl
aside_spanned p (a_moment t) = refl
aside_spanned p (a_text w) = refl
aside_spanned p (a_symbol w) = refl
aside_spanned p (a_unit op n w) = refl
aside_spanned p sequence = refl
aside_spanned p sequence_end = refl
aside_spanned p set = refl
aside_spanned p set_end = refl
aside_spanned p (last n) = refl

valued_aside : {S L : Type 0} (r : RowOf S L ℕ) → Valued (aside r) ≡ Valued r
valued_aside (attribute p) = refl
valued_aside (pointer p) = refl
valued_aside (opened k p) = refl
valued_aside (closed k) = refl
valued_aside (an_integer w) = refl
valued_aside (a_real x) = refl
valued_aside (a_moment t) = refl
valued_aside (a_text p) = refl
valued_aside (a_symbol p) = refl
valued_aside (a_unit op p w) = refl
valued_aside sequence = refl
valued_aside sequence_end = refl
valued_aside set = refl
valued_aside set_end = refl
valued_aside (last n) = refl

pub aside_wordings : (given : List ℕ) (rs : List Row) → map aside (wordings given rs) ≡ map aside rs
aside_wordings given [] = refl
aside_wordings given (r ∷ rs) = ap₂ (λ x y. x ∷ y) (aside_wording given r) (aside_wordings given rs)

pub aside_laid : (n : ℕ) (q : Prior) (o : Opens) (rs : List Wording) → map aside (laid n q o rs) ≡ map aside rs
aside_laid n q o [] = refl
aside_laid n q o (r ∷ rs) = ap₂ (λ x y. x ∷ y) (aside_spanned (span_in n (pieces_of q o r)) r) (aside_laid (skip n (pieces_of q o r)) (prior r) (after o r) rs)

module _ {S L : Type 0} where
  values_aside : (rs : List (RowOf S L ℕ)) → Each Valued rs → Each Valued (map aside rs)
  values_aside [] none = none
  values_aside (r ∷ rs) (one h hs) = one (transport (sym (valued_aside r)) h) (values_aside rs hs)

  values_back : (rs : List (RowOf S L ℕ)) → Each Valued (map aside rs) → Each Valued rs
  values_back [] none = none
  values_back (r ∷ rs) (one h hs) = one (transport (valued_aside r) h) (values_back rs hs)

  sorts_aside : (rs : List (RowOf S L ℕ)) → map sort (map aside rs) ≡ map sort rs
  sorts_aside [] = refl
  sorts_aside (r ∷ rs) = ap₂ (λ (x : Sort) (y : List Sort). x ∷ y) (sort_aside r) (sorts_aside rs)

-- rows that are alike have the same values and the same runs
module _ {S L S' L' : Type 0} where
  pub alike_values : (rs : List (RowOf S L ℕ)) (rs' : List (RowOf S' L' ℕ)) → map aside rs ≡ map aside rs' → Each Valued rs → Each Valued rs'
  alike_values rs rs' e h = values_back rs' (subst (Each Valued) e (values_aside rs h))

  pub alike_run : {t t' : Await} {o o' : Kinds} (rs : List (RowOf S L ℕ)) (rs' : List (RowOf S' L' ℕ)) → map aside rs ≡ map aside rs' → RowRun t o rs t' o' → RowRun t o rs' t' o'
  alike_run rs rs' e a = sorted_run rs' (sym (sorts_aside rs) ∙ ap (map sort) e ∙ sorts_aside rs') a
