-- Where the elements of the written label stand, and the rows that they give.
use Prim.Native.Nat.{ℕ, ◌+◌}
use mathlib.Core.Path.{◌≡◌, refl, ap}
use mathlib.Core.Bool.{Bool, true, false, cond}
use mathlib.Core.List.{List, [], ◌∷◌, ◌++◌}
use lib.ListN.{length}
use Rattle.rules.specs.Data.{Span, Elem, name, the, end, integer, based, real, moment, range, text, symbol, Placed, ◌on◌, Opens, Row, attribute, pointer, opened, closed, an_integer, a_real, a_moment, a_text, a_symbol, a_unit, sequence, sequence_end, set, set_end, last}
use Rattle.rules.specs.Written.{Prior, prior, after}
use Rattle.rules.proofs.Written.Marks.{Wording}
use Rattle.rules.proofs.Written.Pieces.{WrittenPiece, pieces_of}

-- the span of a piece that begins at `n`, and where the next piece begins
abbrev pub span_at : ℕ → WrittenPiece → Span
span_at n p = record { from = n + length p.gap + length p.mark; upto = n + length p.gap + length p.mark + length p.word }

abbrev pub next : ℕ → WrittenPiece → ℕ
next n p = n + length p.gap + length p.mark + length p.word + length p.mark

abbrev pub place : ℕ → List WrittenPiece → List Placed
place n [] = []
place n (p ∷ ps) = p.elem on span_at n p ∷ place (next n p) ps

abbrev pub skip : ℕ → List WrittenPiece → ℕ
skip n [] = n
skip n (p ∷ ps) = skip (next n p) ps

pub place_append : (n : ℕ) (ps qs : List WrittenPiece) → place n (ps ++ qs) ≡ place n ps ++ place (skip n ps) qs
place_append n [] qs = refl
place_append n (p ∷ ps) qs = ap (λ (l : List Placed). p.elem on span_at n p ∷ l) (place_append (next n p) ps qs)

-- elements whose span a row can have
abbrev pub has_span : Elem → Bool
has_span (name n) = true
has_span (the k) = false
has_span (end b) = true
has_span (integer w) = false
has_span (based w) = false
has_span (real x) = false
has_span (moment t) = false
has_span (range lo hi) = false
has_span text = true
has_span symbol = true

-- the first such span
abbrev pub span_in : ℕ → List WrittenPiece → Span
span_in n [] = record { from = 0; upto = 0 }
span_in n (p ∷ ps) = cond (has_span p.elem) (span_at n p) (span_in (next n p) ps)

abbrev pub spanned : Span → Wording → Row
spanned p (attribute w) = attribute p
spanned p (pointer w) = pointer p
spanned p (opened k w) = opened k p
spanned p (closed k) = closed k
spanned p (an_integer w) = an_integer w
spanned p (a_real x) = a_real x
spanned p (a_moment t) = a_moment t
spanned p (a_text w) = a_text p
spanned p (a_symbol w) = a_symbol p
spanned p (a_unit op n w) = a_unit op p w
spanned p sequence = sequence
spanned p sequence_end = sequence_end
spanned p set = set
spanned p set_end = set_end
spanned p (last n) = last p.upto

-- the rows of the written label
abbrev pub laid : ℕ → Prior → Opens → List Wording → List Row
laid n q o [] = []
laid n q o (r ∷ rs) = spanned (span_in n (pieces_of q o r)) r ∷ laid (skip n (pieces_of q o r)) (prior r) (after o r) rs
