-- What is asked of a table: what a row shows, and the answer to each question.
use Prim.Native.Nat.{ℕ}
use mathlib.Core.Bool.{Bool, true, false, cond}
use mathlib.Core.List.{List, [], ◌∷◌}
use mathlib.Core.Option.{Option, none, some}
use lib.Dec.{leb}
use lib.ListN.{length}
use Rattle.rules.specs.Data.{Span, Row, attribute, pointer, opened, closed, an_integer, a_real, a_moment, a_text, a_symbol, a_unit, sequence, sequence_end, set, set_end, last}
use Rattle.rules.specs.Reading.{longest, Said, filled}
use Rattle.rules.specs.Proper.{stretch}
use Rattle.rules.specs.Meaning.{reassemble}
use Rattle.rules.specs.Asked.{says, nowhere, Finding, stands, absent}
use Rattle.rules.proofs.Machine.Verdicts.{judge_table, on_verdict}
use Rattle.rules.proofs.Machine.Lookup.{from_of, seeks}
use Rattle.rules.proofs.Machine.Returns.{Return, returns}

-- the span of a text
abbrev pub span_of_text : Row → Option Span
span_of_text (attribute p) = none
span_of_text (pointer p) = none
span_of_text (opened k p) = none
span_of_text (closed k) = none
span_of_text (an_integer w) = none
span_of_text (a_real x) = none
span_of_text (a_moment t) = none
span_of_text (a_text p) = some p
span_of_text (a_symbol p) = none
span_of_text (a_unit op p w) = none
span_of_text sequence = none
span_of_text sequence_end = none
span_of_text set = none
span_of_text set_end = none
span_of_text (last n) = none

-- the span of a name
abbrev pub span_of_name : Row → Option Span
span_of_name (attribute p) = some p
span_of_name (pointer p) = some p
span_of_name (opened k p) = some p
span_of_name (closed k) = none
span_of_name (an_integer w) = none
span_of_name (a_real x) = none
span_of_name (a_moment t) = none
span_of_name (a_text p) = none
span_of_name (a_symbol p) = some p
span_of_name (a_unit op p w) = some p
span_of_name sequence = none
span_of_name sequence_end = none
span_of_name set = none
span_of_name set_end = none
span_of_name (last n) = none

-- a row of kind 1 to 6 or 99
abbrev pub is_line : Row → Bool
is_line (attribute p) = true
is_line (pointer p) = true
is_line (opened k p) = true
is_line (closed k) = true
is_line (an_integer w) = false
is_line (a_real x) = false
is_line (a_moment t) = false
is_line (a_text p) = false
is_line (a_symbol p) = false
is_line (a_unit op p w) = false
is_line sequence = false
is_line sequence_end = false
is_line set = false
is_line set_end = false
is_line (last n) = true

-- by the row that stands there
abbrev pub from_row : {A : Type 0} → List Row → A → (Row → A) → A
from_row [] a f = a
from_row (r ∷ rs) a f = f r

abbrev pub from_span : {A : Type 0} → Option Span → A → (Span → A) → A
from_span none a f = a
from_span (some p) a f = f p

-- these bytes in the room, or no room for them
abbrev pub fitted : List ℕ → List ℕ → Return
fitted room w = cond (leb (length w) (length room)) (returns (says 0 0 (length w)) (filled w room)) (returns (says 11 0 (length w)) room)

-- the text of a row
abbrev pub text_row : List ℕ → List ℕ → Row → Return
text_row label room r = from_span (span_of_text r) (returns (says 15 0 0) room) (λ p. fitted room (reassemble (stretch label p)))

-- ---- the answers

-- the text at an offset; the name sought from an offset on; the span of the name at an offset
unfoldable pub texted_of : List ℕ → List ℕ → ℕ → List ℕ → Return
texted_of label lent row room =
    cond (leb (length label) longest)
    (on_verdict (judge_table label lent) (λ at. returns (says 12 at 0) room) (λ rows. from_row (from_of row rows) (returns (says 15 0 0) room) (text_row label room)))
    (returns (says 1 longest 0) room)

-- what the lookup finds, said; from the rows at the offset on
abbrev pub finding : Finding → Said
finding (stands k) = says 0 0 k
finding absent = says 14 0 0

abbrev pub line_said : List ℕ → List ℕ → ℕ → List Row → Said
line_said label name row qs = from_row qs (says 15 0 0) (λ r. cond (is_line r) (finding (seeks label name 0 row qs)) (says 15 0 0))

unfoldable pub sought_of : List ℕ → List ℕ → List ℕ → ℕ → Said
sought_of label lent name row =
    cond (leb (length label) longest) (on_verdict (judge_table label lent) (λ at. says 12 at 0) (λ rows. line_said label name row (from_of row rows))) (says 1 longest 0)

unfoldable pub viewed_of : List ℕ → List ℕ → ℕ → Span
viewed_of label lent row =
    cond (leb (length label) longest)
    (on_verdict (judge_table label lent) (λ at. nowhere) (λ rows. from_row (from_of row rows) nowhere (λ r. from_span (span_of_name r) nowhere (λ p. p)))) nowhere
