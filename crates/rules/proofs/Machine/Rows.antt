-- The order of a table's rows: a state, the sorts of rows that may come in it, and the step over one row.
use native.Mathlib.Decide.{dec_lt}
use mathlib.Core.Path.{◌≡◌}
use mathlib.Core.List.{List, [], ◌∷◌}
use lib.ListN.{length}
use Rattle.rules.specs.Data.{Kind, Kind-discrete, object, group, Op, first, times, divided, RowOf, attribute, pointer, opened, closed, an_integer, a_real, a_moment, a_text, a_symbol, a_unit, sequence, sequence_end, set, set_end, last}
use Rattle.rules.proofs.Machine.Statements.{Group, in_sequence, in_row, in_set, Place, alone, within, chosen}
use mathlib.Core.Bool.{Bool, true, false}

-- rows by what matters for their order
pub data Sort : Type 0 where
  s_attribute s_pointer s_number s_other s_unit_first s_unit_more s_sequence s_sequence_end s_set s_set_end s_last : Sort
  s_opened s_closed : Kind → Sort
  deriving Discrete as Sort-discrete

abbrev pub unit_sort : Op → Sort
unit_sort first = s_unit_first
unit_sort times = s_unit_more
unit_sort divided = s_unit_more

abbrev pub sort : {S L M : Type 0} → RowOf S L M → Sort
sort (attribute p) = s_attribute
sort (pointer p) = s_pointer
sort (opened k p) = s_opened k
sort (closed k) = s_closed k
sort (an_integer w) = s_number
sort (a_real x) = s_number
sort (a_moment t) = s_other
sort (a_text p) = s_other
sort (a_symbol p) = s_other
sort (a_unit op p w) = unit_sort op
sort sequence = s_sequence
sort sequence_end = s_sequence_end
sort set = s_set
sort set_end = s_set_end
sort (last n) = s_last

-- what is awaited: a statement; a value; the first member of a sequence; of a set; of a row; another row; nothing; units or what follows them; a member
pub data Await : Type 0 where
  t_statement t_value t_first t_set_first t_in_row t_row t_end : Await
  t_number : Place → Await
  t_units : Place → Await
  t_member : Group → Await

abbrev pub Kinds : Type 0
Kinds = List Kind

-- where a row leads: nowhere, or to what is awaited and the kinds of the open blocks
pub data To : Type 0 where
  to_none : To
  to : Await → Kinds → To

-- where a sort of rows leads
infix 85 ◌↝◌
pub data RowLine : Type 0 where
  ◌↝◌ : Sort → To → RowLine

abbrev pub look : List RowLine → Sort → To
look [] k = to_none
look (j ↝ n ∷ l) k = chosen (Sort-discrete Kind-discrete j k) n (look l k)

-- after a scalar
abbrev pub t_after : Place → Await
t_after alone = t_statement
t_after (within g) = t_member g

abbrev pub scalar_lines : Place → Kinds → List RowLine → List RowLine
scalar_lines c o l = s_number ↝ to (t_number c) o ∷ s_other ↝ to (t_after c) o ∷ l

abbrev pub opening_lines : Kinds → List RowLine
opening_lines o =
    s_attribute ↝ to t_value o ∷ s_pointer ↝ to t_value o
    ∷ s_opened object ↝ chosen (dec_lt (length o) 80) (to t_statement (object ∷ o)) to_none
    ∷ s_opened group ↝ chosen (dec_lt (length o) 80) (to t_statement (group ∷ o)) to_none ∷ []

abbrev pub statement_lines : Kinds → List RowLine
statement_lines [] = s_last ↝ to t_end [] ∷ opening_lines []
statement_lines (k ∷ o) = s_closed k ↝ to t_statement o ∷ opening_lines (k ∷ o)

abbrev pub end_lines : Group → Kinds → List RowLine
end_lines in_sequence o = s_sequence_end ↝ to t_statement o ∷ []
end_lines in_row o = s_sequence_end ↝ to t_row o ∷ []
end_lines in_set o = s_set_end ↝ to t_statement o ∷ []

abbrev pub after_lines : Place → Kinds → List RowLine
after_lines alone o = statement_lines o
after_lines (within g) o = scalar_lines (within g) o (end_lines g o)

-- what may come
abbrev pub lines : Await → Kinds → List RowLine
lines t_statement o = statement_lines o
lines t_value o = scalar_lines alone o (s_sequence ↝ to t_first o ∷ s_set ↝ to t_set_first o ∷ [])
lines t_first o = scalar_lines (within in_sequence) o (s_sequence ↝ to t_in_row o ∷ [])
lines t_set_first o = scalar_lines (within in_set) o (s_set_end ↝ to t_statement o ∷ [])
lines t_in_row o = scalar_lines (within in_row) o []
lines t_row o = s_sequence ↝ to t_in_row o ∷ s_sequence_end ↝ to t_statement o ∷ []
lines t_end o = []
lines (t_number c) o = s_unit_first ↝ to (t_units c) o ∷ after_lines c o
lines (t_units c) o = s_unit_more ↝ to (t_units c) o ∷ after_lines c o
lines (t_member g) o = after_lines (within g) o

abbrev pub sort_step : Await → Kinds → Sort → To
sort_step t o s = look (lines t o) s

pub data RowRun {S L M : Type 0} : Await → Kinds → List (RowOf S L M) → Await → Kinds → Type 0 where
  row_here : {t : Await} {o : Kinds} → RowRun t o [] t o
  row_by : {t t' t'' : Await} {o o' o'' : Kinds} {r : RowOf S L M} {rs : List (RowOf S L M)} → sort_step t o (sort r) ≡ to t' o' → RowRun t' o' rs t'' o'' → RowRun t o (r ∷ rs) t'' o''

abbrev pub RowAccepts : {S L M : Type 0} → Await → Kinds → List (RowOf S L M) → Type 0
RowAccepts t o rs = RowRun t o rs t_end []

-- the same as a function
abbrev pub carried : To → (Await → Kinds → To) → To
carried to_none f = to_none
carried (to t o) f = f t o

abbrev pub row_run : {S L M : Type 0} → Await → Kinds → List (RowOf S L M) → To
row_run t o [] = to t o
row_run t o (r ∷ rs) = carried (sort_step t o (sort r)) (λ t' o'. row_run t' o' rs)

-- nothing more is awaited
abbrev pub is_at_end : Await → Bool
is_at_end t_statement = false
is_at_end t_value = false
is_at_end t_first = false
is_at_end t_set_first = false
is_at_end t_in_row = false
is_at_end t_row = false
is_at_end t_end = true
is_at_end (t_number c) = false
is_at_end (t_units c) = false
is_at_end (t_member g) = false
