-- Proper tables: what the span of a row may hold, which tables are proper over given label bytes, and where a table stops being so.
use Rattle.std.specs.Prelude.{ℕ, ◌-◌, ◌≤◌, ◌≡◌, true, List, [], ◌∷◌, ◌++◌, map, length, take, drop}
use Prim.Native.Char.{code as byte}
use Rattle.rules.specs.Bytes.{Run}
use Rattle.rules.specs.Data.{Span, Name, name, Placed, RowOf, Row, attribute, pointer, opened, closed, an_integer, a_real, a_moment}
use Rattle.rules.specs.Data.{a_text, a_symbol, a_unit, sequence, sequence_end, set, set_end, last}
use Rattle.rules.specs.Modes.{Mode, base}
use Rattle.rules.specs.Words.{Form}
use Rattle.rules.specs.Elements.{in_text, in_symbol, symbol_kept, Cut}
use Rattle.rules.specs.Grammar.{strict, Label}
use Rattle.rules.specs.Table.{encode, table}

-- the rules that tables are judged by and that written labels follow, whatever mode a label was read in
abbrev pub the_rules : Mode
the_rules = base

-- ---- rows that a label gives, spans aside

-- a row, its span aside, and row 99's offset. Document 02 §6: A mark of 0 or 1 with a nonzero offset, above 2, or other than 0 where
-- there is no time, makes a table improper. Refusals: 12 for such a row. So the mark is not put aside: no label gives such a row, and it is
-- improper at its place (proofs/Tables/ProperMarks).
abbrev pub aside : {S L M : Type 0} → RowOf S L M → RowOf (Unit {0}) (Unit {0}) M
aside (attribute p) = attribute tt
aside (pointer p) = pointer tt
aside (opened k p) = opened k tt
aside (closed k) = closed k
aside (an_integer w) = an_integer w
aside (a_real x) = a_real x
aside (a_moment t) = a_moment t
aside (a_text p) = a_text tt
aside (a_symbol p) = a_symbol tt
aside (a_unit op p w) = a_unit op tt w
aside sequence = sequence
aside sequence_end = sequence_end
aside set = set
aside set_end = set_end
aside (last n) = last tt

-- the element list of some label that follows the rules gives these rows, spans aside
pub record Tabled (rows : List Row) : Type 0 where
  pub label : List ℕ
  pub elements : List Placed
  pub past : ℕ
  pub rest : List ℕ
  pub given_rows : List Row
  pub cut : Cut the_rules 0 label elements past rest
  pub follows : Label the_rules strict elements given_rows
  pub alike : map aside given_rows ≡ map aside rows

-- ---- what a span may hold

-- the bytes of a span
abbrev pub stretch : List ℕ → Span → List ℕ
stretch given p = take (p.upto - p.from) (drop p.from given)

-- names and units: a word that is a name, thus an unreserved identifier of at most 60 bytes
abbrev pub NameWord : List ℕ → Type 0
NameWord w = (n : Name) × Form the_rules true w (name n)

-- texts: bytes below 128 other than `"`, also none
abbrev pub TextBody : List ℕ → Type 0
TextBody w = Run in_text w (byte "\"" ∷ [])

-- symbols: 1 to 255 bytes from 32 to 126 other than `'`, reserved words too
abbrev pub SymbolBody : List ℕ → Type 0
SymbolBody w = Run in_symbol w (byte "'" ∷ []) × (symbol_kept w ≡ true)

-- the span lies inside the given bytes and holds what its kind allows
pub record Held (Allowed : List ℕ → Type 0) (given : List ℕ) (p : Span) : Type 0 where
  pub ordered : p.from ≤ p.upto
  pub inside : p.upto ≤ length given
  pub content : Allowed (stretch given p)

-- every span lies inside the given bytes and holds what its kind allows; row 99 may hold any offset from 0 to their length
abbrev pub Holds : List ℕ → Row → Type 0
Holds given (attribute p) = Held NameWord given p
Holds given (pointer p) = Held NameWord given p
Holds given (opened k p) = Held NameWord given p
Holds given (closed k) = Unit {0}
Holds given (an_integer w) = Unit {0}
Holds given (a_real x) = Unit {0}
Holds given (a_moment t) = Unit {0}
Holds given (a_text p) = Held TextBody given p
Holds given (a_symbol p) = Held SymbolBody given p
Holds given (a_unit op p w) = Held NameWord given p
Holds given sequence = Unit {0}
Holds given sequence_end = Unit {0}
Holds given set = Unit {0}
Holds given set_end = Unit {0}
Holds given (last n) = n ≤ length given

-- something holds of every member
pub data Each {A : Type 0} (P : A → Type 0) : List A → Type 0 where
  none : Each P []
  one : {a : A} {s : List A} → P a → Each P s → Each P (a ∷ s)

-- ---- proper tables

-- A table is proper over given label bytes if its rows are such, and every span is.
pub record Proper (given : List ℕ) (rows : List Row) : Type 0 where
  pub tabled : Tabled rows
  pub spans : Each (Holds given) rows

-- some proper table begins with these rows
abbrev pub Begins : List ℕ → List Row → Type 0
Begins given rows = (rest : List Row) × Proper given (rows ++ rest)

-- The place of code 12: the first row that no proper table has there, a row cut short included, or the table's length if whole rows are
-- lacking. Before it stand whole rows that begin a proper table.
pub record Improper (given lent : List ℕ) (at : ℕ) : Type 0 where
  pub rows : List Row
  pub rest : List ℕ
  pub split : lent ≡ table rows ++ rest
  pub place : at ≡ length (table rows)
  pub until : Begins given rows
  pub none_there : (r : Row) (after : List ℕ) → rest ≡ encode r ++ after → Begins given (rows ++ (r ∷ [])) → ⊥
  pub unfinished : rest ≡ [] → Proper given rows → ⊥

-- ---- every table has one verdict

-- what can be said of a table's bytes
pub data Verdict : Type 0 where
  -- the table is proper, and these are its rows
  proper_rows : List Row → Verdict
  -- 12, and its place
  improper_at : ℕ → Verdict

-- what the rules say of a table's bytes
pub data Ruled (given lent : List ℕ) : Verdict → Type 0 where
  is_proper : {rows : List Row} → lent ≡ table rows → Proper given rows → Ruled given lent (proper_rows rows)
  is_improper : {at : ℕ} → Improper given lent at → Ruled given lent (improper_at at)
