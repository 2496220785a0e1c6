-- What is asked of a table: the text of a row, the name of a row, and an attribute by its name.
use Rattle.std.specs.Prelude.{ℕ, ◌+◌, ◌≤◌, ◌<◌, ◌≡◌, List, [], ◌∷◌, ◌++◌, length}
use Rattle.rules.specs.Data.{Span, Kind, Row, attribute, pointer, opened, closed, an_integer, a_real, a_moment, a_text, a_symbol}
use Rattle.rules.specs.Data.{a_unit, sequence, sequence_end, set, set_end, last}
use Rattle.rules.specs.Table.{encode, table}
use Rattle.rules.specs.Reading.{longest, Said, filled}
pub use Rattle.rules.specs.Reading.{says}
use Rattle.rules.specs.Proper.{stretch, proper_rows, improper_at, Ruled}
use Rattle.rules.specs.Meaning.{reassemble, fold_all}

-- the rows from an offset of a table on; no offset inside a row
pub data From : ℕ → List Row → List Row → Type 0 where
  here : {rs : List Row} → From 0 rs rs
  later : {n : ℕ} {r : Row} {rs qs : List Row} → From n rs qs → From (length (encode r) + n) (r ∷ rs) qs

-- the row that starts at an offset
abbrev pub Starts : ℕ → List Row → Row → Type 0
Starts n rs r = (qs : List Row) × From n rs (r ∷ qs)

-- what every question answers of a label or a table that it does not take
pub data Refused (label lent : List ℕ) : Said → Type 0 where
  -- 1: label over 65,535 bytes; 65535. 12: table not proper
  long_label : longest < length label → Refused label lent (says 1 longest 0)
  no_table : {at : ℕ} → length label ≤ longest → Ruled label lent (improper_at at) → Refused label lent (says 12 at 0)

-- the rows of a proper table over at most 65,535 bytes
pub record Rows (label lent : List ℕ) (rows : List Row) : Type 0 where
  pub short : length label ≤ longest
  pub proper : Ruled label lent (proper_rows rows)

-- ---- the text reader

-- the reassembly of a text
abbrev pub text_of : List ℕ → Span → List ℕ
text_of label p = reassemble (stretch label p)

-- The text reader takes label, table and row offset: 1, 12, 15 (not kind 13), 11, else 0, with place 0 throughout except as 1 and 12 say,
-- and the text's length likewise.
pub data Texted (label lent : List ℕ) (row : ℕ) (room : List ℕ) : Said → List ℕ → Type 0 where
  -- 1, 12
  text_refused : {s : Said} → Refused label lent s → Texted label lent row room s room
  -- 15: not kind 13
  no_text : {rows : List Row} → Rows label lent rows → ((p : Span) → Starts row rows (a_text p) → ⊥) →
      Texted label lent row room (says 15 0 0) room
  -- 11: room too short; the length is the one needed
  short_room : {rows : List Row} {p : Span} → Rows label lent rows → Starts row rows (a_text p) → length room < length (text_of label p) →
      Texted label lent row room (says 11 0 (length (text_of label p))) room
  -- 0: the text at the room's start
  given : {rows : List Row} {p : Span} → Rows label lent rows → Starts row rows (a_text p) → length (text_of label p) ≤ length room →
      Texted label lent row room (says 0 0 (length (text_of label p))) (filled (text_of label p) room)

-- ---- the name view

-- for kinds 1, 2, 3, 5, 14, 15: the span of the row
pub data Names : Row → Span → Type 0 where
  -- attribute, pointer, OBJECT and GROUP, symbol, unit
  of_attribute : {p : Span} → Names (attribute p) p
  of_pointer : {p : Span} → Names (pointer p) p
  of_block : {k : Kind} {p : Span} → Names (opened k p) p
  of_symbol : {p : Span} → Names (a_symbol p) p
  of_unit : {op : _} {p : Span} {w : _} → Names (a_unit op p w) p

-- the name that a row of a proper table shows
pub record Shows (label lent : List ℕ) (row : ℕ) (p : Span) : Type 0 where
  pub rows : List Row
  pub told : Rows label lent rows
  pub shown : Row
  pub starts : Starts row rows shown
  pub name : Names shown p

-- an empty one at the label's start
abbrev pub nowhere : Span
nowhere = record { from = 0; upto = 0 }

-- The name view hands back the row's own stretch of the lent label, for kinds 1, 2, 3, 5, 14, 15 of a proper table over at most
-- 65,535 bytes; else an empty one at the label's start.
pub data Viewed (label lent : List ℕ) (row : ℕ) : Span → Type 0 where
  -- a row that shows a name, and any other
  in_view : {p : Span} → Shows label lent row p → Viewed label lent row p
  no_view : ((p : Span) → Shows label lent row p → ⊥) → Viewed label lent row nowhere

-- ---- the lookup

-- a row of kind 1 to 6 or 99
pub data Line : Row → Type 0 where
  -- 1 attribute, 2 pointer, 3 and 5 OBJECT and GROUP, 4 and 6 their ends, 99 last row
  an_attribute : {p : Span} → Line (attribute p)
  a_pointer : {p : Span} → Line (pointer p)
  an_opening : {k : Kind} {p : Span} → Line (opened k p)
  a_closing : {k : Kind} → Line (closed k)
  the_last : {n : ℕ} → Line (last n)

-- rows that neither open nor close a block, nor end the table
pub data Flat : Row → Type 0 where
  flat_attribute : {p : Span} → Flat (attribute p)
  flat_pointer : {p : Span} → Flat (pointer p)
  flat_integer : {w : _} → Flat (an_integer w)
  flat_real : {x : _} → Flat (a_real x)
  flat_moment : {t : _} → Flat (a_moment t)
  flat_text : {p : Span} → Flat (a_text p)
  flat_symbol : {p : Span} → Flat (a_symbol p)
  flat_unit : {op : _} {p : Span} {w : _} → Flat (a_unit op p w)
  flat_sequence : Flat sequence
  flat_sequence_end : Flat sequence_end
  flat_set : Flat set
  flat_set_end : Flat set_end

-- A block reaches to its own closing row, blocks within blocks included: the rows between the two.
pub data Inner : List Row → Type 0 where
  no_row : Inner []
  and_flat : {r : Row} {rs : List Row} → Flat r → Inner rs → Inner (r ∷ rs)
  and_block : {k : Kind} {p : Span} (qs : List Row) {rs : List Row} → Inner qs → Inner rs → Inner (opened k p ∷ (qs ++ (closed k ∷ rs)))

-- Names are compared case folded.
abbrev pub Called : List ℕ → List ℕ → Row → Type 0
Called label name r = (p : Span) × (r ≡ attribute p) × (fold_all (stretch label p) ≡ fold_all name)

-- where the attribute stands, or that there is none
pub data Finding : Type 0 where
  stands : ℕ → Finding
  absent : Finding

-- From the row at an offset on: the first attribute of that name. It stays within the block that the row stands in; a closing row stands in
-- the block it closes. A block reaches to its own closing row, blocks within blocks included, and is passed over whole.
pub data Looks (label name : List ℕ) : ℕ → List Row → Finding → Type 0 where
  -- this row; or behind a row that neither opens nor closes a block; or behind a whole block
  found : {at : ℕ} {r : Row} {rs : List Row} → Called label name r → Looks label name at (r ∷ rs) (stands at)
  passed : {at : ℕ} {r : Row} {rs : List Row} {z : Finding} → Flat r → (Called label name r → ⊥) →
      Looks label name (at + length (encode r)) rs z → Looks label name at (r ∷ rs) z
  passed_whole : {at : ℕ} {k : Kind} {p : Span} (qs : List Row) {rs : List Row} {z : Finding} → Inner qs →
      Looks label name (at + length (table (opened k p ∷ (qs ++ (closed k ∷ []))))) rs z →
      Looks label name at (opened k p ∷ (qs ++ (closed k ∷ rs))) z
  -- no further than the row that closes the block, or the last
  block_ends : {at : ℕ} {k : Kind} {rs : List Row} → Looks label name at (closed k ∷ rs) absent
  table_ends : {at n : ℕ} {rs : List Row} → Looks label name at (last n ∷ rs) absent

-- The lookup takes label, table, name and row offset: 1, 12, 15 (not the start of a row of kind 1 to 6 or 99), 14, or 0 with the offset
-- of the first attribute of that name at or after it.
pub data Sought (label lent name : List ℕ) (row : ℕ) : Said → Type 0 where
  -- 1, 12
  search_refused : {s : Said} → Refused label lent s → Sought label lent name row s
  -- 15: not the offset of a row that is asked for
  no_line : {rows : List Row} → Rows label lent rows → ((r : Row) → Starts row rows r → Line r → ⊥) →
      Sought label lent name row (says 15 0 0)
  -- 14: name absent
  no_name : {rows qs : List Row} {r : Row} → Rows label lent rows → From row rows (r ∷ qs) → Line r →
      Looks label name row (r ∷ qs) absent → Sought label lent name row (says 14 0 0)
  -- 0: its offset
  at_offset : {rows qs : List Row} {r : Row} {k : ℕ} → Rows label lent rows → From row rows (r ∷ qs) → Line r →
      Looks label name row (r ∷ qs) (stands k) → Sought label lent name row (says 0 0 k)
