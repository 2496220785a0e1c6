-- Rows of a table from a place on, and what is found among them. Terms of private contracts.
use Rattle.std.specs.Prelude.{ℕ, zero, suc, ◌≤◌, ◌<◌, ◌≡◌, List, [], ◌∷◌, length, drop, Option, Some, None, Result, Ok, Err}
use Rattle.std.proofs.Math.Option as maybe
use Rattle.rules.specs.Data as rule
use Rattle.rules.specs.Table.{table}
use Rattle.rules.specs.Proper.{Each}
use Rattle.rules.specs.Asked as asked
use Rattle.rules.proofs.Machine.Limits.{Codes}
use Rattle.rules.proofs.Machine.Lookup.{from_of, way, for_way, seeks}
use Rattle.rules.proofs.Machine.Lookup as seeking
use Rattle.rules.proofs.Machine.Queries.{span_of_name, from_row, from_span, text_row, line_said}
use Rattle.rules.proofs.Machine.Returns.{returns}
use Rattle.rows.specs.Rows.{row_of}
use Rattle.rows.specs.Decoding.{Decodes}
use Rattle.rows.specs.declared.Row.{Row}
use Rattle.queries.specs.declared.places.Way.{Way}
use Rattle.queries.specs.declared.places.Way.TheVariants as ways
use Rattle.queries.specs.declared.names.Stretch.{Stretch}
use Rattle.queries.specs.declared.outcome.Given.{Given}
use Rattle.queries.specs.declared.outcome.NoText.{NoText}
use Rattle.queries.specs.declared.outcome.At.{At}
use Rattle.queries.specs.declared.outcome.NotFound.{NotFound}
use Rattle.queries.specs.declared.outcome.NotFound.TheVariants as finds
use Rattle.queries.specs.Answers.{text_said, found_said}

-- from a place on, the table is the bytes of these rows
pub record TableFrom (lent : List ℕ) (at : ℕ) (rows : List rule.Row) : Type 0 where
  pub bytes : drop at lent ≡ table rows
  pub within : at ≤ length lent
  pub codes : Each Codes rows

-- ---- the row at an offset

-- the walk to an offset, over any bytes: no row there where a row before it reaches past it or is cut short
pub data Walked (lent : List ℕ) (row : ℕ) : ℕ → Option (Row × ℕ) → Type 0 where
  arrived : {at : ℕ} {g : Option (Row × ℕ)} → at ≡ row → Decodes lent row g → Walked lent row at g
  reached_past : {at : ℕ} → row < at → Walked lent row at None
  cut_short : {at : ℕ} → at < row → Decodes lent at None → Walked lent row at None
  passed : {at next : ℕ} {r : Row} {g : Option (Row × ℕ)} → at < row → Decodes lent at (Some (r, next)) → Walked lent row next g →
      Walked lent row at g

-- the first of these rows, or none
pub data First : Option (Row × ℕ) → List rule.Row → Type 0 where
  no_first : First None []
  the_first : {r : Row} {next : ℕ} {rs : List rule.Row} → First (Some (r, next)) (row_of r ∷ rs)

-- the row at an offset: that of the rules where the table holds rows, and of any bytes the one that the walk arrives at
pub record RowFrom (lent : List ℕ) (row : ℕ) (g : Option (Row × ℕ)) : Type 0 where
  pub is : (rows : List rule.Row) → TableFrom lent 0 rows → First g (from_of row rows)
  pub walked : Walked lent row 0 g

-- ---- where a block ends

abbrev pub way_of : seeking.Way → Way
way_of (seeking.names p) = ways.Named p.from p.upto
way_of seeking.plain = ways.Plain
way_of seeking.opens = ways.Opening
way_of seeking.closes = ways.Closing
way_of seeking.ends = ways.Ending

-- the rows after the one that closes the block whose rows these are, with so many blocks open within it
unfoldable pub beyond : ℕ → List rule.Row → List rule.Row
beyond d [] = []
beyond zero (r ∷ rs) = for_way (way r) (λ p. beyond 0 rs) (beyond 0 rs) (beyond 1 rs) rs []
beyond (suc d) (r ∷ rs) = for_way (way r) (λ p. beyond (suc d) rs) (beyond (suc d) rs) (beyond (suc (suc d)) rs) (beyond d rs) []

-- a step of the walk to a block's end, over any bytes: that end, or the place to go on from, or the place where an inner block's rows begin
pub data BlockStep : Type 0 where
  stops : ℕ → BlockStep
  goes : ℕ → BlockStep
  enters : ℕ → BlockStep

-- the step from a row, in a table of this size
abbrev pub step_of : ℕ → Option (Row × ℕ) → BlockStep
step_of size None = stops size
step_of size (Some (r, next)) = for_way (way (row_of r)) (λ p. goes next) (goes next) (enters next) (stops next) (stops size)

-- the walk to the end of the block whose rows begin at a place
pub data BlockWalk (lent : List ℕ) : ℕ → ℕ → Type 0 where
  stopped : {at e : ℕ} (g : Option (Row × ℕ)) → Decodes lent at g → step_of (length lent) g ≡ stops e → BlockWalk lent at e
  gone : {at e : ℕ} (g : Option (Row × ℕ)) (next : ℕ) → Decodes lent at g → step_of (length lent) g ≡ goes next → BlockWalk lent next e →
      BlockWalk lent at e
  entered : {at e : ℕ} (g : Option (Row × ℕ)) (next past : ℕ) → Decodes lent at g → step_of (length lent) g ≡ enters next → BlockWalk lent next past →
      BlockWalk lent past e → BlockWalk lent at e

-- past the block whose rows begin at a place: as the rules have it where the table holds rows, and of any bytes where the walk stops
pub record PastBlock (lent : List ℕ) (from e : ℕ) : Type 0 where
  pub is : (rows : List rule.Row) → TableFrom lent from rows → TableFrom lent e (beyond 0 rows)
  pub walked : BlockWalk lent from e
  pub after : from ≤ e
  pub within : e ≤ length lent

-- ---- what is shown of a row

abbrev pub shown_of : maybe.Option rule.Span → Option (ℕ × ℕ)
shown_of (maybe.some p) = Some (p.from, p.upto)
shown_of maybe.none = None

-- the text of the row at an offset
pub record TextFrom (label lent : List ℕ) (row : ℕ) (room : List ℕ) (r : Result Given NoText) (after : List ℕ) : Type 0 where
  pub is : (rows : List rule.Row) → TableFrom lent 0 rows →
      returns (text_said r) after ≡ from_row (from_of row rows) (returns (asked.says 15 0 0) room) (text_row label room)

-- the span of a row's name, and nowhere where it has none
abbrev pub name_span : rule.Row → rule.Span
name_span r = from_span (span_of_name r) asked.nowhere (λ p. p)

abbrev pub stretch_of : rule.Span → Stretch
stretch_of p = record { start = p.from; end = p.upto }

-- the name of the row at an offset
pub record StretchFrom (lent : List ℕ) (row : ℕ) (s : Stretch) : Type 0 where
  pub is : (rows : List rule.Row) → TableFrom lent 0 rows → s ≡ stretch_of (from_row (from_of row rows) asked.nowhere name_span)

-- ---- the lookup

abbrev pub finding_of : asked.Finding → Result At NotFound
finding_of (asked.stands k) = Ok (record { row = k })
finding_of asked.absent = Err finds.NoName

-- from a place where a row starts
pub record SeeksFrom (label lent name : List ℕ) (row : ℕ) (r : Result At NotFound) : Type 0 where
  pub is : (rows : List rule.Row) → TableFrom lent row rows → r ≡ finding_of (seeks label name 0 row rows)

-- from an offset
pub record FindsFrom (label lent name : List ℕ) (row : ℕ) (r : Result At NotFound) : Type 0 where
  pub is : (rows : List rule.Row) → TableFrom lent 0 rows → found_said r ≡ line_said label name row (from_of row rows)
