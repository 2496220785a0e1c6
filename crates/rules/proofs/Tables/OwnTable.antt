-- The table that a reading gives, in any mode, is proper over the label that was read.
use Prim.Native.Nat.{ℕ}
use native.Mathlib.Omega.{arith}
use mathlib.Core.Path.{refl}
use mathlib.Core.List.{List}
use Rattle.rules.specs.Data.{Span, Name, Elem, name, text, symbol, Placed, Row}
use Rattle.rules.specs.Modes.{Mode}
use Rattle.rules.specs.Table.{table}
use Rattle.rules.specs.Elements.{Cut}
use Rattle.rules.specs.Grammar.{strict, Label}
use Rattle.rules.specs.Reading.{accepted, follows, Reads, read}
use Rattle.rules.specs.Proper.{Ruled, is_proper, proper_rows, stretch, NameWord, TextBody, SymbolBody, Held, Holds, Each, none, one, Proper}
use Rattle.rules.proofs.Words.Runs.{all_run}
use Rattle.rules.proofs.Reading.FromElements.{FromElement, from_attribute, from_pointer, from_opened, from_closed, from_integer, from_based, from_low, from_high, from_real, from_moment, from_text, from_symbol, from_identifier, from_unit, from_sequence, from_sequence_end, from_set, from_set_end, from_end, Rooted, no_row_more, ◌and◌}
use Rattle.rules.proofs.Reading.Stretches.{holds_word, holds_text, holds_symbol, InLabel, rows_stand}
use Rattle.rules.proofs.Reading.Stretches as Stretches
use Rattle.rules.proofs.Tables.Contents.{form_name, name_test, name_symbol, symbol_body}
use Rattle.rules.proofs.Tables.ElementLimits.{form_worded, cut_possible}
use Rattle.rules.proofs.Tables.RowOrder.{rows_complete}
use Rattle.rules.proofs.Tables.RowLimits.{rows_valued}
use Rattle.rules.proofs.Tables.Proper.{proper}
use Rattle.rules.proofs.Tables.Once.{all_codes}
use Rattle.rules.proofs.Machine.Limits.{Valued, Codes}

-- ---- what an element's span holds is what the row's kind allows; no word is a text or a quoted symbol

module _ (m : Mode) where
  abbrev In : Elem → List ℕ → Type 0
  In e w = Stretches.SpanHolds m e w

  name_in : {n : Name} {w : List ℕ} → In (name n) w → NameWord w
  name_in {w = w} (holds_word {off = off} f) = (name_test w).1 (form_name m off w f)

  text_in : {w : List ℕ} → In text w → TextBody w
  text_in (holds_word {off = off} f) = absurd (form_worded m off f)
  text_in (holds_text a) = all_run a refl

  symbol_in : {w : List ℕ} → In symbol w → SymbolBody w
  symbol_in (holds_word {off = off} f) = absurd (form_worded m off f)
  symbol_in (holds_symbol a l) = (all_run a refl, l)

  name_symbol_in : {n : Name} {w : List ℕ} → In (name n) w → SymbolBody w
  name_symbol_in {w = w} h = (symbol_body w).1 (name_symbol w ((name_test w).0 (name_in h)))

  module _ (label : List ℕ) where
    held_as : {e : Elem} {p : Span} (Allowed : List ℕ → Type 0) → (In e (stretch label p) → Allowed (stretch label p)) → InLabel m label e p → Held Allowed label p
    held_as Allowed f h = record { ordered = h.order; inside = h.inside; content = f h.content }

    row_holds : {r : Row} → FromElement (InLabel m label) r → Holds label r
    row_holds (from_attribute h) = held_as NameWord name_in h
    row_holds (from_pointer h) = held_as NameWord name_in h
    row_holds (from_opened k h) = held_as NameWord name_in h
    row_holds (from_closed k) = tt
    row_holds (from_integer h) = tt
    row_holds (from_based h) = tt
    row_holds (from_low h) = tt
    row_holds (from_high h) = tt
    row_holds (from_real h) = tt
    row_holds (from_moment h) = tt
    row_holds (from_text h) = held_as TextBody text_in h
    row_holds (from_symbol h) = held_as SymbolBody symbol_in h
    row_holds (from_identifier h) = held_as SymbolBody name_symbol_in h
    row_holds (from_unit h) = held_as NameWord name_in h
    row_holds from_sequence = tt
    row_holds from_sequence_end = tt
    row_holds from_set = tt
    row_holds from_set_end = tt
    row_holds (from_end h) = h.inside

    rows_hold : {rows : List Row} → Rooted (InLabel m label) rows → Each (Holds label) rows
    rows_hold no_row_more = none
    rows_hold (h and t) = one (row_holds h) (rows_hold t)

    pub own_table : {es : List Placed} {past : ℕ} {rest : List ℕ} {rows : List Row} → Cut m 0 label es past rest → Label m strict es rows → Proper label rows
    own_table c l = proper.1 (record { run = rows_complete m l; values = rows_valued m l (cut_possible m c); spans = rows_hold (rows_stand m c l) })

    -- what a reading gives is proper over what was read
    pub read_proper : {rows : List Row} {i : ℕ} → Reads m label (accepted rows i) → Proper label rows
    read_proper (read h (follows c l)) = own_table c l

    -- and its table has that verdict
    pub read_ruled : {rows : List Row} {i : ℕ} → Reads m label (accepted rows i) → Ruled label (table rows) (proper_rows rows)
    read_ruled r = is_proper refl (read_proper r)

    -- its rows keep the limits of values, and each number has room in its bytes
    pub read_valued : {rows : List Row} {i : ℕ} → Reads m label (accepted rows i) → Each Valued rows
    read_valued r = (proper.0 (read_proper r)).values

    pub read_codes : {rows : List Row} {i : ℕ} → Reads m label (accepted rows i) → Each Codes rows
    read_codes {rows} (read h j) = let p = proper.0 (read_proper (read h j)) in all_codes label (omega arith) rows p.values p.spans
