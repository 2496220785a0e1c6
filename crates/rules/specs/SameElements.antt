-- Layout means nothing (document 02, 14): two labels with the same list of elements, byte for byte, through the first END or to the input's
-- end, and END set off in both or lacking in both, are both accepted or both refused, when each is at most 65,535 bytes, its table room is
-- ample, and what stands before, between and after its elements, up to that END or the input's end, holds no fault. If accepted, the tables
-- have equal meaning and equal length. If refused, it is with the same code, at the same element or at the input's end in both.
-- Here is what the sentence speaks of; proofs/Reading/SameElements proves it.
use Rattle.std.specs.Prelude.{ℕ, ◌+◌, ◌≤◌, ◌<◌, Bool, true, false, ◌≡◌, List, [], ◌∷◌, ◌++◌, length}
use Prim.Native.Char.{code as byte}
use Rattle.rules.specs.Bytes.{ascii, Run}
use Rattle.rules.specs.Data.{Elem, Row}
use Rattle.rules.specs.Modes.{Mode}
use Rattle.rules.specs.Values.{same}
use Rattle.rules.specs.Elements.{Gap, in_symbol, in_word, sets_off, Spells, Fault}
use Rattle.rules.specs.Table.{table}
use Rattle.rules.specs.Reading.{Outcome, accepted, refused, Reads, Said, says}
use Rattle.rules.specs.Proper.{proper_rows, Ruled}
use Rattle.rules.specs.Meaning.{fold_all, meaning}

-- ---- the list of elements

-- Elements byte for byte: the bytes `w`, with `r` behind them, are one element, whether or not it has a form and keeps its limit. A byte
-- that begins no element, and a text, symbol or comment that is broken or left open, are none: they are faults outside the elements.
pub data OneElement (m : Mode) : List ℕ → List ℕ → Type 0 where
  -- an element as the rules spell it
  spelled : {w r : List ℕ} {e : Elem} {q : ℕ} → Spells m w e q r → OneElement m w r
  -- a word of any form or none
  any_word : {b : ℕ} {w r : List ℕ} → Run in_word (b ∷ w) r → OneElement m (b ∷ w) r
  -- a quoted symbol of any length
  any_symbol : {t r : List ℕ} → Run in_symbol t (byte "'" ∷ r) → OneElement m (byte "'" ∷ (t ++ byte "'" ∷ [])) r

-- the word END, in either case, wherever it stands
abbrev pub is_end_word : List ℕ → Bool
is_end_word w = same (fold_all w) (ascii "END")

-- through the first END, which is set off or not; or to the input's end, END lacking
pub data Through : Type 0 where
  first_end_word : Bool → Through
  no_end_word : Through

-- The input from an offset has these elements, byte for byte, which start at these places, through the first END or to the input's end; and
-- what stands before, between and after its elements, up to that END or the input's end, holds no fault: it is spacing, line ends and
-- comments. What stands behind that END counts only for whether it is set off.
pub data Listed (m : Mode) : ℕ → List ℕ → List (List ℕ) → List ℕ → Through → Type 0 where
  to_the_end : {i : ℕ} {g : List ℕ} → Gap m g [] → Listed m i g [] [] no_end_word
  through_end : {i : ℕ} {g w r : List ℕ} {off : Bool} → Gap m g (w ++ r) → OneElement m w r → is_end_word w ≡ true → sets_off m r ≡ off →
      Listed m i (g ++ (w ++ r)) (w ∷ []) ((i + length g) ∷ []) (first_end_word off)
  and_then : {i : ℕ} {g w l : List ℕ} {ws : List (List ℕ)} {ps : List ℕ} {t : Through} → Gap m g (w ++ l) → OneElement m w l →
      is_end_word w ≡ false → Listed m (i + length g + length w) l ws ps t →
      Listed m i (g ++ (w ++ l)) (w ∷ ws) ((i + length g) ∷ ps) t

-- Where something there holds a fault: up to the first END, a fault of code 2 or 3 stands where an element or a comment would. Faults of
-- code 4 and 5 are at an element. A label has such a fault, or a list (proofs/Reading/ListedOnce).
pub data FaultOutside (m : Mode) : List ℕ → Type 0 where
  fault_here : {g r : List ℕ} {c : ℕ} → Gap m g r → Fault m r c → c ≤ 3 → FaultOutside m (g ++ r)
  fault_later : {g w l : List ℕ} → Gap m g (w ++ l) → OneElement m w l → is_end_word w ≡ false → FaultOutside m l →
      FaultOutside m (g ++ (w ++ l))

-- Two labels with the same list of elements, byte for byte, through the first END or to the input's end, and END set off in both or lacking
-- in both, or in both not set off. The elements start at these places in the one, and at those in the other.
pub record SameElements (m : Mode) (l l' : List ℕ) (ps ps' : List ℕ) : Type 0 where
  pub elements : List (List ℕ)
  pub through : Through
  pub in_one : Listed m 0 l elements ps through
  pub in_other : Listed m 0 l' elements ps' through

-- ---- read alike

-- at the same element in both: equally far down the places
pub data SamePlace : List ℕ → List ℕ → ℕ → ℕ → Type 0 where
  the_first : {p p' : ℕ} {ps ps' : List ℕ} → SamePlace (p ∷ ps) (p' ∷ ps') p p'
  further : {a a' p p' : ℕ} {ps ps' : List ℕ} → SamePlace ps ps' p p' → SamePlace (a ∷ ps) (a' ∷ ps') p p'

-- at the last element of both, which is END where the labels are accepted
pub data LastPlace : List ℕ → List ℕ → ℕ → ℕ → Type 0 where
  the_only : {p p' : ℕ} → LastPlace (p ∷ []) (p' ∷ []) p p'
  behind : {a a' p p' : ℕ} {ps ps' : List ℕ} → LastPlace ps ps' p p' → LastPlace (a ∷ ps) (a' ∷ ps') p p'

-- Both accepted or both refused: the outcomes of two labels whose elements start at these places.
pub data AlikeRead (l l' ps ps' : List ℕ) : Outcome → Outcome → Type 0 where
  -- If accepted, the tables have equal meaning and equal length; each place is the one past END, which has three bytes.
  both_accepted : {rows rows' : List Row} {p p' : ℕ} → meaning l rows ≡ meaning l' rows' → length (table rows) ≡ length (table rows') →
      LastPlace ps ps' p p' → AlikeRead l l' ps ps' (accepted rows (p + 3)) (accepted rows' (p' + 3))
  -- If refused, it is with the same code, at the same element
  both_refused : {c p p' : ℕ} → SamePlace ps ps' p p' → AlikeRead l l' ps ps' (refused c p) (refused c p')
  -- or at the input's end in both.
  both_at_the_end : {c : ℕ} → AlikeRead l l' ps ps' (refused c (length l)) (refused c (length l'))

-- ---- of the calls

-- its table room is ample: it holds the table, if there is one
abbrev pub Ample : Mode → List ℕ → List ℕ → Type 0
Ample m l room = (rows : List Row) (i : ℕ) → Reads m l (accepted rows i) → length (table rows) ≤ length room

-- Both accepted or both refused, of two calls: what they say, and what their rooms hold where a table is stored. That a refusal leaves its
-- room as it was is said by `Answered`.
pub data AlikeSaid (l l' ps ps' : List ℕ) : Said → List ℕ → Said → List ℕ → Type 0 where
  -- 0 in both: the tables that stand in the rooms, each proper over its label, have equal meaning and equal length; each
  -- place is the one past END
  both_stored : (rest rest' : List ℕ) {t t' : List ℕ} {rows rows' : List Row} {p p' : ℕ} → Ruled l t (proper_rows rows) →
      Ruled l' t' (proper_rows rows') → meaning l rows ≡ meaning l' rows' → length t ≡ length t' → LastPlace ps ps' p p' →
      AlikeSaid l l' ps ps' (says 0 (p + 3) (length t)) (t ++ rest) (says 0 (p' + 3) (length t')) (t' ++ rest')
  -- the same code, which is not 0, at the same element
  both_not_read : {c p p' : ℕ} {room room' : List ℕ} → 0 < c → SamePlace ps ps' p p' →
      AlikeSaid l l' ps ps' (says c p 0) room (says c p' 0) room'
  -- or at the input's end in both
  both_ended : {c : ℕ} {room room' : List ℕ} → 0 < c →
      AlikeSaid l l' ps ps' (says c (length l) 0) room (says c (length l') 0) room'
