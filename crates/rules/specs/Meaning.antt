-- The meaning of a table: its rows without row 99's offset and without marks, each span replaced by its bytes, folded up, or reassembled for
-- texts.
use Rattle.std.specs.Prelude.{ℕ, Bool, true, false, cond, not, ◌&&◌, ◌||◌, ◌≡◌, List, [], ◌∷◌, ◌++◌, map, leb, eqb}
use Prim.Native.Char.{code as byte}
use Rattle.rules.specs.Bytes.{spacing, line_end, fold, front, Run}
use Rattle.rules.specs.Data.{MomentOf, RowOf, Row, attribute, pointer, opened, closed, an_integer, a_real, a_moment, a_text, a_symbol, a_unit}
use Rattle.rules.specs.Data.{sequence, sequence_end, set, set_end, last}
use Rattle.rules.specs.Elements.{is_blank}
use Rattle.rules.specs.Proper.{stretch}

-- ---- a text is reassembled (12.5.3.1)

-- drop bytes 0-31 and 127 except tab and line ends
abbrev pub kept : ℕ → Bool
kept b = is_blank b || (leb 32 b && not (eqb b 127))

-- the bytes that are not dropped
unfoldable pub keep : List ℕ → List ℕ
keep [] = []
keep (b ∷ s) = cond (kept b) (b ∷ keep s) (keep s)

-- a byte of a run of spacing and line ends
abbrev pub in_blanks : List ℕ → Bool
in_blanks l = front is_blank l

-- the bytes hold a line end
unfoldable pub broken : List ℕ → Bool
broken [] = false
broken (b ∷ s) = line_end b || broken s

-- then take each longest run of spacing and line ends that holds a line end.
pub data Joined : List ℕ → List ℕ → Type 0 where
  no_more : Joined [] []
  -- If the byte before the run is a hyphen and the run begins with a line end, hyphen and run vanish;
  vanish : {b : ℕ} {run r t : List ℕ} → Run in_blanks (b ∷ run) r → line_end b ≡ true → Joined r t →
      Joined (byte "-" ∷ b ∷ (run ++ r)) t
  -- else the run becomes one space, also at the text's ends.
  one_space : {b : ℕ} {run r t : List ℕ} → Run in_blanks (b ∷ run) r → broken (b ∷ run) ≡ true → Joined r t →
      Joined (b ∷ (run ++ r)) (32 ∷ t)
  -- A run that holds none stays, and so does every byte of no run
  run_stays : {b : ℕ} {run r t : List ℕ} → Run in_blanks (b ∷ run) r → broken (b ∷ run) ≡ false → Joined r t →
      Joined (b ∷ (run ++ r)) (b ∷ (run ++ t))
  byte_stays : {b : ℕ} {r t : List ℕ} → is_blank b ≡ false → (eqb b (byte "-") && front line_end r) ≡ false → Joined r t →
      Joined (b ∷ r) (b ∷ t)

-- A text is reassembled (12.5.3.1) thus: drop, then join.
abbrev pub Reassembled : List ℕ → List ℕ → Type 0
Reassembled s t = Joined (keep s) t

-- The same as a function, which the meaning is made with. `Joined` is the rule to believe; proofs/Written/Reassembly proves that the
-- function gives what the rule gives, and nothing else.

-- the run at the front holds a line end
unfoldable pub breaks : List ℕ → Bool
breaks [] = false
breaks (b ∷ s) = line_end b || (spacing b && breaks s)

-- each run joined; the flag says that the bytes at the front stand in a run that has been dealt with
unfoldable pub join : Bool → List ℕ → List ℕ
join dealt [] = []
join dealt (b ∷ s) =
    cond (is_blank b)
    (cond dealt (join true s) (cond (breaks (b ∷ s)) (32 ∷ join true s) (b ∷ join false s)))
    (cond (eqb b (byte "-") && front line_end s) (join true s) (b ∷ join false s))

-- a text reassembled, as a function
unfoldable pub reassemble : List ℕ → List ℕ
reassemble s = join false (keep s)

-- ---- rows

-- a row of a meaning
abbrev pub Sense : Type 0
Sense = RowOf (List ℕ) (Unit {0}) (Unit {0})

-- folded up
abbrev pub fold_all : List ℕ → List ℕ
fold_all w = map fold w

-- Document 02 §6: the mark stays out of the meaning: a date or time without it
abbrev pub unmarked : {M : Type 0} → MomentOf M → MomentOf (Unit {0})
unmarked t = record {
  parts = t.parts;
  year = t.year;
  month = t.month;
  day = t.day;
  hour = t.hour;
  minute = t.minute;
  second = t.second;
  nanoseconds = t.nanoseconds;
  offset = t.offset;
  mark = tt;
}

-- without row 99's offset and without the mark, each span replaced by its bytes: folded up, or reassembled for texts
abbrev pub sense : List ℕ → Row → Sense
sense given (attribute p) = attribute (fold_all (stretch given p))
sense given (pointer p) = pointer (fold_all (stretch given p))
sense given (opened k p) = opened k (fold_all (stretch given p))
sense given (closed k) = closed k
sense given (an_integer w) = an_integer w
sense given (a_real x) = a_real x
sense given (a_moment t) = a_moment (unmarked t)
sense given (a_text p) = a_text (reassemble (stretch given p))
sense given (a_symbol p) = a_symbol (fold_all (stretch given p))
sense given (a_unit op p w) = a_unit op (fold_all (stretch given p)) w
sense given sequence = sequence
sense given sequence_end = sequence_end
sense given set = set
sense given set_end = set_end
sense given (last n) = last tt

-- The meaning of a table is its rows without row 99's offset, each span replaced by its bytes. Set members count in their written order.
abbrev pub meaning : List ℕ → List Row → List Sense
meaning given rows = map (sense given) rows
