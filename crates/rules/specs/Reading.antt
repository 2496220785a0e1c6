-- What comes back from a reading: the table, or the first fault.
use Rattle.std.specs.Prelude.{ℕ, ◌+◌, ◌≤◌, ◌<◌, List, [], ◌++◌, length, drop}
use Rattle.rules.specs.Data.{Elem, Placed, Row}
use Rattle.rules.specs.Grammar.{strict, Label}
use Rattle.rules.specs.Modes.{Mode}
use Rattle.rules.specs.Faults.{Refused, Early}
use Rattle.rules.specs.Table.{table}
use Rattle.rules.specs.Elements.{Gap, Spells, placed, Cut, Fault}

-- what a reading comes to: the table's rows, or the first fault
pub data Outcome : Type 0 where
  -- the rows, and the place past END
  accepted : List Row → ℕ → Outcome
  -- a code and its place
  refused : ℕ → ℕ → Outcome

-- what the rules say of a label of any length: it follows them, or where the first fault is
pub data Judged (m : Mode) (l : List ℕ) : Outcome → Type 0 where
  -- 0: accepted; the place past END
  follows : {i : ℕ} {es : List Placed} {rows : List Row} {r : List ℕ} → Cut m 0 l es i r → Label m strict es rows →
      Judged m l (accepted rows i)
  -- 2 to 5: after elements that begin a label, bytes that spell no element
  misspelled : {i c : ℕ} {es : List Placed} {g r : List ℕ} → Cut m 0 l es i (g ++ r) → Early m es → Gap m g r → Fault m r c →
      Judged m l (refused c (i + length g))
  -- 6 to 9, and 5 of an exponent: after elements that begin a label, an element that cannot stand there; its start
  misplaced : {i c q : ℕ} {es : List Placed} {g w r : List ℕ} {e : Elem} → Cut m 0 l es i (g ++ (w ++ r)) → Early m es →
      Gap m g (w ++ r) → Spells m w e q r → Refused m es (placed i g w e q) c →
      Judged m l (refused c (i + length g))
  -- 10: the input ends early; its length
  ends_early : {i : ℕ} {es : List Placed} {r : List ℕ} → Cut m 0 l es i r → Early m es → Gap m r [] → Judged m l (refused 10 (length l))

-- A label of any length may follow these rules; 65,535 bounds the calls and is no part of the rules.
abbrev pub longest : ℕ
longest = 65535

-- Reader: 1 first; then the first fault in the input.
pub data Reads (m : Mode) (l : List ℕ) : Outcome → Type 0 where
  -- 1: label over 65,535 bytes; 65535
  too_long : longest < length l → Reads m l (refused 1 longest)
  -- any other: as the rules judge it
  read : {o : Outcome} → length l ≤ longest → Judged m l o → Reads m l o

-- ---- the call, with the lent room

-- A reading gives code, place and table length (0 unless code 0 or 11); a writing gives code, place and written length likewise.
pub record Said : Type 0 where
  pub code : ℕ
  pub place : ℕ
  pub size : ℕ

-- code, place and length
abbrev pub says : ℕ → ℕ → ℕ → Said
says c i n = record { code = c; place = i; size = n }

-- Room beyond the reported length is untouched: these bytes at its start.
abbrev pub filled : List ℕ → List ℕ → List ℕ
filled w room = w ++ drop (length w) room

-- Room beyond the reported length is untouched, and on refusal all of it.
pub data Answered (m : Mode) (l room : List ℕ) : Said → List ℕ → Type 0 where
  -- 0: accepted; past END; the table at the room's start
  stored : {rows : List Row} {i : ℕ} → Reads m l (accepted rows i) → length (table rows) ≤ length room →
      Answered m l room (says 0 i (length (table rows))) (filled (table rows) room)
  -- 11 only if nothing else: room too short; as for 0; the length is the one needed
  no_room : {rows : List Row} {i : ℕ} → Reads m l (accepted rows i) → length room < length (table rows) →
      Answered m l room (says 11 i (length (table rows))) room
  -- 1 to 10: table length 0
  not_read : {c i : ℕ} → Reads m l (refused c i) → Answered m l room (says c i 0) room
