-- Document 02 §1: the session book. Which counter a label's session goes under, what taking a label answers and leaves, and histories of
-- calls: each where what it is made of has been said. That the book relies on nothing of the reader but its stated promises is a matter of
-- the code (crates.txt).
use Rattle.std.specs.Prelude.{ℕ, suc, ◌+◌, ◌-◌, ◌≤◌, ◌<◌, cond, ◌≡◌, List, [], ◌∷◌, eqb, length, get_or, set}
use Rattle.rules.specs.Bytes.{ascii}
use Rattle.rules.specs.Data.{Moment, Row, a_moment}
use Rattle.rules.specs.Modes.{base}
use Rattle.rules.specs.Values.{Day}
use Rattle.rules.specs.Table.{table}
use Rattle.rules.specs.Reading.{Said, says, filled, accepted, Reads, Answered}
use Rattle.rules.specs.Asked.{From, stands, absent, Looks}
use Rattle.rules.specs.Calendar.{dated, weekday}

-- ---- the counter of a session

-- the date as written, the tester's own day; the offset is not applied
abbrev pub date_of : Moment → Day
date_of t = dated t.year t.month t.day

-- a value with a date: a date, or a date and a time
pub data HasDate (t : Moment) : Type 0 where
  date_alone : t.parts ≡ 1 → HasDate t
  date_and_time : t.parts ≡ 3 → HasDate t

-- the name of the attribute that dates a session
abbrev pub start_time : List ℕ
start_time = ascii "START_TIME"

-- The attribute whose row stands at an offset has a single value with a date: the row behind it is this one. A sequence and a set begin
-- with rows of their own.
pub record DateAt (k : ℕ) (rows : List Row) (t : Moment) : Type 0 where
  pub row : Row
  pub rest : List Row
  pub behind : From k rows (row ∷ a_moment t ∷ rest)
  pub has_date : HasDate t

-- the counter of undated sessions
abbrev pub undated : ℕ
undated = 8

-- The book finds the first top-level START_TIME, and counts the session under the weekday of the date as written. It keeps seven counters,
-- one for each weekday, and an eighth for undated sessions: no START_TIME, or one that is not a single value with a date.
-- Counters have the numbers 1 Monday to 7 Sunday, 8 undated; START_TIME is found as the lookup finds it from row 0.
pub data Under (label : List ℕ) (rows : List Row) : ℕ → Type 0 where
  -- the weekday of its date
  on_weekday : {k : ℕ} {t : Moment} → Looks label start_time 0 rows (stands k) → DateAt k rows t → Under label rows (weekday (date_of t))
  -- no START_TIME, or one that is not a single value with a date
  no_start : Looks label start_time 0 rows absent → Under label rows undated
  no_date : {k : ℕ} → Looks label start_time 0 rows (stands k) → ((t : Moment) → DateAt k rows t → ⊥) → Under label rows undated

-- ---- the book

-- Seven counters, one for each weekday, handed in and handed back, and an eighth for undated sessions. The call's type says that there are
-- eight, an array; a taking keeps their number (proofs/Book/Counters).
pub record Book : Type 0 where
  pub counts : List ℕ

-- the book with these counters
abbrev pub book : List ℕ → Book
book c = record { counts = c }

-- an empty book
abbrev pub empty : Book
empty = book (0 ∷ 0 ∷ 0 ∷ 0 ∷ 0 ∷ 0 ∷ 0 ∷ 0 ∷ [])

-- the counter with a number from 1 to 8
abbrev pub count : List ℕ → ℕ → ℕ
count c n = get_or c (n - 1) 0

-- one counter is one more, and the rest equal
abbrev pub with_one_more : List ℕ → ℕ → List ℕ
with_one_more c n = set c (n - 1) (count c n + 1)

-- the eight counters' sum
abbrev pub sum : List ℕ → ℕ
sum [] = 0
sum (x ∷ xs) = x + sum xs

-- A book whose eight counters sum to 1,000,000 or more is full.
abbrev pub full : ℕ
full = 1000000

-- ---- taking a label

-- The book takes a label, reads it, and counts the session. What it says, the book after it, and the lent table room.
pub data Takes (b : Book) (label room : List ℕ) : Said → Book → List ℕ → Type 0 where
  -- 0: The lent table room holds the table. Place and length are the reader's.
  counted : {rows : List Row} {i n : ℕ} → Reads base label (accepted rows i) → length (table rows) ≤ length room → sum b.counts < full →
      Under label rows n →
      Takes b label room (says 0 i (length (table rows))) (book (with_one_more b.counts n)) (filled (table rows) room)
  -- Refusals, book and room unchanged: the reader's own first, 1 to 11,
  reader_refuses : {s : Said} → Answered base label room s room → (s.code ≡ 0 → ⊥) → Takes b label room s b room
  -- then 16, book full. Every code from 16 on has place 0.
  book_full : {rows : List Row} {i : ℕ} → Reads base label (accepted rows i) → length (table rows) ≤ length room → full ≤ sum b.counts →
      Takes b label room (says 16 0 0) b room

-- ---- histories of calls

-- a taking: the label, the room that is lent to it, what it says, and the room after it
pub record Taking : Type 0 where
  pub label : List ℕ
  pub room : List ℕ
  pub said : Said
  pub after : List ℕ

-- takings one after the other, each with the book that the one before it handed back: the book before them all, and the book after
pub data History : Book → List Taking → Book → Type 0 where
  no_call : {b : Book} → History b [] b
  and-call : {b b₁ b₂ : Book} {c : Taking} {cs : List Taking} → Takes b c.label c.room c.said b₁ c.after → History b₁ cs b₂ →
      History b (c ∷ cs) b₂

-- From an empty book the eight counters sum to the labels taken, counted from the history of calls: those that answered 0.
unfoldable pub taken : List Taking → ℕ
taken [] = 0
taken (c ∷ cs) = cond (eqb c.said.code 0) (suc (taken cs)) (taken cs)

-- the counter that a label's session goes under
pub record Session (label : List ℕ) (n : ℕ) : Type 0 where
  pub rows : List Row
  pub past : ℕ
  pub reads : Reads base label (accepted rows past)
  pub under : Under label rows n

-- And each counter is the number of those labels whose session goes under it.
pub data TakenUnder (n : ℕ) : List Taking → ℕ → Type 0 where
  none_taken : TakenUnder n [] 0
  not_taken : {c : Taking} {cs : List Taking} {k : ℕ} → (c.said.code ≡ 0 → ⊥) → TakenUnder n cs k → TakenUnder n (c ∷ cs) k
  under_other : {c : Taking} {cs : List Taking} {k m : ℕ} → c.said.code ≡ 0 → Session c.label m → (m ≡ n → ⊥) → TakenUnder n cs k →
      TakenUnder n (c ∷ cs) k
  under_this : {c : Taking} {cs : List Taking} {k : ℕ} → c.said.code ≡ 0 → Session c.label n → TakenUnder n cs k →
      TakenUnder n (c ∷ cs) (suc k)
