-- The checked examples marked P, as one list; and examples of the calls, as another, worked out by hand from the papers.
use Rattle.std.specs.Prelude.{ℕ, ◌≤◌, true, false, List, [], ◌∷◌, ◌++◌, length}
use Prim.Native.String.{String}
use Rattle.rules.specs.Bytes.{ascii}
use Rattle.rules.specs.Data.{Span, Whole, Row, attribute, an_integer, a_moment, set, set_end, last}
use Rattle.rules.specs.Modes.{base}
use Rattle.rules.specs.Table.{table}
use Rattle.rules.specs.Reading.{Outcome, accepted, refused, Reads, Said, Answered, filled}
use Rattle.rules.specs.Writing.{Writes}
use Rattle.rules.specs.Asked.{says, Texted, Viewed, Sought}
use Rattle.rules.specs.Book.{Book, book, empty, Takes, Session}

-- an input, and what a reading of it comes to
pub record Example : Type 0 where
  pub input : String
  pub result : Outcome

-- the same, in a line
abbrev pub ◌gives◌ : String → Outcome → Example
◌gives◌ s z = record { input = s; result = z }

infix 85 ◌gives◌
-- a span by its two places
abbrev pub to : ℕ → ℕ → Span
to i j = record { from = i; upto = j }

-- the row of a date
abbrev pub day : ℕ → ℕ → ℕ → Row
day y m d =
    let none : Whole = record { minus = false; size = 0 } in
    a_moment (record { parts = 1; year = y; month = m; day = d; hour = 0; minute = 0; second = 0; nanoseconds = 0; offset = none; mark = 0 })

-- the row of a time: hour, minute, and a signed zone west of Greenwich
abbrev pub time_west : ℕ → ℕ → ℕ → Row
time_west h n w =
    let west : Whole = record { minus = true; size = w } in
    a_moment (record { parts = 2; year = 0; month = 0; day = 0; hour = h; minute = n; second = 0; nanoseconds = 0; offset = west; mark = 2 })

-- the rows marked P of the checked examples
abbrev pub examples : List Example
examples =
    "" gives refused 10 0
    ∷ "END" gives accepted (last 3 ∷ []) 3
    ∷ "A=16#-4B# END" gives accepted (attribute (to 0 1) ∷ an_integer (record { minus = true; size = 75 }) ∷ last 13 ∷ []) 13
    ∷ "A=1990-07 END" gives accepted (attribute (to 0 1) ∷ day 1990 1 7 ∷ last 13 ∷ []) 13
    ∷ "A=1990-366 END" gives refused 5 2
    ∷ "A=2000-366 END" gives accepted (attribute (to 0 1) ∷ day 2000 12 31 ∷ last 14 ∷ []) 14
    ∷ "A='' END" gives refused 4 2
    ∷ "A=() END" gives refused 6 3
    ∷ "A={} END" gives accepted (attribute (to 0 1) ∷ set ∷ set_end ∷ last 8 ∷ []) 8
    ∷ "OBJECT=X END_OBJECT=Y END" gives refused 7 20
    ∷ "END;" gives refused 9 0
    ∷ "A=10:00-00:30 END" gives accepted (attribute (to 0 1) ∷ time_west 10 0 30 ∷ last 17 ∷ []) 17
    ∷ "A=1 /*/ END" gives refused 3 4
    ∷ []

-- what the rules say of each
abbrev pub Hold : List Example → Type 0
Hold [] = Unit {0}
Hold (x ∷ xs) = Reads base (ascii x.input) x.result × Hold xs

-- ---- the calls

-- what is lent, what is said, and the room after
pub data Call : Type 0 where
  -- a label and a room
  reads : List ℕ → List ℕ → Said → List ℕ → Call
  -- a label, a table and a room
  writes : List ℕ → List ℕ → List ℕ → Said → List ℕ → Call
  -- a label, a table, the offset of a row and a room
  takes_text : List ℕ → List ℕ → ℕ → List ℕ → Said → List ℕ → Call
  -- a label, a table, a name and the offset of a row
  looks_up : List ℕ → List ℕ → List ℕ → ℕ → Said → Call
  -- a label, a table and the offset of a row; the span that is handed back
  views : List ℕ → List ℕ → ℕ → Span → Call
  -- a book, a label and a room; the book after
  takes : Book → List ℕ → List ℕ → Said → Book → List ℕ → Call
  -- a label, and the number of the counter that its session goes under
  counts : String → ℕ → Call
  -- a label, and the label that is written of its table
  relabels : List ℕ → List ℕ → Call

-- so many bytes of a room, as they were before the call
abbrev pub before : ℕ → List ℕ
before ℕ.zero = []
before (ℕ.suc n) = 7 ∷ before n

-- the row of an attribute whose name is the label's first byte
abbrev pub attribute_a : List ℕ
attribute_a = 1 ∷ 0 ∷ 0 ∷ 0 ∷ 1 ∷ []

-- the row of a small integer
abbrev pub integer_of : ℕ → List ℕ
integer_of n = 10 ∷ 0 ∷ 0 ∷ 0 ∷ 0 ∷ 0 ∷ 0 ∷ 0 ∷ n ∷ []

-- the last row
abbrev pub end_at : ℕ → List ℕ
end_at n = 99 ∷ 0 ∷ n ∷ []

-- the row of ten o'clock: its offset, two bytes, and its mark
abbrev pub at_ten : ℕ → ℕ → ℕ → List ℕ
at_ten high low mark = 12 ∷ 2 ∷ 0 ∷ 0 ∷ 0 ∷ 0 ∷ 10 ∷ 0 ∷ 0 ∷ 0 ∷ 0 ∷ 0 ∷ 0 ∷ high ∷ low ∷ mark ∷ []

-- the row of the seventh day of 1990, with a mark
abbrev pub seventh : ℕ → List ℕ
seventh mark = 12 ∷ 1 ∷ 7 ∷ 198 ∷ 1 ∷ 7 ∷ 0 ∷ 0 ∷ 0 ∷ 0 ∷ 0 ∷ 0 ∷ 0 ∷ 0 ∷ 0 ∷ mark ∷ []

-- an attribute and its text of ten bytes
abbrev pub text_table : List ℕ
text_table = attribute_a ++ (13 ∷ 0 ∷ 3 ∷ 0 ∷ 13 ∷ end_at 18)

-- a group with an attribute, and one behind it; the rows of the table start at 0, 5, 10, 19, 20, 25 and 34
abbrev pub group_label : List ℕ
group_label = ascii "GROUP=G A=1 END_GROUP A=2 END"

-- its table
abbrev pub group_table : List ℕ
group_table =
    5 ∷ 0 ∷ 6 ∷ 0 ∷ 7 ∷ 1 ∷ 0 ∷ 8 ∷ 0 ∷ 9 ∷ (integer_of 1 ++ (6 ∷ 1 ∷ 0 ∷ 22 ∷ 0 ∷ 23 ∷ (integer_of 2 ++ end_at 29)))

-- the rows of an attribute whose name is the label's first ten bytes, and of 1979-07-08
abbrev pub start-on-sunday : List ℕ
start-on-sunday = 1 ∷ 0 ∷ 0 ∷ 0 ∷ 10 ∷ 12 ∷ 1 ∷ 7 ∷ 187 ∷ 7 ∷ 8 ∷ 0 ∷ 0 ∷ 0 ∷ 0 ∷ 0 ∷ 0 ∷ 0 ∷ 0 ∷ 0 ∷ 0 ∷ []

-- a book with sessions on Monday, on Sunday, and undated ones
abbrev pub sessions : ℕ → ℕ → ℕ → Book
sessions monday sunday undated = book (monday ∷ 0 ∷ 0 ∷ 0 ∷ 0 ∷ 0 ∷ sunday ∷ undated ∷ [])

-- what no theorem pins, and document 02 §1, §2, §4 and §6, worked out by hand from the papers
abbrev pub calls : List Call
calls =
    -- a comment runs to its `*/`, and the rest of that line is ignored: the first END is no element
    reads (ascii "A=1 /* x */ END \n END") (before 20) (says 0 21 17) (attribute_a ++ (integer_of 1 ++ (end_at 21 ++ before 3)))
    -- 10: the input's length, though blanks and a comment stand behind the last element
    ∷ reads (ascii "A=1 /* x */ y\n ") (before 2) (says 10 15 0) (before 2)
    -- 11: place as for 0, the length is the one needed, the room as it was
    ∷ reads (ascii "A=1 END") (before 16) (says 11 7 17) (before 16)
    ∷ writes (ascii "A=1 END") (attribute_a ++ (integer_of 1 ++ end_at 7)) (before 11) (says 11 12 12) (before 11)
    ∷ writes (ascii "A=1 END") (attribute_a ++ (integer_of 1 ++ end_at 7)) (before 13) (says 0 12 12)
    (ascii "A = 1\r\nEND\r\n" ++ before 1)
    -- 12: a row that no proper table has there, the end of a sequence; one that is cut short; whole rows are lacking
    ∷ writes (ascii "A=1 END") (attribute_a ++ (21 ∷ (integer_of 1 ++ end_at 7))) (before 2) (says 12 5 0) (before 2)
    ∷ writes (ascii "A=1 END") (attribute_a ++ (10 ∷ 0 ∷ 0 ∷ [])) (before 2) (says 12 5 0) (before 2)
    ∷ writes (ascii "A=1 END") (attribute_a ++ integer_of 1) (before 2) (says 12 14 0) (before 2)
    -- a text is joined at a hyphen that ends a line, and not where a space stands behind the hyphen
    ∷ takes_text (ascii "A=\"Jupi-\r\nter\" END") text_table 5 (before 9) (says 0 0 7) (ascii "Jupiter" ++ before 2)
    ∷ takes_text (ascii "A=\"Jupi- \nter\" END") text_table 5 (before 9) (says 0 0 9) (ascii "Jupi- ter")
    -- 11: the text's length, with place 0; 15: the row of a name is no text
    ∷ takes_text (ascii "A=\"Jupi-\r\nter\" END") text_table 5 (before 6) (says 11 0 7) (before 6)
    ∷ takes_text (ascii "A=\"Jupi-\r\nter\" END") text_table 0 (before 6) (says 15 0 0) (before 6)
    -- a lookup passes over a block whole, stays within the block of its row, and takes a closing row for one of the block it closes
    -- 15: the row of a number
    ∷ looks_up group_label group_table (ascii "a") 0 (says 0 0 20)
    ∷ looks_up group_label group_table (ascii "a") 5 (says 0 0 5)
    ∷ looks_up group_label group_table (ascii "a") 19 (says 14 0 0)
    ∷ looks_up group_label group_table (ascii "a") 10 (says 15 0 0)
    -- the name of the block, and an empty stretch at the label's start of a row that has none
    ∷ views group_label group_table 0 (to 6 7)
    ∷ views group_label group_table 19 (to 0 0)
    -- document 02 §2: rows are separated by one comma; side by side is 6 at the second row; what is no row behind a comma is 6 at its start
    ∷ reads (ascii "A=((1,2),(3)) END") (before 42) (says 0 17 41)
    (attribute_a ++ (20 ∷ 20 ∷ (integer_of 1 ++ (integer_of 2 ++ (21 ∷ 20 ∷ (integer_of 3 ++ (21 ∷ 21 ∷ (end_at 17 ++ before 1))))))))
    ∷ reads (ascii "A=((1,2)(3)) END") (before 2) (says 6 8 0) (before 2)
    ∷ reads (ascii "A=((1,2),) END") (before 2) (says 6 9 0) (before 2)
    ∷ reads (ascii "A=((1,2),,(3)) END") (before 2) (says 6 9 0) (before 2)
    ∷ reads (ascii "A=((1),2) END") (before 2) (says 6 7 0) (before 2)
    -- the writer puts `, ` between rows
    ∷ relabels (ascii "A=((1,2),(3,4)) END") (ascii "A = ((1, 2), (3, 4))\r\nEND\r\n")
    -- document 02 §4: plainly where the power is -18 to -1, with all digits and `.0` up to 18 of them, zero as `0.0`, otherwise with `E`
    ∷ relabels (ascii "A=(1.50,15E-3,-.5,1e-18,1e-19) B=(-15.,0.0E7,1e17,1e18) END")
    (ascii "A = (1.5, 0.015, -0.5, 0.000000000000000001, 1.E-19)\r\nB = (-15.0, 0.0, 100000000000000000.0, 1.E18)\r\nEND\r\n")
    -- document 02 §6: the mark behind the offset: 0 no zone, 1 Z, 2 a signed zone, `+0` too; 0 where there is no time
    ∷ reads (ascii "A=(10:00,10:00Z,10:00+0,10:00-00:30,1990-07) END") (before 91) (says 0 48 90)
    (attribute_a ++ (20 ∷ (at_ten 0 0 0 ++ (at_ten 0 0 1 ++ (at_ten 0 0 2 ++ (at_ten 255 226 2 ++ (seventh 0 ++ (21 ∷ (end_at 48 ++ before 1)))))))))
    -- a written time ends in Z or a signed zone, whatever the mark
    ∷ writes (ascii "A=10:00 END") (attribute_a ++ (at_ten 0 0 0 ++ end_at 11)) (before 21) (says 0 20 20) (ascii "A = 10:00:00Z\r\nEND\r\n" ++ before 1)
    ∷ writes (ascii "A=10:00 END") (attribute_a ++ (at_ten 0 0 1 ++ end_at 11)) (before 21) (says 0 20 20) (ascii "A = 10:00:00Z\r\nEND\r\n" ++ before 1)
    ∷ writes (ascii "A=10:00 END") (attribute_a ++ (at_ten 0 0 2 ++ end_at 11)) (before 21) (says 0 20 20) (ascii "A = 10:00:00Z\r\nEND\r\n" ++ before 1)
    -- 12: a mark of 0 or 1 with an offset, one above 2, one on a date
    ∷ writes (ascii "A=10:00 END") (attribute_a ++ (at_ten 255 226 0 ++ end_at 11)) (before 2) (says 12 5 0) (before 2)
    ∷ writes (ascii "A=10:00 END") (attribute_a ++ (at_ten 255 226 1 ++ end_at 11)) (before 2) (says 12 5 0) (before 2)
    ∷ writes (ascii "A=10:00 END") (attribute_a ++ (at_ten 0 0 3 ++ end_at 11)) (before 2) (says 12 5 0) (before 2)
    ∷ writes (ascii "A=10:00 END") (attribute_a ++ (seventh 1 ++ end_at 11)) (before 2) (says 12 5 0) (before 2)
    ∷ writes (ascii "A=10:00 END") (attribute_a ++ (seventh 2 ++ end_at 11)) (before 2) (says 12 5 0) (before 2)
    -- document 02 §6: no zone, Z and `+0` are written alike
    ∷ relabels (ascii "A=(10:00,10:00z,10:00+0,10:00-00:30) END") (ascii "A = (10:00:00Z, 10:00:00Z, 10:00:00Z, 10:00:00-00:30)\r\nEND\r\n")
    -- document 02 §1: a session counts under the weekday of the date as written, the day of year too; 1979-07-08 is a Sunday
    ∷ takes (sessions 5 6 7) (ascii "START_TIME=1979-07-08 END") (before 25) (says 0 25 24) (sessions 5 7 7) (start-on-sunday ++ (end_at 25 ++ before 1))
    ∷ takes (sessions 5 6 7) (ascii "Start_Time=1979-189 END") (before 24) (says 0 23 24) (sessions 5 7 7) (start-on-sunday ++ end_at 23)
    -- an empty book is one of eight zeros, and the sum 999,999 lets one in
    ∷ takes empty (ascii "END") (before 4) (says 0 3 3) (sessions 0 0 1) (end_at 3 ++ before 1)
    ∷ takes (sessions 999999 0 0) (ascii "START_TIME=1979-07-08 END") (before 24) (says 0 25 24) (sessions 999999 1 0) (start-on-sunday ++ end_at 25)
    -- then 16, book full; before it the reader's own refusals, 11 among them; book and room unchanged
    ∷ takes (sessions 1000000 0 0) (ascii "START_TIME=1979-07-08 END") (before 24) (says 16 0 0) (sessions 1000000 0 0) (before 24)
    ∷ takes (sessions 1000000 0 0) (ascii "START_TIME=1979-07-08 END") (before 23) (says 11 25 24) (sessions 1000000 0 0) (before 23)
    ∷ takes (sessions 1000000 0 0) (ascii "START_TIME=1979-07-08") (before 24) (says 10 21 0) (sessions 1000000 0 0) (before 24)
    ∷ takes (sessions 5 6 7) (ascii "START_TIME=1979-07-08") (before 24) (says 10 21 0) (sessions 5 6 7) (before 24)
    ∷ takes (sessions 5 6 7) (ascii "START_TIME=1979-07-08 END") (before 23) (says 11 25 24) (sessions 5 6 7) (before 23)
    ∷ takes (sessions 1 2 999997) (ascii "END") (before 3) (says 16 0 0) (sessions 1 2 999997) (before 3)
    ∷ takes (sessions 0 4294967295 4294967295) (ascii "END") (before 3) (says 16 0 0) (sessions 0 4294967295 4294967295) (before 3)
    -- the offset is not applied; the first top-level START_TIME; a single value with a date
    ∷ counts "START_TIME=1979-07-08T23:30-12 END" 7
    ∷ counts "START_TIME=1979-07-08T00:30+12 END" 7
    ∷ counts "START_TIME=1979-07-09 START_TIME=1979-07-08 END" 1
    ∷ counts "START_TIME=10:00 START_TIME=1979-07-08 END" 8
    ∷ counts "OBJECT=A START_TIME=1979-07-09 END_OBJECT START_TIME=1979-07-08 END" 7
    ∷ counts "OBJECT=A START_TIME=1979-07-08 END_OBJECT END" 8
    ∷ counts "GROUP=START_TIME START_TIME=1979-07-08 END_GROUP END" 8
    ∷ counts "^START_TIME=1979-07-08 START_TIMES=1979-07-08 END" 8
    ∷ counts "START_TIME=(1979-07-08) END" 8
    ∷ counts "START_TIME={1979-07-08} END" 8
    ∷ counts "START_TIME=\"1979-07-08\" END" 8
    -- leap days, and the first and the last day of the calendar
    ∷ counts "START_TIME=2000-02-29 END" 2
    ∷ counts "START_TIME=1900-03-01 END" 4
    ∷ counts "START_TIME=0001-01-01 END" 1
    ∷ counts "START_TIME=9999-12-31 END" 5
    -- the paper's example of relabel, its real as document 02 §4 writes it
    ∷ relabels (ascii "object = cam /* rig 4 */ ignored\n start = 1990-158T15:24:12\n hold = 1.50 <sec**1>\nend_object\nEND\n")
    (ascii "OBJECT = CAM\r\n  START = 1990-06-07T15:24:12Z\r\n  HOLD = 1.5 <SEC>\r\nEND_OBJECT = CAM\r\nEND\r\n")
    ∷ []

-- a label is read, and its table written into any room that is long enough
pub record Relabelled (label after : List ℕ) : Type 0 where
  pub rows : List Row
  pub past : ℕ
  pub read : Reads base label (accepted rows past)
  pub written : (room : List ℕ) → length after ≤ length room →
      Writes label (table rows) room (says 0 (length after) (length after)) (filled after room)

-- what the rules say of each
abbrev pub CallHolds : Call → Type 0
CallHolds (reads label room s after) = Answered base label room s after
CallHolds (writes label lent room s after) = Writes label lent room s after
CallHolds (takes_text label lent row room s after) = Texted label lent row room s after
CallHolds (looks_up label lent name row s) = Sought label lent name row s
CallHolds (views label lent row p) = Viewed label lent row p
CallHolds (takes b label room s b' after) = Takes b label room s b' after
CallHolds (counts label n) = Session (ascii label) n
CallHolds (relabels label after) = Relabelled label after

-- and of all
abbrev pub CallsHold : List Call → Type 0
CallsHold [] = Unit {0}
CallsHold (x ∷ xs) = CallHolds x × CallsHold xs
