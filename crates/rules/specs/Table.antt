-- The table: the bytes of each row.
use Rattle.std.specs.Prelude.{ℕ, suc, ◌-◌, ◌^◌, ◌/◌, ◌%◌, cond, List, [], ◌∷◌, ◌++◌}
use Rattle.rules.specs.Data.{Span, Whole, Moment, Kind, object, group, Op, first, times, divided}
use Rattle.rules.specs.Data.{Row, attribute, pointer, opened, closed, an_integer, a_real, a_moment, a_text, a_symbol, a_unit}
use Rattle.rules.specs.Data.{sequence, sequence_end, set, set_end, last}

-- Numbers are high byte first: a number in so many bytes.
abbrev pub bytes : ℕ → ℕ → List ℕ
bytes ℕ.zero n = []
bytes (suc k) n = (n / 256 ^ k) % 256 ∷ bytes k n

-- signed ones in two's complement
abbrev pub complement : ℕ → Whole → List ℕ
complement k w = bytes k (cond w.minus (256 ^ k - w.size) w.size)

-- A span is start and end, two bytes each, quotes left out.
abbrev pub span : Span → List ℕ
span p = bytes 2 p.from ++ bytes 2 p.upto

-- 3, 5: OBJECT, GROUP
abbrev pub open_kind : Kind → ℕ
open_kind object = 3
open_kind group = 5

-- 4, 6: end of OBJECT, of GROUP
abbrev pub close_kind : Kind → ℕ
close_kind object = 4
close_kind group = 6

-- 0 first, 1 times, 2 divided
abbrev pub op_number : Op → ℕ
op_number first = 0
op_number times = 1
op_number divided = 2

-- parts 1 (1 date, 2 time, 3 both), year 2, month, day, hour, minute, second 1 each, nanoseconds 4, offset 2.
-- Document 02 §6: one more byte, after the offset: 0 no zone, 1 Z, 2 a signed zone. Its body is now 15 bytes.
abbrev pub encode_moment : Moment → List ℕ
encode_moment t =
    t.parts ∷ (bytes 2 t.year ++ (t.month ∷ t.day ∷ t.hour ∷ t.minute ∷ t.second
    ∷ (bytes 4 t.nanoseconds ++ (complement 2 t.offset ++ (t.mark ∷ [])))))

-- Each row is one byte of kind, then a body whose length the kind fixes.
abbrev pub encode : Row → List ℕ
-- 1, 2, 3, 5: attribute, pointer, OBJECT, GROUP: span, 4. 4, 6: end of OBJECT, of GROUP: 0
encode (attribute p) = 1 ∷ span p
encode (pointer p) = 2 ∷ span p
encode (opened k p) = open_kind k ∷ span p
encode (closed k) = close_kind k ∷ []
-- 10: integer, 8. 11: real: number 8, power 2. 12: date or time, 15
encode (an_integer w) = 10 ∷ complement 8 w
encode (a_real x) = 11 ∷ (complement 8 x.number ++ complement 2 x.power)
encode (a_moment t) = 12 ∷ encode_moment t
-- 13, 14: text, symbol: span, 4. 15: unit, after its number: 0 first, 1 times, 2 divided: 1; span 4; exponent 1
encode (a_text p) = 13 ∷ span p
encode (a_symbol p) = 14 ∷ span p
encode (a_unit op p w) = 15 ∷ op_number op ∷ (span p ++ complement 1 w)
-- 20, 21, 22, 23: sequence, its end, set, its end: 0
encode sequence = 20 ∷ []
encode sequence_end = 21 ∷ []
encode set = 22 ∷ []
encode set_end = 23 ∷ []
-- 99: last row: offset just past END, 2
encode (last n) = 99 ∷ bytes 2 n

-- the rows one behind the other
abbrev pub table : List Row → List ℕ
table [] = []
table (r ∷ rs) = encode r ++ table rs
