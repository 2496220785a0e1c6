-- The written label, as a function of a meaning alone: what each row writes after the row before it.
use Rattle.std.specs.Prelude.{ℕ, zero, suc, ◌+◌, ◌/◌, ◌%◌, ◌^◌, Bool, cond, not, ◌&&◌, List, [], ◌∷◌, ◌++◌, map, leb, eqb, length}
use Prim.Native.Char.{code as byte}
use Rattle.rules.specs.Bytes.{ascii, fold}
use Rattle.rules.specs.Data.{Whole, Real, MomentOf, RowOf, Kind, object, group, Op, first, times, divided, Opens, outside, inside, depth}
use Rattle.rules.specs.Data.{attribute, pointer, opened, closed, an_integer, a_real, a_moment, a_text, a_symbol, a_unit, sequence}
use Rattle.rules.specs.Data.{sequence_end, set, set_end, last}
use Rattle.rules.specs.Values.{significant, name_kept, unreserved}
use Rattle.rules.specs.Words.{is_identifier}
use Rattle.rules.specs.Meaning.{Sense}

-- ---- numbers, dates and times

-- exactly so many digits, a number's last ones, with zeros before them if it has fewer: YYYY, MM, HH
unfoldable pub wide : ℕ → ℕ → List ℕ
wide zero n = []
wide (suc k) n = (48 + n / 10 ^ k % 10) ∷ wide k n

-- digits without the zeros that begin them, but for the last digit
unfoldable pub unpadded : List ℕ → List ℕ
unpadded [] = []
unpadded (d ∷ ds) = cond (eqb d (byte "0") && leb 1 (length ds)) (unpadded ds) (d ∷ ds)

-- the digits of a number below 10 ^ 20
unfoldable pub digits : ℕ → List ℕ
digits n = unpadded (wide 20 n)

-- minus only: the sign of a number
abbrev pub minus_only : Bool → List ℕ
minus_only below = cond below (ascii "-") []

-- Integers in decimal, minus only.
abbrev pub decimal : Whole → List ℕ
decimal w = minus_only w.minus ++ digits w.size

-- Document 02 §4: Where the power is -18 to -1, write it plainly with at least one digit before the period: `1.5`, `0.015`.
-- As many digits stand behind the period as the power is below 0.
abbrev pub plain_bytes : ℕ → ℕ → List ℕ
plain_bytes n places = digits (n / 10 ^ places) ++ (byte "." ∷ wide places n)

-- Where the power is 0 or more and number and zeros come to at most 18 digits, write all digits and `.0`. Zero is `0.0`.
-- `wide zeros 0` is that many zeros.
abbrev pub full_bytes : ℕ → ℕ → List ℕ
full_bytes n zeros = digits n ++ (wide zeros 0 ++ ascii ".0")

-- Otherwise as before: number, period, then `E` and power. The power is not 0 here: a number has at most 18 digits.
abbrev pub scaled_bytes : ℕ → Whole → List ℕ
scaled_bytes n power = digits n ++ (ascii ".E" ++ decimal power)

-- which of the three: by the power, and by the digits that number and zeros come to
abbrev pub unsigned_bytes : ℕ → Whole → List ℕ
unsigned_bytes n power =
    cond (power.minus && leb power.size 18) (plain_bytes n power.size)
    (cond (not power.minus && leb (length (digits n) + power.size) 18) (full_bytes n power.size)
    (scaled_bytes n power))

-- Reals: minus only, then the number and its power
abbrev pub real_bytes : Real → List ℕ
real_bytes x = minus_only x.number.minus ++ unsigned_bytes x.number.size x.power

-- Dates as YYYY-MM-DD. What stands for the mark, `M`, is not looked at, here and below.
abbrev pub date_bytes : {M : Type 0} → MomentOf M → List ℕ
date_bytes t = wide 4 t.year ++ (byte "-" ∷ (wide 2 t.month ++ (byte "-" ∷ wide 2 t.day)))

-- a fraction without trailing zeros if any,
abbrev pub fraction : List ℕ → List ℕ
fraction [] = []
fraction (b ∷ s) = byte "." ∷ b ∷ s

-- sign, HH:MM: an offset
abbrev pub offset_bytes : Whole → List ℕ
offset_bytes w = cond w.minus (byte "-") (byte "+") ∷ (wide 2 (w.size / 60) ++ (byte ":" ∷ wide 2 (w.size % 60)))

-- then Z or sign, HH:MM.
abbrev pub zone : Whole → List ℕ
zone w = cond (eqb w.size 0) (byte "Z" ∷ []) (offset_bytes w)

-- HH:MM:SS, fraction, and behind them what ends the time
abbrev pub time_bytes : {M : Type 0} → List ℕ → MomentOf M → List ℕ
time_bytes ending t =
    wide 2 t.hour ++ (byte ":" ∷ (wide 2 t.minute ++ (byte ":" ∷ (wide 2 t.second
    ++ (fraction (significant (wide 9 t.nanoseconds)) ++ ending)))))

-- Dates as YYYY-MM-DD, T, HH:MM:SS: a date, a time, or both with T between
abbrev pub date_time_bytes : {M : Type 0} → List ℕ → MomentOf M → List ℕ
date_time_bytes ending t =
    cond (eqb t.parts 1) (date_bytes t)
    (cond (eqb t.parts 2) (time_bytes ending t) (date_bytes t ++ (byte "T" ∷ time_bytes ending t)))

-- Document 02 §6: The written label still ends in Z or a signed zone, as 12.3.2.2 bids.
abbrev pub moment_bytes : {M : Type 0} → MomentOf M → List ℕ
moment_bytes t = date_time_bytes (zone t.offset) t

-- The mark that a reading gives what is written: 0 where there is no time, 1 for Z, 2 for a signed zone
abbrev pub written_mark : {M : Type 0} → MomentOf M → ℕ
written_mark t = cond (eqb t.parts 1) 0 (cond (eqb t.offset.size 0) 1 2)

-- ---- the test that a symbol stands bare by

-- an unreserved identifier of at most 60 bytes
unfoldable pub is_name : List ℕ → Bool
is_name w = is_identifier w && (unreserved (map fold w) && name_kept w)

-- ---- symbols and units

-- A symbol stands bare if it is an unreserved identifier of at most 60 bytes, else in apostrophes.
abbrev pub symbol_bytes : List ℕ → List ℕ
symbol_bytes w = cond (is_name w) w (byte "'" ∷ (w ++ ascii "'"))

-- Units: one space, `<KM*SEC**-2>`,
abbrev pub op_sign : Op → List ℕ
op_sign first = ascii " <"
op_sign times = ascii "*"
op_sign divided = ascii "/"

-- exponent 1 unwritten: the test
abbrev pub is_one : Whole → Bool
is_one w = not w.minus && eqb w.size 1

-- `**-2`: a unit's exponent
abbrev pub exponent_bytes : Whole → List ℕ
exponent_bytes w = cond (is_one w) [] (ascii "**" ++ decimal w)

-- ---- between one row and the next

-- The bytes between two rows are set by both: a comma, a space, a line's end, the `>` of units, or nothing. Each row writes what stands
-- before it, so what it needs to know of the rows before is one of these four: nothing yet, in the label or in its bracket; a line's
-- heading; a scalar, or a bracket that closes; a unit.
pub data Prior : Type 0 where
  start heading member factor : Prior

-- what each row is to the next
abbrev pub prior : {S L M : Type 0} → RowOf S L M → Prior
prior (attribute n) = heading
prior (pointer n) = heading
prior (opened k n) = heading
prior (closed k) = heading
prior (an_integer w) = member
prior (a_real x) = member
prior (a_moment t) = member
prior (a_text w) = member
prior (a_symbol w) = member
prior (a_unit op n w) = factor
prior sequence = start
prior sequence_end = member
prior set = start
prior set_end = member
prior (last n) = heading

-- `<KM*SEC**-2>`: the last unit is closed by whatever row comes next
abbrev pub units_end : Prior → List ℕ
units_end start = []
units_end heading = []
units_end member = []
units_end factor = ascii ">"

-- `NAME = value`, `(a, b)`, `((a, b), (c))`, `{a, b}`: before a value, nothing where a bracket has just opened, a space behind `NAME =`,
-- comma and space between members. Document 02 §2: The writer puts `, ` between rows, those of a sequence of sequences.
abbrev pub lead : Prior → List ℕ
lead start = []
lead heading = ascii " "
lead member = ascii ", "
lead factor = ascii ", "

-- Lines end CR LF: before a line, its predecessor's end, and nothing before the first; behind a heading where no value follows, as
-- `OBJECT = NAME`.
abbrev pub line_break : Prior → List ℕ
line_break start = []
line_break heading = 13 ∷ 10 ∷ []
line_break member = 13 ∷ 10 ∷ []
line_break factor = 13 ∷ 10 ∷ []

-- Two spaces per depth;
unfoldable pub indent : ℕ → List ℕ
indent zero = []
indent (suc d) = 32 ∷ 32 ∷ indent d

-- a new line at a depth, where a row has gone before
abbrev pub new_line : Prior → ℕ → List ℕ
new_line q d = line_break q ++ indent d

-- ---- the blocks that are open

-- the blocks around the innermost; none is around none, which no proper table comes to
abbrev pub around : Opens → Opens
around outside = outside
around (inside k n o) = o

-- the blocks that are open after a row
abbrev pub after : {L M : Type 0} → Opens → RowOf (List ℕ) L M → Opens
after o (attribute n) = o
after o (pointer n) = o
after o (opened k n) = inside k n o
after o (closed k) = around o
after o (an_integer w) = o
after o (a_real x) = o
after o (a_moment t) = o
after o (a_text w) = o
after o (a_symbol w) = o
after o (a_unit op n w) = o
after o sequence = o
after o sequence_end = o
after o set = o
after o set_end = o
after o (last n) = o

-- `OBJECT = CAM`: the word of an opening line
abbrev pub open_word : Kind → List ℕ
open_word object = ascii "OBJECT"
open_word group = ascii "GROUP"

-- `END_OBJECT = CAM`: the word of a closing line
abbrev pub close_word : Kind → List ℕ
close_word object = ascii "END_OBJECT"
close_word group = ascii "END_GROUP"

-- `END_OBJECT = CAM`: a closing line repeats the name; none is open, which no proper table comes to
abbrev pub repeats : Opens → List ℕ
repeats outside = []
repeats (inside k n o) = ascii " = " ++ n

-- ---- rows

-- what a row writes, after `q`, within the blocks `o`
abbrev pub writes : Prior → Opens → Sense → List ℕ
-- `NAME = value`, `^NAME = value`
writes q o (attribute n) = units_end q ++ (new_line q (depth o) ++ (n ++ ascii " ="))
writes q o (pointer n) = units_end q ++ (new_line q (depth o) ++ (byte "^" ∷ (n ++ ascii " =")))
-- a closing line stands at its opening line's depth and repeats the name.
writes q o (opened k n) = units_end q ++ (new_line q (depth o) ++ (open_word k ++ (ascii " = " ++ n)))
writes q o (closed k) = units_end q ++ (new_line q (depth (around o)) ++ (close_word k ++ repeats o))
-- `NAME = value`: numbers, dates and times
writes q o (an_integer w) = units_end q ++ (lead q ++ decimal w)
writes q o (a_real x) = units_end q ++ (lead q ++ real_bytes x)
writes q o (a_moment t) = units_end q ++ (lead q ++ moment_bytes t)
-- Texts on one line.
writes q o (a_text w) = units_end q ++ (lead q ++ (byte "\"" ∷ (w ++ ascii "\"")))
-- symbols and units
writes q o (a_symbol w) = units_end q ++ (lead q ++ symbol_bytes w)
writes q o (a_unit op n w) = op_sign op ++ (n ++ exponent_bytes w)
-- `(a, b)`, `((a, b), (c))`, `{a, b}`, `{}`
writes q o sequence = units_end q ++ (lead q ++ ascii "(")
writes q o sequence_end = units_end q ++ ascii ")"
writes q o set = units_end q ++ (lead q ++ ascii "{")
writes q o set_end = units_end q ++ ascii "}"
-- Last `END`.
writes q o (last n) = units_end q ++ (new_line q (depth o) ++ ascii "END")

-- what rows write, one after the other
abbrev pub writes_all : Prior → Opens → List Sense → List ℕ
writes_all q o [] = []
writes_all q o (r ∷ rs) = writes q o r ++ writes_all (prior r) (after o r) rs

-- the canonical label of a meaning: what its rows write, and the line end behind END
abbrev pub canonical : List Sense → List ℕ
canonical m = writes_all start outside m ++ (13 ∷ 10 ∷ [])
