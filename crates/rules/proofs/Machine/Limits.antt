-- The limits of values: what numbers, dates and times elements and rows can have; and the rows whose fields hold them.
use Prim.Native.Nat.{ℕ, ◌≤◌, ◌<◌, ◌%◌, ◌^◌}
use mathlib.Core.Path.{◌≡◌}
use mathlib.Core.Bool.{false}
use mathlib.Core.Logic.{◌⊎◌}
use Rattle.rules.specs.Data.{Whole, Real, Moment, Elem, name, the, end, integer, based, real, moment, range, text, symbol, Placed, ◌on◌, RowOf, attribute, pointer, opened, closed, an_integer, a_real, a_moment, a_text, a_symbol, a_unit, sequence, sequence_end, set, set_end, last, Span, Row}
use Rattle.rules.specs.Values.{month_length}

-- below a limit, and minus zero is zero
pub record Within (limit : ℕ) (w : Whole) : Type 0 where
  pub below : w.size < limit
  pub zero_plain : w.size ≡ 0 → w.minus ≡ false

-- no trailing zero in the number; zero has power 0
pub record RealHeld (x : Real) : Type 0 where
  pub number : Within (10 ^ 18) x.number
  pub power : Within 1000 x.power
  pub no_trailing_zero : x.number.size % 10 ≡ 0 → (x.number.size ≡ 0) × (x.power.size ≡ 0)

-- a date; a time
pub record Dated (t : Moment) : Type 0 where
  pub year_least : 0 < t.year
  pub year_most : t.year < 10000
  pub month_least : 0 < t.month
  pub month_most : t.month < 13
  pub day_least : 0 < t.day
  pub day_most : t.day ≤ month_length t.year t.month

-- a mark and the size of an offset: a signed zone, or none or Z with offset 0
abbrev pub Marked : ℕ → ℕ → Type 0
Marked k n = (k ≡ 2) ⊎ ((k < 2) × (n ≡ 0))

pub record Timed (t : Moment) : Type 0 where
  pub hour_most : t.hour < 24
  pub minute_most : t.minute < 60
  pub second_most : t.second < 60
  pub nanoseconds_most : t.nanoseconds < 10 ^ 9
  pub offset_most : Within 780 t.offset
  pub marked : Marked t.mark t.offset.size

-- an absent part is all 0
pub record Undated (t : Moment) : Type 0 where
  pub year : t.year ≡ 0
  pub month : t.month ≡ 0
  pub day : t.day ≡ 0

pub record Untimed (t : Moment) : Type 0 where
  pub hour : t.hour ≡ 0
  pub minute : t.minute ≡ 0
  pub second : t.second ≡ 0
  pub nanoseconds : t.nanoseconds ≡ 0
  pub offset : t.offset ≡ record { minus = false; size = 0 }
  pub mark : t.mark ≡ 0

pub data MomentHeld (t : Moment) : Type 0 where
  date_alone : t.parts ≡ 1 → Dated t → Untimed t → MomentHeld t
  time_alone : t.parts ≡ 2 → Undated t → Timed t → MomentHeld t
  date_and_time : t.parts ≡ 3 → Dated t → Timed t → MomentHeld t

-- what a word can be
abbrev pub Worded : Elem → Type 0
Worded (name n) = Unit {0}
Worded (the f) = Unit {0}
Worded (end b) = Unit {0}
Worded (integer w) = Within (2 ^ 63) w
Worded (based w) = Within (2 ^ 63) w
Worded (real x) = RealHeld x
Worded (moment t) = MomentHeld t
Worded (range lo hi) = Within (2 ^ 63) lo × Within (2 ^ 63) hi
Worded text = ⊥
Worded symbol = ⊥

-- what an element can be
abbrev pub Possible : Elem → Type 0
Possible (name n) = Unit {0}
Possible (the f) = Unit {0}
Possible (end b) = Unit {0}
Possible (integer w) = Within (2 ^ 63) w
Possible (based w) = Within (2 ^ 63) w
Possible (real x) = RealHeld x
Possible (moment t) = MomentHeld t
Possible (range lo hi) = Within (2 ^ 63) lo × Within (2 ^ 63) hi
Possible text = Unit {0}
Possible symbol = Unit {0}

abbrev pub PossibleAt : Placed → Type 0
PossibleAt (e on p) = Possible e

-- the values of rows
abbrev pub Valued : {S L : Type 0} → RowOf S L ℕ → Type 0
Valued (attribute p) = Unit {0}
Valued (pointer p) = Unit {0}
Valued (opened k p) = Unit {0}
Valued (closed k) = Unit {0}
Valued (an_integer w) = Within (2 ^ 63) w
Valued (a_real x) = RealHeld x
Valued (a_moment t) = MomentHeld t
Valued (a_text p) = Unit {0}
Valued (a_symbol p) = Unit {0}
Valued (a_unit op p w) = Within 100 w
Valued sequence = Unit {0}
Valued sequence_end = Unit {0}
Valued set = Unit {0}
Valued set_end = Unit {0}
Valued (last n) = Unit {0}

-- a span that two bytes each hold
pub record Short (p : Span) : Type 0 where
  pub from_short : p.from < 65536
  pub upto_short : p.upto < 65536

-- the rows that `encode` keeps: each number has room in its bytes
abbrev pub Codes : Row → Type 0
Codes (attribute p) = Short p
Codes (pointer p) = Short p
Codes (opened k p) = Short p
Codes (closed k) = Unit {0}
Codes (an_integer w) = Within (2 ^ 63) w
Codes (a_real x) = Within (2 ^ 63) x.number × Within (2 ^ 15) x.power
Codes (a_moment t) = (t.year < 65536) × (t.nanoseconds < 2 ^ 32) × Within (2 ^ 15) t.offset
Codes (a_text p) = Short p
Codes (a_symbol p) = Short p
Codes (a_unit op p w) = Short p × Within (2 ^ 7) w
Codes sequence = Unit {0}
Codes sequence_end = Unit {0}
Codes set = Unit {0}
Codes set_end = Unit {0}
Codes (last n) = n < 65536
