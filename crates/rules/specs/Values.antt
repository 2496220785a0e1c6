-- What a word stands for, as it is written, and the limits: the value, or none where it is past one.
use Rattle.std.specs.Prelude.{ℕ, ◌+◌, ◌-◌, ◌*◌, ◌^◌, ◌%◌, Bool, true, false, cond, not, ◌&&◌, ◌||◌, List, [], ◌∷◌, ◌++◌, leb, ltb, eqb, length, get_or}
use Rattle.std.proofs.Math.Option.{Option, none, some}
use Rattle.rules.specs.Bytes.{ascii, between, digit, fold}
use Rattle.rules.specs.Data.{Whole, Real, Moment, Name, OBJECT, END_OBJECT, GROUP, END_GROUP, BEGIN_OBJECT, BEGIN_GROUP, Elem, name}
use Rattle.rules.specs.Data.{the, end, integer, based, real, moment, range}
use Rattle.rules.specs.Modes.{Mode}

-- ---- what is written

-- a date as it is written: with the day of the year, or with month and day
pub data Date : Type 0 where
  -- One hyphen means day of year, two mean month and day.
  in_year : ℕ → ℕ → Date
  in_month : ℕ → ℕ → ℕ → Date

-- what ends a time
pub data Zone : Type 0 where
  -- no zone; Z or z
  no_zone utc : Zone
  -- A zone is a sign, hour, and optionally minute; the sign covers both. West of Greenwich or not, hours, minutes
  signed_zone : Bool → ℕ → ℕ → Zone

-- a second and its decimals
pub record Second : Type 0 where
  pub whole : ℕ
  pub decimals : List ℕ

-- hour, minute, second and zone
pub record Time : Type 0 where
  pub hour : ℕ
  pub minute : ℕ
  pub second : Second
  pub zone : Zone

-- A word has one form: what it says, before any limit.
pub data Written : Type 0 where
  -- identifier: Case is folded up.
  an_identifier : Name → Written
  -- integer, based integer: radix, minus, digits
  a_whole : Whole → Written
  a_based : ℕ → Bool → List ℕ → Written
  -- real: minus, digits before and behind the period, exponent
  a_decimal : Bool → List ℕ → List ℕ → Whole → Written
  -- date; time; date, T or t, time
  a_date : Date → Written
  a_time : Time → Written
  a_date_time : Date → Time → Written
  -- `lo..hi`, of version 1
  a_range : Whole → Whole → Written

-- the number that a string of digits stands for, after the digits that gave n
abbrev pub onto : ℕ → List ℕ → ℕ
onto n [] = n
onto n (d ∷ ds) = onto (n * 10 + (d - 48)) ds

-- the number that a string of digits stands for
abbrev pub number : List ℕ → ℕ
number ds = onto 0 ds

-- Minus zero is zero.
abbrev pub signed : Bool → ℕ → Whole
signed neg n = record { minus = neg && not (eqb n 0); size = n }

-- ---- values and limits

-- there is no value
abbrev pub absent : {A : Type 0} → Option A → Bool
absent none = true
absent (some a) = false

-- a value within its limit
abbrev pub within : {A : Type 0} → Bool → A → Option A
within true a = some a
within false a = none

-- the same bytes
abbrev pub same : List ℕ → List ℕ → Bool
same [] [] = true
same [] (b ∷ t) = false
same (a ∷ s) [] = false
same (a ∷ s) (b ∷ t) = eqb a b && same s t

-- reserved, in either case: END, OBJECT, END_OBJECT, GROUP, END_GROUP, BEGIN_OBJECT. They serve for nothing else.
-- The element of such an identifier, and of any other the one that is given; in PVL also BEGIN_GROUP is reserved.
abbrev pub reserved : Bool → Bool → Name → Option Elem → Option Elem
reserved pvl off n other =
    cond (same n (ascii "END")) (some (end off))
    (cond (same n (ascii "OBJECT")) (some (the OBJECT))
    (cond (same n (ascii "END_OBJECT")) (some (the END_OBJECT))
    (cond (same n (ascii "GROUP")) (some (the GROUP))
    (cond (same n (ascii "END_GROUP")) (some (the END_GROUP))
    (cond (same n (ascii "BEGIN_OBJECT")) (some (the BEGIN_OBJECT))
    (cond (pvl && same n (ascii "BEGIN_GROUP")) (some (the BEGIN_GROUP)) other))))))

-- identifier: At most 60 bytes.
abbrev pub name_kept : Name → Bool
name_kept n = leb (length n) 60

-- an identifier is what it is reserved for, or a name within its limit
abbrev pub named : Bool → Bool → Name → Option Elem
named pvl off n = reserved pvl off n (within (name_kept n) (name n))

-- an identifier that is not reserved
abbrev pub unreserved : Name → Bool
unreserved n = absent (reserved false true n none)

-- integer, based integer: from -(2^63 - 1) to 2^63 - 1.
abbrev pub fits : Whole → Bool
fits w = ltb w.size (2 ^ 63)

-- extended_digit ::= digit | letter. Its worth: A is 10.
abbrev pub worth : ℕ → ℕ
worth b = cond (digit b) (b - 48) (fold b - 55)

-- the number that extended digits stand for in a radix, after those that gave n
abbrev pub in_base : ℕ → ℕ → List ℕ → ℕ
in_base r n [] = n
in_base r n (d ∷ ds) = in_base r (n * r + worth d) ds

-- every byte passes the test
abbrev pub each : (ℕ → Bool) → List ℕ → Bool
each c [] = true
each c (b ∷ s) = c b && each c s

-- Radix 2 to 16; each digit below the radix.
abbrev pub radix_kept : ℕ → List ℕ → Bool
radix_kept r ds = between 2 16 r && each (λ d. ltb (worth d) r) ds

-- digits without the zeros that end them
abbrev pub significant : List ℕ → List ℕ
significant [] = []
significant (d ∷ ds) = cond (each (λ b. eqb b 48) (d ∷ ds)) [] (d ∷ significant ds)

-- z + up - down
abbrev pub moved : Whole → ℕ → ℕ → Whole
moved z up down =
    let above = up + cond z.minus 0 z.size in
    let below = down + cond z.minus z.size 0 in
    signed (ltb above below) ((above - below) + (below - above))

-- real: Held as a signed whole number times a power of ten, with no trailing zero in the number;
abbrev pub held : Bool → List ℕ → List ℕ → Whole → Real
held neg ds fs z =
    let n = significant (ds ++ fs) in
    record { number = signed neg (number n); power = moved z (length (ds ++ fs) - length n) (length fs) }

-- zero has power 0 whatever its written exponent. Number at most 999999999999999999 either side of zero, power -999 to 999.
abbrev pub real_kept : Real → Option Real
real_kept x =
    cond (eqb x.number.size 0) (some (record { number = signed false 0; power = signed false 0 }))
    (within (ltb x.number.size (10 ^ 18) && leb x.power.size 999) x)

-- Gregorian leap years.
abbrev pub leap : ℕ → Bool
leap y = (eqb (y % 4) 0 && not (eqb (y % 100) 0)) || eqb (y % 400) 0

-- the days of a month
abbrev pub month_length : ℕ → ℕ → ℕ
month_length y m =
    cond (eqb m 2 && leap y) 29
    (get_or (0 ∷ 31 ∷ 28 ∷ 31 ∷ 30 ∷ 31 ∷ 30 ∷ 31 ∷ 31 ∷ 30 ∷ 31 ∷ 30 ∷ 31 ∷ []) m 0)

-- a date: Held as year, month, day.
pub record Day : Type 0 where
  pub year : ℕ
  pub month : ℕ
  pub day : ℕ

-- the nth day of these months
abbrev pub nth_day : ℕ → List ℕ → ℕ → Option Day
nth_day y [] n = none
nth_day y (m ∷ ms) n =
    cond (leb n (month_length y m)) (some (record { year = y; month = m; day = n })) (nth_day y ms (n - month_length y m))

-- year of exactly 4 digits, 0001 to 9999: the digits are the form's. A day that the calendar has
abbrev pub day_of : Date → Option Day
day_of (in_year y n) = cond (leb 1 y && leb 1 n) (nth_day y (1 ∷ 2 ∷ 3 ∷ 4 ∷ 5 ∷ 6 ∷ 7 ∷ 8 ∷ 9 ∷ 10 ∷ 11 ∷ 12 ∷ []) n) none
day_of (in_month y m d) =
    within (leb 1 y && (between 1 12 m && between 1 (month_length y m) d)) (record { year = y; month = m; day = d })

-- A zone is a sign, hour 0-12, and optionally minute 0-59.
abbrev pub zone_kept : Zone → Bool
zone_kept no_zone = true
zone_kept utc = true
zone_kept (signed_zone west h n) = leb h 12 && leb n 59

-- hour 0-23, minute 0-59, second 0 to below 60; at most 9 decimals once trailing zeros are dropped.
abbrev pub time_kept : Time → Bool
time_kept t =
    ltb t.hour 24 && (ltb t.minute 60 && (ltb t.second.whole 60
    && (leb (length (significant t.second.decimals)) 9 && zone_kept t.zone)))

-- An absent part is all 0: no date,
abbrev pub absent_day : Day
absent_day = record { year = 0; month = 0; day = 0 }

-- and no time. Document 02 §6: the mark is 0 where there is no time, as where there is no zone.
abbrev pub absent_time : Time
absent_time = record { hour = 0; minute = 0; second = record { whole = 0; decimals = [] }; zone = no_zone }

-- Z, z and no zone all mean offset 0 (12.3.2.3). The zone is held as signed minutes, -779 to 779
abbrev pub offset_of : Zone → Whole
offset_of no_zone = signed false 0
offset_of utc = signed false 0
offset_of (signed_zone west h n) = signed west (h * 60 + n)

-- Document 02 §6: 0 no zone, 1 Z, 2 a signed zone, `+0` too
abbrev pub mark_of : Zone → ℕ
mark_of no_zone = 0
mark_of utc = 1
mark_of (signed_zone west h n) = 2

-- a date and a time as they are held
abbrev pub at : ℕ → Day → Time → Moment
at parts d t = record {
  parts = parts;
  year = d.year;
  month = d.month;
  day = d.day;
  hour = t.hour;
  minute = t.minute;
  second = t.second.whole;
  nanoseconds = number (significant t.second.decimals) * 10 ^ (9 - length (significant t.second.decimals));
  offset = offset_of t.zone;
  mark = mark_of t.zone;
}

-- of a value, what is made of it; of none, none
abbrev pub then : {A B : Type 0} → Option A → (A → Option B) → Option B
then none f = none
then (some a) f = f a

-- the element that is written, unless it is past a limit; `off` says whether END is set off
abbrev pub value : Mode → Bool → Written → Option Elem
value m off (an_identifier n) = named m.pvl off n
value m off (a_whole w) = within (fits w) (integer w)
value m off (a_based r neg ds) = within (radix_kept r ds && fits (signed neg (in_base r 0 ds))) (based (signed neg (in_base r 0 ds)))
value m off (a_decimal neg ds fs z) = then (real_kept (held neg ds fs z)) (λ x. some (real x))
value m off (a_date d) = then (day_of d) (λ x. some (moment (at 1 x absent_time)))
value m off (a_time t) = within (time_kept t) (moment (at 2 absent_day t))
value m off (a_date_time d t) = then (day_of d) (λ x. within (time_kept t) (moment (at 3 x t)))
value m off (a_range lo hi) = within (fits lo && fits hi) (range lo hi)
