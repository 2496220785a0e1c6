-- Where the parts of a form stand in its word, by places alone: each run is as long as it can be, and begins where the part before it ends.
-- What is not written is 0 up to 0. `..To` says up to which place a part goes, with all that stands before it.
use Rattle.std.specs.Prelude.{ℕ, ◌+◌, ◌-◌, ◌<◌, Bool, true, false, ◌≡◌, List, length, get_or, Option, Some, None}
use Prim.Native.Char.{code as byte}
use Rattle.rules.specs.Bytes.{digit, alnum, front, between}
use Rattle.classes.specs.Places.{EndsAt}
use Rattle.forms.specs.declared.Span.{Span}
use Rattle.forms.specs.declared.Date.{Date}
use Rattle.forms.specs.declared.Date.TheVariants.{InYear, InMonth}
use Rattle.forms.specs.declared.Clock.{Clock}
use Rattle.forms.specs.declared.Stamp.{Stamp}
use Rattle.forms.specs.declared.Stamp.TheVariants.{Undated, Dated}
use Rattle.forms.specs.declared.Zone.TheVariants.{NoZone, Utc, Offset}
use Rattle.forms.specs.declared.Form.{Form}
use Rattle.forms.specs.declared.Form.TheVariants.{Name, Whole, Radix, Decimal, Day, Moment}

-- what the code answers of a word: its form, if it has one
abbrev pub Answer : Type 0
Answer = Option Form

-- a span of the code
abbrev pub piece : ℕ → ℕ → Span
piece a e = record { from = a; upto = e }

-- of what is not written
abbrev pub absent : Span
absent = piece 0 0

-- digits, as many as there are
abbrev pub DigitsTo : List ℕ → ℕ → ℕ → Type 0
DigitsTo w a e = EndsAt (front digit) w a e

-- the bytes between two places, if they are 1 at least and `most` at most
pub data Between (a e most : ℕ) : Option Span → Type 0 where
  as_many : between 1 most (e - a) ≡ true → Between a e most (Some (piece a e))
  not_as_many : between 1 most (e - a) ≡ false → Between a e most None

-- the digits from a place on, if they are 1 at least and `most` at most
pub data DigitsAt (w : List ℕ) (a most : ℕ) : Option Span → Type 0 where
  digits_at : {e : ℕ} {s : Option Span} → DigitsTo w a e → Between a e most s → DigitsAt w a most s

-- behind the one byte after a part
pub data Behind (P : ℕ → Type 0) : ℕ → Type 0 where
  behind : {e : ℕ} → P e → Behind P (e + 1)

-- a sign, or none
pub data SignTo (w : List ℕ) (at : ℕ) : Bool → ℕ → Type 0 where
  a_minus : get_or w at 0 ≡ byte "-" → SignTo w at true (at + 1)
  a_plus : get_or w at 0 ≡ byte "+" → SignTo w at false (at + 1)
  no_sign : (get_or w at 0 ≡ byte "-" → ⊥) → (get_or w at 0 ≡ byte "+" → ⊥) → SignTo w at false at

-- ---- numbers

-- the radix of a based integer
pub data RadixTo (w : List ℕ) : Span → ℕ → Type 0 where
  radix_to : {e : ℕ} → DigitsTo w 0 e → RadixTo w (piece 0 e) e

-- the digits of a based integer begin behind its sign
pub data BasedTo (w : List ℕ) : Span → Bool → ℕ → Type 0 where
  based_to : {r : Span} {neg : Bool} {a b : ℕ} → Behind (RadixTo w r) a → SignTo w a neg b → BasedTo w r neg b

-- the digits of a real, with a period or without
pub data MantissaTo (w : List ℕ) : Bool → Span → Span → ℕ → Type 0 where
  pointed_to : {neg : Bool} {a d e : ℕ} → SignTo w 0 neg a → DigitsTo w a d → get_or w d 0 ≡ byte "." → DigitsTo w (d + 1) e →
      MantissaTo w neg (piece a d) (piece (d + 1) e) e
  bare_to : {neg : Bool} {a e : ℕ} → SignTo w 0 neg a → DigitsTo w a e → (get_or w e 0 ≡ byte "." → ⊥) → MantissaTo w neg (piece a e) absent e

-- the digits of an exponent begin behind its sign
pub data PowerTo (w : List ℕ) : Bool → Span → Span → Bool → ℕ → Type 0 where
  power_to : {neg below : Bool} {ds fs : Span} {a b : ℕ} → Behind (MantissaTo w neg ds fs) a → SignTo w a below b →
      PowerTo w neg ds fs below b

-- ---- dates and times

-- the month of a date, whose year and hyphen are the first five bytes
pub data MonthTo (w : List ℕ) : Span → ℕ → Type 0 where
  month_to : {e : ℕ} → DigitsTo w 5 e → get_or w e 0 ≡ byte "-" → MonthTo w (piece 5 e) e

pub data DateTo (w : List ℕ) : Date → ℕ → Type 0 where
  year_to : {e : ℕ} → DigitsTo w 5 e → (get_or w e 0 ≡ byte "-" → ⊥) → DateTo w (InYear (piece 5 e)) e
  day_to : {m : Span} {a e : ℕ} → Behind (MonthTo w m) a → DigitsTo w a e → DateTo w (InMonth m (piece a e)) e

-- up to where the hour begins: behind T, or at the front
pub data StampTo (w : List ℕ) : Stamp → ℕ → Type 0 where
  undated_to : StampTo w Undated 0
  dated_to : {d : Date} {a : ℕ} → Behind (DateTo w d) a → StampTo w (Dated d) a

pub data HourTo (w : List ℕ) : Stamp → Span → ℕ → Type 0 where
  hour_to : {s : Stamp} {a e : ℕ} → StampTo w s a → DigitsTo w a e → HourTo w s (piece a e) e

pub data MinuteTo (w : List ℕ) : Stamp → Span → Span → ℕ → Type 0 where
  minute_to : {s : Stamp} {h : Span} {a e : ℕ} → Behind (HourTo w s h) a → DigitsTo w a e → MinuteTo w s h (piece a e) e

pub data SecondTo (w : List ℕ) : Stamp → Span → Span → Span → ℕ → Type 0 where
  second_to : {s : Stamp} {h m : Span} {a e : ℕ} → MinuteTo w s h m a → get_or w a 0 ≡ byte ":" → DigitsTo w (a + 1) e →
      SecondTo w s h m (piece (a + 1) e) e

pub data ClockTo (w : List ℕ) : Stamp → Clock → ℕ → Type 0 where
  minutes_to : {s : Stamp} {h m : Span} {e : ℕ} → MinuteTo w s h m e → (get_or w e 0 ≡ byte ":" → ⊥) →
      ClockTo w s (record { hour = h; minute = m; second = absent; decimals = absent }) e
  seconds_to : {s : Stamp} {h m x : Span} {e : ℕ} → SecondTo w s h m x e → (get_or w e 0 ≡ byte "." → ⊥) →
      ClockTo w s (record { hour = h; minute = m; second = x; decimals = absent }) e
  decimals_to : {s : Stamp} {h m x : Span} {a e : ℕ} → SecondTo w s h m x a → get_or w a 0 ≡ byte "." → DigitsTo w (a + 1) e →
      ClockTo w s (record { hour = h; minute = m; second = x; decimals = piece (a + 1) e }) e

-- the sign of an offset, behind the clock
pub data OffsetTo (w : List ℕ) (s : Stamp) (c : Clock) : Bool → ℕ → Type 0 where
  offset_to : {west : Bool} {e a : ℕ} → ClockTo w s c e → SignTo w e west a → e < a → OffsetTo w s c west a

-- ---- all forms

-- where the spans of a form stand
pub data Laid (w : List ℕ) : Answer → Type 0 where
  no_form : Laid w None
  name : Laid w (Some Name)
  whole : {neg : Bool} {a e : ℕ} → SignTo w 0 neg a → DigitsTo w a e → Laid w (Some (Whole neg (piece a e)))
  radix : {r : Span} {neg : Bool} {a e : ℕ} → BasedTo w r neg a → EndsAt (front alnum) w a e → Laid w (Some (Radix r neg (piece a e)))
  unscaled : {neg : Bool} {ds fs : Span} {e : ℕ} → MantissaTo w neg ds fs e → e ≡ length w → Laid w (Some (Decimal neg ds fs false absent))
  scaled : {neg below : Bool} {ds fs : Span} {a e : ℕ} → PowerTo w neg ds fs below a → DigitsTo w a e →
      Laid w (Some (Decimal neg ds fs below (piece a e)))
  day : {d : Date} {e : ℕ} → DateTo w d e → Laid w (Some (Day d))
  no_zone : {s : Stamp} {c : Clock} {e : ℕ} → ClockTo w s c e → e ≡ length w → Laid w (Some (Moment s c NoZone))
  by_z : {s : Stamp} {c : Clock} {a : ℕ} → Behind (ClockTo w s c) a → a ≡ length w → Laid w (Some (Moment s c Utc))
  by_hour : {s : Stamp} {c : Clock} {west : Bool} {a e : ℕ} → OffsetTo w s c west a → DigitsTo w a e → e ≡ length w →
      Laid w (Some (Moment s c (Offset west (piece a e) absent)))
  by_minute : {s : Stamp} {c : Clock} {west : Bool} {a e b : ℕ} → OffsetTo w s c west a → DigitsTo w a e → DigitsTo w (e + 1) b →
      Laid w (Some (Moment s c (Offset west (piece a e) (piece (e + 1) b))))
