-- Terms of the contracts of days: the days before a month, and the day that the code has found.
use Rattle.std.specs.Prelude.{ℕ, ◌+◌, ◌-◌, ◌*◌, ◌≤◌, min, Bool, cond, ◌&&◌, ◌≡◌, List, [], ◌∷◌, eqb, get_or, take}
use Rattle.std.proofs.Math.Option.{Option, none, some}
use Rattle.std.specs.Prelude as std
use Rattle.rules.specs.Values.{leap, Day, Date, in_year, in_month, day_of}
use Rattle.words.specs.declared.days.Day as code

abbrev pub months : List ℕ
months = 1 ∷ 2 ∷ 3 ∷ 4 ∷ 5 ∷ 6 ∷ 7 ∷ 8 ∷ 9 ∷ 10 ∷ 11 ∷ 12 ∷ []

-- the rules' length of a month, of a leap year or not
abbrev pub length_in : Bool → ℕ → ℕ
length_in t m = cond (eqb m 2 && t) 29 (get_or (0 ∷ 31 ∷ 28 ∷ 31 ∷ 30 ∷ 31 ∷ 30 ∷ 31 ∷ 31 ∷ 30 ∷ 31 ∷ 30 ∷ 31 ∷ []) m 0)

-- the days of some months
abbrev pub total : Bool → List ℕ → ℕ
total t [] = 0
total t (m ∷ ms) = length_in t m + total t ms

-- the days of a year before month m, the first being month 1
unfoldable pub days_before : ℕ → ℕ → ℕ
days_before y m = total (leap y) (take (m - 1) months)

-- so many days, and about how many
pub record Before (y m r : ℕ) : Type 0 where
  pub is : r ≡ days_before y m
  pub most : r + 31 ≤ 31 * m
  pub least : 31 * m ≤ r + 38

-- a day of the code
abbrev pub day_is : code.Day → Day
day_is d = record { year = d.year; month = d.month; day = d.day }

-- a day of the code, or none where the calendar has none
abbrev pub InCalendar : Type 0
InCalendar = std.Option code.Day

-- the day that the code has found, if the calendar has it
abbrev pub day_if_any : InCalendar → Option Day
day_if_any std.None = none
day_if_any (std.Some d) = some (day_is d)

-- the answer to a year and a day of it, which is held to 10,000
pub record YearDay (y n : ℕ) (r : InCalendar) : Type 0 where
  pub day : (k : ℕ) → n ≡ min 10000 k → day_of (in_year y k) ≡ day_if_any r

-- the answer to a year, a month and a day, which are held to 10,000
pub record MonthDay (y m d : ℕ) (r : InCalendar) : Type 0 where
  pub day : (j k : ℕ) → m ≡ min 10000 j → d ≡ min 10000 k → day_of (in_month y j k) ≡ day_if_any r

-- the year of a date
abbrev pub year_of : Date → ℕ
year_of (in_year y n) = y
year_of (in_month y m d) = y
