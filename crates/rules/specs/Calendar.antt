-- Document 02 §1: Gregorian weekdays. The weekday of a day, by counting days.
use Rattle.std.specs.Prelude.{ℕ, zero, suc, ◌+◌, ◌%◌, cond, ltb, eqb}
use Rattle.rules.specs.Values.{leap, month_length, Day}

-- a day by its year, month and day of the month
abbrev pub dated : ℕ → ℕ → ℕ → Day
dated y m d = record { year = y; month = m; day = d }

-- the days of a year
abbrev pub year_length : ℕ → ℕ
year_length y = cond (leap y) 366 365

-- the days of the years before a year, from the year 0 on
unfoldable pub days_of_years : ℕ → ℕ
days_of_years zero = 0
days_of_years (suc y) = days_of_years y + year_length y

-- the days of the months before a month, in a year; there is no month 0
unfoldable pub days_of_months : ℕ → ℕ → ℕ
days_of_months y zero = 0
days_of_months y (suc m) = days_of_months y m + month_length y m

-- the number of a day: the first day of the year 0 has number 1
abbrev pub day_number : Day → ℕ
day_number x = days_of_years x.year + days_of_months x.year x.month + x.day

-- 1 Monday to 7 Sunday. 1979-07-08 is a Sunday, and so the day with number 1 is a Saturday.
abbrev pub weekday : Day → ℕ
weekday x = 1 + (day_number x + 4) % 7

-- ---- what fixes the weekday of every day (proofs/Book/Calendar): 1979-07-08 is a Sunday, and the day after a day has the weekday after

-- the day after a day
abbrev pub day_after : Day → Day
day_after x =
    cond (ltb x.day (month_length x.year x.month)) (dated x.year x.month (x.day + 1))
    (cond (ltb x.month 12) (dated x.year (x.month + 1) 1) (dated (x.year + 1) 1 1))

-- the weekday after a weekday
abbrev pub weekday_after : ℕ → ℕ
weekday_after w = cond (eqb w 7) 1 (w + 1)
