-- The weekday by arithmetic, over years that begin with March.
use Rattle.std.specs.Prelude.{ℕ, ◌+◌, ◌-◌, ◌*◌, ◌/◌, ◌%◌}

-- 1 Monday to 7 Sunday, of a day d of a month, with f days of the year y before that month
abbrev pub weekday_of : ℕ → ℕ → ℕ → ℕ
weekday_of y f d = 1 + (365 * y + y / 4 - y / 100 + y / 400 + f + d + 1) % 7

-- January and February are the last months of the year before; 400 years are whole weeks.
abbrev pub weekday_by : ℕ → ℕ → ℕ → ℕ
weekday_by y m d = weekday_of (y + 399 + (m + 9) / 12) ((153 * ((m + 9) % 12) + 2) / 5) d
