-- Terms of the contracts of times: the nanoseconds, and a moment with its zone or with its whole time.
use Rattle.std.specs.Prelude.{ℕ, ◌-◌, ◌*◌, ◌^◌, ◌≤◌, Bool, cond, ◌≡◌, List, leb, length}
use Rattle.std.proofs.Math.Option.{Option, none, some}
use Rattle.std.specs.Prelude as std
use Rattle.rules.specs.Bytes.{All, digit}
use Rattle.rules.specs.Data.{Moment, moment}
use Rattle.rules.specs.Values.{number, significant, within, Day, Zone, zone_kept, offset_of, mark_of, Time, time_kept, at}
use Rattle.rules.specs.Values.{Written, an_identifier, a_whole, a_based, a_decimal, a_date, a_time, a_date_time, a_range}
use Rattle.rules.proofs.Machine.Words.{limited}
use Rattle.words.specs.declared.Moment as code
use Rattle.words.specs.Says.{Answer, verdict_of}
use Rattle.words.specs.Days.{year_of}

-- the rules' nanoseconds, of at most 9 decimals
abbrev pub nanos : List ℕ → ℕ
nanos ds = number (significant ds) * 10 ^ (9 - length (significant ds))

-- none where the decimals are more
unfoldable pub nanos_of : List ℕ → std.Option ℕ
nanos_of ds = cond (leb (length (significant ds)) 9) (std.Some (nanos ds)) std.None

-- a moment of the code with another offset and mark
abbrev pub with_offset : code.Moment → Bool → ℕ → ℕ → code.Moment
with_offset x west n k = record {
  parts = x.parts;
  year = x.year;
  month = x.month;
  day = x.day;
  hour = x.hour;
  minute = x.minute;
  second = x.second;
  nanoseconds = x.nanoseconds;
  west = west;
  offset = n;
  mark = k;
}

-- a moment of the code as the rules hold it, in a zone
abbrev pub moment_in : code.Moment → Zone → Moment
moment_in x z = record {
  parts = x.parts;
  year = x.year;
  month = x.month;
  day = x.day;
  hour = x.hour;
  minute = x.minute;
  second = x.second;
  nanoseconds = x.nanoseconds;
  offset = offset_of z;
  mark = mark_of z;
}

-- the answer to a moment of which all but the zone is kept
pub record InZone (x : code.Moment) (z : Zone) (r : Answer) : Type 0 where
  pub worth : (w : List ℕ) (off : Bool) → limited (within (zone_kept z) (moment (moment_in x z))) ≡ verdict_of w off r

-- the answer to a time
pub record Timed (parts : ℕ) (d : Day) (t : Time) (r : Answer) : Type 0 where
  pub worth : (w : List ℕ) (off : Bool) → limited (within (time_kept t) (moment (at parts d t))) ≡ verdict_of w off r

-- the digits of what is written, as far as a value needs them: a year of at most four, and decimals of nothing else
abbrev pub InDigits : Written → Type 0
InDigits (an_identifier n) = Unit
InDigits (a_whole n) = Unit
InDigits (a_based r neg ds) = Unit
InDigits (a_decimal neg ds fs z) = Unit
InDigits (a_date d) = year_of d ≤ 9999
InDigits (a_time t) = All digit t.second.decimals
InDigits (a_date_time d t) = (year_of d ≤ 9999) × All digit t.second.decimals
InDigits (a_range lo hi) = Unit

-- of what is written, where anything is
abbrev pub WrittenInDigits : Option Written → Type 0
WrittenInDigits none = Unit
WrittenInDigits (some v) = InDigits v
