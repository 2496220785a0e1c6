-- The form of a word, as the code finds it, against the rules' pattern for words.
use Rattle.std.specs.Prelude.{ℕ, Bool, ◌≡◌, List, [], map, ◌++◌, drop, length, Some, None}
use Rattle.std.proofs.Math.Option.{Option, none, some}
use Rattle.rules.specs.Bytes.{fold, digit, between}
use Rattle.rules.specs.Values.{Date as DateR, in_year, in_month, Zone as ZoneR, no_zone, utc, signed_zone, Second, Time, number, signed}
use Rattle.rules.specs.Values.{Written, an_identifier, a_whole, a_based, a_decimal, a_date, a_time, a_date_time}
use Rattle.rules.proofs.Machine.Patterns.{G, stop, byte, check, run, fork, matches}
use Rattle.rules.proofs.Machine.Words.{next_is, some_of, zero_or_more, sec, g_scale, g_based, g_minutes, g_days, g_zone, g_dated}
use Rattle.classes.specs.Places.{part}
use Rattle.forms.specs.Laid.{Answer, Laid}
use Rattle.forms.specs.declared.Span.{Span}
use Rattle.forms.specs.declared.Date.{Date}
use Rattle.forms.specs.declared.Date.TheVariants.{InYear, InMonth}
use Rattle.forms.specs.declared.Clock.{Clock}
use Rattle.forms.specs.declared.Zone.{Zone}
use Rattle.forms.specs.declared.Zone.TheVariants.{NoZone, Utc, Offset}
use Rattle.forms.specs.declared.Stamp.{Stamp}
use Rattle.forms.specs.declared.Stamp.TheVariants.{Undated, Dated}
use Rattle.forms.specs.declared.Form.TheVariants.{Name, Whole as WholeF, Radix, Decimal, Day, Moment}

-- the bytes of a span of the code
abbrev pub on : List ℕ → Span → List ℕ
on w p = part w p.from p.upto

-- a date of the code, whose year is the first four bytes
abbrev pub date_of : List ℕ → Date → DateR
date_of w (InYear n) = in_year (number (part w 0 4)) (number (on w n))
date_of w (InMonth m d) = in_month (number (part w 0 4)) (number (on w m)) (number (on w d))

-- a zone of the code; minutes that are not written are no bytes, and so 0
abbrev pub zone_of : List ℕ → Zone → ZoneR
zone_of w NoZone = no_zone
zone_of w Utc = utc
zone_of w (Offset west hours minutes) = signed_zone west (number (on w hours)) (number (on w minutes))

-- a time of the code, without its zone
abbrev pub clock_of : List ℕ → Clock → ZoneR → Time
clock_of w c z = record {
  hour = number (on w c.hour);
  minute = number (on w c.minute);
  second = record { whole = number (on w c.second); decimals = on w c.decimals };
  zone = z;
}

-- a time, with the date before it or none
abbrev pub stamped : List ℕ → Stamp → Time → Written
stamped w Undated t = a_time t
stamped w (Dated d) t = a_date_time (date_of w d) t

-- a time of the code, with the date before it or none
abbrev pub time_of : List ℕ → Stamp → Clock → ZoneR → Written
time_of w s c z = stamped w s (clock_of w c z)

-- what the code's answer says is written
abbrev pub written : List ℕ → Answer → Option Written
written w None = none
written w (Some Name) = some (an_identifier (map fold w))
written w (Some (WholeF neg ds)) = some (a_whole (signed neg (number (on w ds))))
written w (Some (Radix r neg ds)) = some (a_based (number (on w r)) neg (on w ds))
written w (Some (Decimal neg ds fs below x)) = some (a_decimal neg (on w ds) (on w fs) (signed below (number (on w x))))
written w (Some (Day d)) = some (a_date (date_of w d))
written w (Some (Moment s c z)) = some (time_of w s c (zone_of w z))

-- the answer to what stands from a place on: what the part of the pattern that is left finds there, and where its spans stand
pub record FormAt (g : G) (w : List ℕ) (at : ℕ) (r : Answer) : Type 0 where
  pub matched : matches g (drop at w) ≡ written w r
  pub laid : Laid w r

-- how many bytes the sign is that a byte may be, at the front of a number
pub data Signed : ℕ → ℕ → Type 0 where
  minus : {b : ℕ} → b ≡ 45 → Signed b 1
  plus : {b : ℕ} → (b ≡ 45 → ⊥) → b ≡ 43 → Signed b 1
  unsigned : {b : ℕ} → (b ≡ 45 → ⊥) → (b ≡ 43 → ⊥) → Signed b 0

-- after the seconds of a time
abbrev pub at_second : List ℕ → Stamp → Span → Span → Second → G
at_second w s h m x = g_zone (λ z. stamped w s (record { hour = number (on w h); minute = number (on w m); second = x; zone = z }))

-- after the whole seconds of a time
abbrev pub g_decimals : List ℕ → (Second → G) → G
g_decimals s k = fork (next_is 46) (byte 46 (run digit zero_or_more (λ fs. k (sec s fs)))) (k (sec s []))

-- after the day of a month
abbrev pub in_month_at : List ℕ → Span → List ℕ → G
in_month_at w m d = g_dated (in_month (number (part w 0 4)) (number (on w m)) (number d))

-- after the digits of a based integer
abbrev pub in_radix_at : List ℕ → Span → Bool → List ℕ → G
in_radix_at w r neg ds = byte 35 (stop (a_based (number (on w r)) neg ds))

-- after the digits of an exponent
abbrev pub in_power : Bool → List ℕ → List ℕ → Bool → List ℕ → G
in_power neg ds fs below x = stop (a_decimal neg ds fs (signed below (number x)))

-- after the period of a real
abbrev pub g_pointed : Bool → List ℕ → G
g_pointed neg ds = run digit zero_or_more (λ fs. check (some_of (length (ds ++ fs))) (g_scale (a_decimal neg ds fs)))

-- after digits with no sign: what no number is
abbrev pub g_plain : List ℕ → G
g_plain ds =
    fork (next_is 35) (check (some_of (length ds)) (byte 35 (g_based (number ds))))
    (fork (next_is 58) (check (between 1 2 (length ds)) (byte 58 (g_minutes ds a_time)))
    (check (between 4 4 (length ds)) (byte 45 (g_days ds))))
