-- Times: the nanoseconds of decimals, the limits of each part, and the zone.
use Prim.Native.Nat.{ℕ, ◌+◌, ◌-◌, ◌*◌, ◌/◌, ◌%◌, ◌^◌, ◌≤◌, ◌<◌, min}
use mathlib.Core.Bool.{Bool, true, false, cond, not, ◌&&◌, and-false}
use mathlib.Core.Path.{◌≡◌, refl, sym, ap, ◌∙◌}
use mathlib.Core.List.{List}
use native.Mathlib.Nat.{one-mul, mul-le-mul, mul-lt-mul_of_pos_right, pow-le-pow_right}
use native.Mathlib.Omega.{arith}
use borrow.Author.Tests.{eqb-true, leb-true, lt-ltb, le-ltb, le-leb, lt-leb}
use lib.Dec.{eqb, leb, ltb}
use lib.ListN.{length, take}
use lib.Pow.{pow-add}
use lib.Seq.{length-take-le}
use Rattle.rules.specs.Bytes.{All, digit}
use Rattle.rules.specs.Values.{number, onto, significant, Day, Zone as ZoneR, signed_zone, Time as TimeR, day_of, absent_day, a_date, a_date_time}
use Rattle.forms.specs.declared.Clock.{Clock}
use Rattle.forms.specs.declared.Date.{Date}
use Rattle.forms.specs.declared.Stamp.{Stamp}
use Rattle.forms.specs.declared.Stamp.TheVariants.{Undated, Dated}
use Rattle.forms.specs.declared.Span.{Span}
use Rattle.forms.specs.declared.Zone.{Zone}
use Rattle.forms.specs.declared.Zone.TheVariants.{NoZone, Utc, Offset}
use Rattle.forms.specs.Forms.{on, date_of, zone_of, clock_of, time_of}
use Rattle.words.specs.declared.days.Day as code
use Rattle.std.specs.Prelude.{Option, Some, None, Ok, Err}
use Rattle.words.proofs.Digits.{num_or, none_some}
use Rattle.words.specs.declared.Moment as code-moment
use Rattle.words.specs.declared.Value.{Value}
use Rattle.words.specs.declared.Value.TheVariants.{Time}
use Rattle.words.specs.declared.Unfit.TheVariants.{PastLimit}
use Rattle.words.specs.Says.{Answer, Worth}
use Rattle.words.specs.Parts.{Significant}
use Rattle.words.specs.Days.{day_is, InCalendar, day_if_any, year_of}
use Rattle.words.specs.Times.{nanos, nanos_of, with_offset, InZone, Timed, InDigits}
use Rattle.rules.proofs.Tables.ElementLimits.{onto_bound}
use Rattle.rules.proofs.Tables.Numbers.{pow_positive}
use Rattle.rules.proofs.Written.PrintedMoments.{significant_all}
use Rattle.rules.proofs.Tables.Tests.{check, upto}

-- ---- nanoseconds

-- the factors of a power of ten, checked for every exponent
abbrev ten : ℕ → ℕ
ten e = cond (eqb (e % 2) 1) 10 1

abbrev square : ℕ → ℕ
square e = cond (eqb (e / 2 % 2) 1) 100 1

abbrev fourth : ℕ → ℕ
fourth e = cond (eqb (e / 4 % 2) 1) 10000 1

abbrev eighth : ℕ → ℕ
eighth e = cond (eqb (e / 8) 1) 100000000 1

-- what such factors come to
small : (f : ℕ → ℕ) → check (λ i. leb (f i) 1000000000) 10 ≡ true → (e : ℕ) → e ≤ 9 → f e ≤ 1000000000
small f h e l = leb-true (f e) 1000000000 (upto (λ i. leb (f i) 1000000000) 10 h e (omega arith))

module _ (e a b : ℕ) (l : e ≤ 9) (u : a ≡ ten e) (v : b ≡ square e) where
  pub two_fit : a * b < 18446744073709551616
  two_fit = rw (u, v) (omega (arith, small (λ i. ten i * square i) refl e l))

  pub three_fit : (c : ℕ) → c ≡ fourth e → a * b * c < 18446744073709551616
  three_fit c w = rw (u, v, w) (omega (arith, small (λ i. ten i * square i * fourth i) refl e l))

  pub ten_most : (c d : ℕ) → c ≡ fourth e → d ≡ eighth e → a * b * c * d ≤ 1000000000
  ten_most c d w x = rw (u, v, w, x) (small (λ i. ten i * square i * fourth i * eighth i) refl e l)

  pub four_fit : (c d : ℕ) → c ≡ fourth e → d ≡ eighth e → a * b * c * d < 18446744073709551616
  four_fit c d w x = omega (arith, ten_most c d w x)

  pub ten_is : (c d : ℕ) → c ≡ fourth e → d ≡ eighth e → a * b * c * d ≡ 10 ^ e
  ten_is c d w x =
      rw (u, v, w, x)
      (eqb-true (ten e * square e * fourth e * eighth e) (10 ^ e) (upto (λ i. eqb (ten i * square i * fourth i * eighth i) (10 ^ i)) 10 refl e (omega arith)))

pub number_bound : {s : List ℕ} → All digit s → number s < 10 ^ length s
number_bound {s} h = rw one-mul at (onto_bound 0 1 h (omega arith))

-- at most 9 decimals are fewer than 10^9 nanoseconds
nanos_bound : (ds : List ℕ) → All digit ds → length (significant ds) ≤ 9 → nanos ds < 1000000000
nanos_bound ds h l =
    let a : number (significant ds) < 10 ^ length (significant ds) = number_bound (significant_all ds h) in
    let e : length (significant ds) + (9 - length (significant ds)) ≡ 9 = omega arith in
    let p : 10 ^ length (significant ds) * 10 ^ (9 - length (significant ds)) ≡ 1000000000 = sym (pow-add 10 (length (significant ds)) (9 - length (significant ds))) ∙ ap (λ (x : ℕ). 10 ^ x) e in
    let z : 0 < 10 ^ (9 - length (significant ds)) = pow_positive 10 (9 - length (significant ds)) (omega arith) in
    rw p at (mul-lt-mul_of_pos_right {m = number (significant ds)} {n = 10 ^ length (significant ds)} {k = 10 ^ (9 - length (significant ds))} a z)

pub too_many : (ds : List ℕ) (k : ℕ) → Significant ds k → 9 < k → None ≡ nanos_of ds
unfolding nanos_of
too_many ds k s h =
    let e : length (significant ds) ≡ k = ap length s.is ∙ length-take-le k ds s.within in
    rw (e, lt-leb k 9 h)

pub product_fits : (n t : ℕ) (s : List ℕ) → n ≡ min 1000000000 (onto 0 s) → t ≤ 1000000000 → n * t < 18446744073709551616
product_fits n t s e h =
    let p : n * t ≤ 1000000000000000000 = mul-le-mul {n₁ = n} {m₁ = t} {n₂ = 1000000000} {m₂ = 1000000000} (omega arith) h in
    omega arith

module _ (ds : List ℕ) (k n t : ℕ) (a : All digit ds) (s : Significant ds k) (h : k ≤ 9) (e : n ≡ min 1000000000 (onto 0 (take (k - 0) ds))) (f : t ≡ 10 ^ (9 - k)) where
  few_digits : length (significant ds) ≤ 9
  few_digits = omega (arith, ap length s.is ∙ length-take-le k ds s.within)

  product_is : n * t ≡ nanos ds
  product_is =
      let z : k - 0 ≡ k = omega arith in
      let l : length (significant ds) ≡ k = ap length s.is ∙ length-take-le k ds s.within in
      let b : number (significant ds) < 10 ^ length (significant ds) = number_bound (significant_all ds a) in
      let q : onto 0 (take (k - 0) ds) ≡ number (significant ds) = rw z (ap number (sym s.is)) in
      let p : 10 ^ length (significant ds) ≤ 1000000000 = pow-le-pow_right {n = 10} (omega arith) {i = length (significant ds)} {j = 9} few_digits in
      let x : n ≡ number (significant ds) = omega arith in
      let y : t ≡ 10 ^ (9 - length (significant ds)) = f ∙ ap (λ (i : ℕ). 10 ^ (9 - i)) (sym l) in
      rw (x, y)

  pub nanos_fit : n * t < 4294967296
  nanos_fit = omega (arith, product_is, nanos_bound ds a few_digits)

  pub nanos_are : Some (n * t) ≡ nanos_of ds
  unfolding nanos_of
  nanos_are = rw (le-leb (length (significant ds)) 9 few_digits, product_is)

-- ---- the zone

module _ (x : code-moment.Moment) (west : Bool) (h m : ℕ) where
  pub zone_hour : (a : ℕ) → a ≡ min 10000 h → 12 < a → InZone x (signed_zone west h m) (Err PastLimit)
  zone_hour a e k = record { worth = λ w off. rw (lt-leb h 12 (omega arith)) }

  pub zone_minute : (b : ℕ) → b ≡ min 10000 m → 59 < b → InZone x (signed_zone west h m) (Err PastLimit)
  zone_minute b e k = record { worth = λ w off. rw (lt-leb m 59 (omega arith), and-false (leb h 12)) }

  pub zone_kept_lem : (a b : ℕ) (r : Value) → a ≡ min 10000 h → b ≡ min 10000 m → a ≤ 12 → b ≤ 59 → r ≡ Time (with_offset x (west && not (eqb (a * 60 + b) 0)) (a * 60 + b) 2) →
      InZone x (signed_zone west h m) (Ok r)
  zone_kept_lem a b r e f k l q =
      let p : h ≡ a = omega arith in
      let o : m ≡ b = omega arith in
      record { worth = λ w off. rw (q, p, o, le-leb a 12 k, le-leb b 59 l) }

module _ (x : code-moment.Moment) (w : List ℕ) (z : Zone) where
  pub no_zone_given : (r : Value) → z ≡ NoZone → r ≡ Time (with_offset x false 0 0) → InZone x (zone_of w z) (Ok r)
  no_zone_given r e q = record { worth = λ v off. rw (q, e) }

  pub z_given : (r : Value) → z ≡ Utc → r ≡ Time (with_offset x false 0 1) → InZone x (zone_of w z) (Ok r)
  z_given r e q = record { worth = λ v off. rw (q, e) }

  pub offset_given : (r : Answer) (west : Bool) (h m : Span) → z ≡ Offset west h m → InZone x (signed_zone west (number (on w h)) (number (on w m))) r → InZone x (zone_of w z) r
  offset_given r west h m e i = rw e i

-- ---- the time

pub digits_lent : (s ds : List ℕ) → All digit s → ds ≡ s → All digit ds
digits_lent s ds a e = rw e a

few : (ds : List ℕ) (n : ℕ) → Some n ≡ nanos_of ds → (leb (length (significant ds)) 9 ≡ true) × (nanos ds ≡ n)
unfolding nanos_of
few ds n e = go (leb (length (significant ds)) 9) e
  where
    go : (t : Bool) → Some n ≡ cond t (Some (nanos ds)) None → (t ≡ true) × (nanos ds ≡ n)
    go true f = (refl, ap (num_or 0) (sym f))
    go false f = absurd (none_some (sym f))

many : (ds : List ℕ) → None ≡ nanos_of ds → leb (length (significant ds)) 9 ≡ false
unfolding nanos_of
many ds e = go (leb (length (significant ds)) 9) e
  where
    go : (t : Bool) → None ≡ cond t (Some (nanos ds)) None → t ≡ false
    go false f = refl
    go true f = absurd (none_some f)

module _ (parts : ℕ) (d : Day) (w : List ℕ) (c : Clock) (z : ZoneR) where
  pub late_hour : (h : ℕ) → h ≡ min 10000 (number (on w c.hour)) → 23 < h → Timed parts d (clock_of w c z) (Err PastLimit)
  late_hour h e k = record { worth = λ v off. rw (le-ltb (number (on w c.hour)) 24 (omega arith)) }

  pub late_minute : (m : ℕ) → m ≡ min 10000 (number (on w c.minute)) → 59 < m → Timed parts d (clock_of w c z) (Err PastLimit)
  late_minute m e k = record { worth = λ v off. rw (le-ltb (number (on w c.minute)) 60 (omega arith), and-false (ltb (number (on w c.hour)) 24)) }

  pub late_second : (s : ℕ) → s ≡ min 10000 (number (on w c.second)) → 59 < s → Timed parts d (clock_of w c z) (Err PastLimit)
  late_second s e k = record {
    worth = λ v off.
        rw (le-ltb (number (on w c.second)) 60 (omega arith), and-false (ltb (number (on w c.minute)) 60), and-false (ltb (number (on w c.hour)) 24));
  }

  pub many_decimals : (o : Option ℕ) (ds : List ℕ) → ds ≡ on w c.decimals → o ≡ nanos_of ds → o ≡ None → Timed parts d (clock_of w c z) (Err PastLimit)
  many_decimals o ds q e k = record {
    worth = λ v off.
        rw (many (on w c.decimals) (sym k ∙ e ∙ ap nanos_of q), and-false (ltb (number (on w c.second)) 60), and-false (ltb (number (on w c.minute)) 60), and-false (ltb (number (on w c.hour)) 24));
  }

  pub time_kept_lem : {r : Answer} (h m s n : ℕ) (o : Option ℕ) (ds : List ℕ) → h ≡ min 10000 (number (on w c.hour)) → m ≡ min 10000 (number (on w c.minute)) → s ≡ min 10000 (number (on w c.second)) →
      ds ≡ on w c.decimals → o ≡ nanos_of ds → o ≡ Some n → h ≤ 23 → m ≤ 59 → s ≤ 59 →
      InZone (record { parts = parts; year = d.year; month = d.month; day = d.day; hour = h; minute = m; second = s; nanoseconds = n; west = false; offset = 0; mark = 0 }) z r → Timed parts d (clock_of w c z) r
  time_kept_lem h m s n o ds eh em es q en so kh km ks v =
      let f = few (on w c.decimals) n (sym so ∙ en ∙ ap nanos_of q) in
      let a : number (on w c.hour) ≡ h = omega (arith, eh, kh) in
      let b : number (on w c.minute) ≡ m = omega (arith, em, km) in
      let x : number (on w c.second) ≡ s = omega (arith, es, ks) in
      record { worth = λ u off. rw (f.0, f.1, a, b, x, lt-ltb h 24 (omega (arith, kh)), lt-ltb m 60 (omega (arith, km)), lt-ltb s 60 (omega (arith, ks))) (v.worth u off) }

-- ---- with a date or without

module _ (w : List ℕ) (date : Date) (f : InCalendar) where
  pub no_such_day : day_of (date_of w date) ≡ day_if_any f → f ≡ None → Worth (a_date (date_of w date)) (Err PastLimit)
  no_such_day e q = record { worth = λ v off. rw (e, q) }

  pub such_day : (day : code.Day) → day_of (date_of w date) ≡ day_if_any f → f ≡ Some day → Worth (a_date (date_of w date)) (Ok (Time (record {
    parts = 1;
    year = day.year;
    month = day.month;
    day = day.day;
    hour = 0;
    minute = 0;
    second = 0;
    nanoseconds = 0;
    west = false;
    offset = 0;
    mark = 0;
  })))
  such_day day e q = record { worth = λ v off. rw (e, q) }

  pub no_day_time : (t : TimeR) → day_of (date_of w date) ≡ day_if_any f → f ≡ None → Worth (a_date_time (date_of w date) t) (Err PastLimit)
  no_day_time t e q = record { worth = λ v off. rw (e, q) }

  pub day_time : {r : Answer} (t : TimeR) (day : code.Day) → day_of (date_of w date) ≡ day_if_any f → f ≡ Some day → Timed 3 (day_is day) t r → Worth (a_date_time (date_of w date) t) r
  day_time t day e q v = record { worth = λ u off. rw (e, q) (v.worth u off) }

module _ (w : List ℕ) (stamp : Stamp) (c : Clock) (z : ZoneR) where
  pub undated_digits : InDigits (time_of w stamp c z) → stamp ≡ Undated → All digit (on w c.decimals)
  undated_digits k q = rw q at k

  both_in_digits : (date : Date) → InDigits (time_of w stamp c z) → stamp ≡ Dated date → (year_of (date_of w date) ≤ 9999) × All digit (on w c.decimals)
  both_in_digits date k q = rw q at k

  pub dated_year : (date : Date) → InDigits (time_of w stamp c z) → stamp ≡ Dated date → year_of (date_of w date) ≤ 9999
  dated_year date k q = (both_in_digits date k q).0

  pub dated_digits : (date : Date) → InDigits (time_of w stamp c z) → stamp ≡ Dated date → All digit (on w c.decimals)
  dated_digits date k q = (both_in_digits date k q).1

  pub undated : {r : Answer} → stamp ≡ Undated → Timed 2 absent_day (clock_of w c z) r → Worth (time_of w stamp c z) r
  undated q v = rw q (record { worth = v.worth })

  pub with_date : {r : Answer} (date : Date) → stamp ≡ Dated date → Worth (a_date_time (date_of w date) (clock_of w c z)) r → Worth (time_of w stamp c z) r
  with_date date q v = rw q v
