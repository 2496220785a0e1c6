-- The elements that bytes can give keep the limits of values.
use Prim.Native.Nat.{ℕ, suc, ◌+◌, ◌-◌, ◌*◌, ◌%◌, ◌^◌, ◌≤◌, ◌<◌}
use mathlib.Core.Path.{◌≡◌, refl, sym, ap, ◌∙◌, subst}
use mathlib.Core.Logic.{◌⊎◌, inl, inr}
use mathlib.Core.Option.{Option, none as absent, some}
use mathlib.Core.Bool.{Bool, true, false, cond, ◌&&◌, and-false}
use mathlib.Core.List.{List, [], ◌++◌, map}
use native.Mathlib.Nat.{pow-zero, pow-succ', mul-one, mul_assoc, mul-lt-mul_of_pos_right}
use native.Mathlib.Omega.{arith}
use borrow.Author.Tests.{ltb-true, leb-true, eqb-false, eq-eqb}
use lib.Dec.{leb, ltb, eqb}
use lib.ListN.{length}
use lib.Pow.{pow-add}
use Rattle.rules.specs.Bytes.{fold, between, digit, All, none, one, ascii}
use Rattle.rules.specs.Modes.{Mode}
use Rattle.rules.specs.Values.{Date, in_year, Zone, no_zone, utc, signed_zone, zone_kept, offset_of, mark_of, Second, Time, Written, onto, number, signed, within, same, named, fits, in_base, radix_kept, significant, moved, held, real_kept, month_length, Day, day_of, time_kept, absent_day, absent_time, at, then, value}
use Rattle.rules.specs.Proper.{Each, none as none_Each, one as one_each}
use Rattle.rules.specs.Data.{Whole, Elem, name, the, end, integer, based, real, moment, Placed, range, text, symbol}
use Rattle.rules.specs.Words.{from_to, Digits, Integer, signed_digits, Based, in_radix, Decimal, pointed, bare, DateWord, year_doy, year_month_day, Seconds, no_second, second, decimal, TimeWord, time, upper_t, lower_t, Shape, identifier_word, integer_word, based_word, real_word, date_word, time_word, date_time_word, range_word, Form}
use Rattle.rules.specs.Elements.{sets_off, Spells, word, sign, one_star, two_stars, one_slash, quoted_text, quoted_symbol, Cut, none_more, next}
use Rattle.rules.proofs.Words.Worth.{significant_last, IsDay, day_of_year}
use Rattle.rules.proofs.Machine.Limits.{Within, RealHeld, Dated, Marked, Timed, Untimed, date_alone, time_alone, date_and_time, Worded, Possible, PossibleAt}
use Rattle.rules.proofs.Tables.Tests.{all_append, cond-case, and_left, and_right, between_out}
use Rattle.rules.proofs.Tables.Numbers.{pow_positive}
use Rattle.rules.proofs.Written.PrintedMoments.{significant_all}

-- what holds of a value, if there is one
abbrev pub When : {A : Type 0} → (A → Type 0) → Option A → Type 0
When P absent = Unit {0}
When P (some a) = P a

pub when_within : {A : Type 0} (P : A → Type 0) (t : Bool) (a : A) → (t ≡ true → P a) → When P (within t a)
when_within P true a h = h refl
when_within P false a h = tt

when_is : {A : Type 0} (P : A → Type 0) (o : Option A) → ((a : A) → o ≡ some a → P a) → When P o
when_is P absent h = tt
when_is P (some a) h = h a refl

pub when_then : {A B : Type 0} (P : A → Type 0) (Q : B → Type 0) (o : Option A) (f : A → Option B) → When P o → ((a : A) → P a → When Q (f a)) → When Q (then o f)
when_then P Q absent f h k = tt
when_then P Q (some a) f h k = k a h

-- ---- names

name_worded : (pvl off : Bool) (u : List ℕ) → When Worded (named pvl off u)
name_worded pvl off u =
    let G : Option Elem → Type 0 = When Worded in
    cond-case G (same u (ascii "END")) _ _ (λ e. tt) (λ a. cond-case G (same u (ascii "OBJECT")) _ _ (λ e. tt) (λ a. cond-case G (same u (ascii "END_OBJECT")) _ _ (λ e. tt)
    (λ a. cond-case G (same u (ascii "GROUP")) _ _ (λ e. tt) (λ a. cond-case G (same u (ascii "END_GROUP")) _ _ (λ e. tt) (λ a. cond-case G (same u (ascii "BEGIN_OBJECT")) _ _ (λ e. tt)
    (λ a. cond-case G (pvl && same u (ascii "BEGIN_GROUP")) _ _ (λ e. tt) (λ a. when_within Worded (leb (length u) 60) (name u) (λ l. tt))))))))

-- ---- integers

signed_within : (m : ℕ) (neg : Bool) (n : ℕ) → n < m → Within m (signed neg n)
signed_within m neg n h = record { below = h; zero_plain = λ e. rw (eq-eqb n 0 e) (and-false neg) }

integer_worded : {w : List ℕ} {n : Whole} → Integer w n → When Worded (within (fits n) (integer n))
integer_worded (signed_digits {ds = ds} {neg = neg} s u) =
    when_within Worded (fits (signed neg (number ds))) (integer (signed neg (number ds))) (λ e. signed_within (2 ^ 63) neg (number ds) (ltb-true (number ds) (2 ^ 63) e))

based_worded : (m : Mode) (off : Bool) {w : List ℕ} {v : Written} → Based w v → When Worded (value m off v)
based_worded m off (in_radix {r = r} {ds = ds} {neg = neg} u s a l) =
    let n = in_base (number r) 0 ds in
    when_within Worded (radix_kept (number r) ds && fits (signed neg n)) (based (signed neg n))
    (λ e. signed_within (2 ^ 63) neg n (ltb-true n (2 ^ 63) (and_right (radix_kept (number r) ds) (fits (signed neg n)) e)))

-- ---- reals

-- digits without the zeros that end them do not end with zero
no_zero : (s : List ℕ) → (significant s ≡ []) ⊎ (number (significant s) % 10 ≡ 0 → ⊥) → eqb (number (significant s)) 0 ≡ false → number (significant s) % 10 ≡ 0 → ⊥
no_zero s (inl z) e f = eqb-false (number (significant s)) 0 e (ap number z)
no_zero s (inr k) e f = k f

moved_within : (m : ℕ) (z : Whole) (up down : ℕ) → (moved z up down).size < m → Within m (moved z up down)
moved_within m z up down h = signed_within m (ltb (up + cond z.minus 0 z.size) (down + cond z.minus z.size 0)) (moved z up down).size h

held_worded : (neg : Bool) (ds fs : List ℕ) (z : Whole) → All digit (ds ++ fs) → When RealHeld (real_kept (held neg ds fs z))
held_worded neg ds fs z a =
    let s : List ℕ = significant (ds ++ fs) in
    let n : ℕ = number s in
    let up : ℕ = length (ds ++ fs) - length s in
    let p : Whole = moved z up (length fs) in
    let nil : RealHeld (record { number = signed false 0; power = signed false 0 }) =
    record { number = signed_within (10 ^ 18) false 0 (omega arith); power = signed_within 1000 false 0 (omega arith); no_trailing_zero = λ e. (refl, refl) } in
    cond-case (When RealHeld) (eqb n 0) _ _ (λ e. nil)
    (λ e. when_within RealHeld (ltb n (10 ^ 18) && leb p.size 999) (held neg ds fs z)
    (λ k. record {
      number = signed_within (10 ^ 18) neg n (ltb-true n (10 ^ 18) (and_left (ltb n (10 ^ 18)) (leb p.size 999) k));
      power = moved_within 1000 z up (length fs) (omega (arith, leb-true p.size 999 (and_right (ltb n (10 ^ 18)) (leb p.size 999) k)));
      no_trailing_zero = λ f. absurd (no_zero (ds ++ fs) (significant_last 0 a) e f);
    }))

real_worded : (m : Mode) (off : Bool) {w : List ℕ} {v : Written} → Decimal w v → When Worded (value m off v)
real_worded m off (pointed {ds = ds} {fs = fs} {neg = neg} {z = z} sg a b l x) =
    when_then RealHeld Worded (real_kept (held neg ds fs z)) (λ y. some (real y)) (held_worded neg ds fs z (all_append a b)) (λ y h. h)
real_worded m off (bare {ds = ds} {neg = neg} {z = z} sg u x) =
    when_then RealHeld Worded (real_kept (held neg ds [] z)) (λ y. some (real y)) (held_worded neg ds [] z (all_append u.all none)) (λ y h. h)

-- ---- dates

-- digits behind a number make it so much longer
pub onto_bound : (n c : ℕ) {s : List ℕ} → All digit s → n < c → onto n s < c * 10 ^ length s
onto_bound n c none h = rw (pow-zero, mul-one) h
onto_bound n c (one {b} {s} k ks) h =
    let e : c * 10 ^ suc (length s) ≡ c * 10 * 10 ^ length s = rw (pow-succ', mul_assoc) in
    rw e (onto_bound (n * 10 + (b - 48)) (c * 10) ks (omega (arith, between_out 48 57 b k)))

record DayHeld (d : Day) : Type 0 where
  year_least : 0 < d.year
  year_most : d.year < 10000
  month_least : 0 < d.month
  month_most : d.month < 13
  day_least : 0 < d.day
  day_most : d.day ≤ month_length d.year d.month

dated : (p : ℕ) (d : Day) (t : Time) → DayHeld d → Dated (at p d t)
dated p d t h = record { year_least = h.year_least; year_most = h.year_most; month_least = h.month_least; month_most = h.month_most; day_least = h.day_least; day_most = h.day_most }

year_bound : {y : List ℕ} → Digits 4 4 y → number y < 10000
year_bound {y} d =
    let l : length y ≡ 4 = omega (arith, between_out 4 4 (length y) d.count) in
    let b : number y < 1 * 10 ^ 4 = subst (λ (k : ℕ). number y < 1 * 10 ^ k) l (onto_bound 0 1 d.all (omega arith)) in
    omega arith

in_calendar : (y : ℕ) (x : Day) → 0 < y → y < 10000 → IsDay y x → DayHeld x
in_calendar y x h k d = record {
  year_least = omega (arith, d.year);
  year_most = omega (arith, d.year);
  month_least = d.first_month;
  month_most = omega (arith, d.last_month);
  day_least = d.first_day;
  day_most = subst (λ (z : ℕ). x.day ≤ month_length z x.month) (sym d.year) d.last_day;
}

day_held : {w : List ℕ} {d : Date} → DateWord w d → When DayHeld (day_of d)
day_held (year_doy {y} {n} a b) =
    when_is DayHeld (day_of (in_year (number y) (number n)))
    (λ x e. let c = (day_of_year (number y) (number n) x).0 e in in_calendar (number y) x c.0 (year_bound a) c.1)
day_held (year_month_day {y} {m} {d} a b c) =
    let Y = number y in let M = number m in let D = number d in
    when_within DayHeld (leb 1 Y && (between 1 12 M && between 1 (month_length Y M) D)) (record { year = Y; month = M; day = D })
    (λ e. let f = and_right (leb 1 Y) (between 1 12 M && between 1 (month_length Y M) D) e in
    let i = between_out 1 12 M (and_left (between 1 12 M) (between 1 (month_length Y M) D) f) in
    let j = between_out 1 (month_length Y M) D (and_right (between 1 12 M) (between 1 (month_length Y M) D) f) in
    record { year_least = leb-true 1 Y (and_left (leb 1 Y) _ e); year_most = year_bound a; month_least = i.0; month_most = omega (arith, i.1); day_least = j.0; day_most = j.1 })

-- ---- times

nano_bound : (f : List ℕ) → All digit f → length (significant f) ≤ 9 → number (significant f) * 10 ^ (9 - length (significant f)) < 10 ^ 9
nano_bound f a l =
    let k : ℕ = length (significant f) in
    let b : number (significant f) < 1 * 10 ^ k = onto_bound 0 1 (significant_all f a) (omega arith) in
    let c : number (significant f) < 10 ^ k = omega arith in
    let e : k + (9 - k) ≡ 9 = omega arith in
    subst (λ (x : ℕ). number (significant f) * 10 ^ (9 - k) < x) (sym (pow-add 10 k (9 - k)) ∙ ap (λ (i : ℕ). 10 ^ i) e)
    (mul-lt-mul_of_pos_right c (pow_positive 10 (9 - k) (omega arith)))

-- a zone within its limit
zone_within : (z : Zone) → zone_kept z ≡ true → Within 780 (offset_of z)
zone_within no_zone e = record { below = omega arith; zero_plain = λ h. refl }
zone_within utc e = record { below = omega arith; zero_plain = λ h. refl }
zone_within (signed_zone west h n) e =
    let a = leb-true h 12 (and_left (leb h 12) (leb n 59) e) in
    let b = leb-true n 59 (and_right (leb h 12) (leb n 59) e) in
    signed_within 780 west (h * 60 + n) (omega arith)

-- its mark
zone_marked : (z : Zone) → Marked (mark_of z) (offset_of z).size
zone_marked no_zone = inr (omega arith, refl)
zone_marked utc = inr (omega arith, refl)
zone_marked (signed_zone west h n) = inl refl

timed : (p : ℕ) (d : Day) (t : Time) → All digit t.second.decimals → time_kept t ≡ true → Timed (at p d t)
timed p d t a h =
    let f : List ℕ = t.second.decimals in
    let h₁ = and_right (ltb t.hour 24) _ h in
    let h₂ = and_right (ltb t.minute 60) _ h₁ in
    let h₃ = and_right (ltb t.second.whole 60) _ h₂ in
    let h₄ = and_right (leb (length (significant f)) 9) _ h₃ in
    record {
      hour_most = ltb-true t.hour 24 (and_left (ltb t.hour 24) _ h);
      minute_most = ltb-true t.minute 60 (and_left (ltb t.minute 60) _ h₁);
      second_most = ltb-true t.second.whole 60 (and_left (ltb t.second.whole 60) _ h₂);
      nanoseconds_most = nano_bound f a (leb-true (length (significant f)) 9 (and_left (leb (length (significant f)) 9) _ h₃));
      offset_most = zone_within t.zone h₄;
      marked = zone_marked t.zone;
    }

-- the decimals of a second are digits
pub decimal_digits : {w : List ℕ} {s : Second} → Seconds w s → All digit s.decimals
decimal_digits no_second = none
decimal_digits (second d) = none
decimal_digits (decimal d a) = a

pub second_digits : {w : List ℕ} {t : Time} → TimeWord w t → All digit t.second.decimals
second_digits (time h m s z) = decimal_digits s

untimed : (d : Day) → Untimed (at 1 d absent_time)
untimed d = record { hour = refl; minute = refl; second = refl; nanoseconds = refl; offset = refl; mark = refl }

date_worded : {w : List ℕ} {d : Date} → DateWord w d → When Worded (then (day_of d) (λ x. some (moment (at 1 x absent_time))))
date_worded {d = d} w = when_then DayHeld Worded (day_of d) (λ x. some (moment (at 1 x absent_time))) (day_held w) (λ x h. date_alone refl (dated 1 x absent_time h) (untimed x))

time_worded : {w : List ℕ} {t : Time} → TimeWord w t → When Worded (within (time_kept t) (moment (at 2 absent_day t)))
time_worded {t = t} w =
    when_within Worded (time_kept t) (moment (at 2 absent_day t)) (λ e. time_alone refl (record { year = refl; month = refl; day = refl }) (timed 2 absent_day t (second_digits w) e))

both_worded : {w w' : List ℕ} {d : Date} {t : Time} → DateWord w d → TimeWord w' t → When Worded (then (day_of d) (λ x. within (time_kept t) (moment (at 3 x t))))
both_worded {d = d} {t = t} a b =
    when_then DayHeld Worded (day_of d) (λ x. within (time_kept t) (moment (at 3 x t))) (day_held a)
    (λ x h. when_within Worded (time_kept t) (moment (at 3 x t)) (λ e. date_and_time refl (dated 3 x t h) (timed 3 x t (second_digits b) e)))

-- ---- all words, all elements

signed_fits : (n : Whole) {w : List ℕ} → Integer w n → fits n ≡ true → Within (2 ^ 63) n
signed_fits n (signed_digits {ds = ds} {neg = neg} s u) e = signed_within (2 ^ 63) neg (number ds) (ltb-true (number ds) (2 ^ 63) e)

range_worded : (neg : Bool) (ds : List ℕ) {w : List ℕ} {hi : Whole} → Integer w hi → When Worded (within (fits (signed neg (number ds)) && fits hi) (range (signed neg (number ds)) hi))
range_worded neg ds {hi = hi} i =
    when_within Worded (fits (signed neg (number ds)) && fits hi) (range (signed neg (number ds)) hi)
    (λ e. (signed_within (2 ^ 63) neg (number ds) (ltb-true (number ds) (2 ^ 63) (and_left (fits (signed neg (number ds))) (fits hi) e)), signed_fits hi i (and_right (fits (signed neg (number ds))) (fits hi) e)))

worded_possible : (e : Elem) → Worded e → Possible e
worded_possible (name n) h = h
worded_possible (the f) h = h
worded_possible (end b) h = h
worded_possible (integer w) h = h
worded_possible (based w) h = h
worded_possible (real x) h = h
worded_possible (moment t) h = h
worded_possible (range lo hi) h = h
worded_possible text h = tt
worded_possible symbol h = tt

module _ (m : Mode) where
  shape_worded : (off : Bool) {w : List ℕ} {v : Written} → Shape m w v → When Worded (value m off v)
  shape_worded off (identifier_word {w} i) = name_worded m.pvl off (map fold w)
  shape_worded off (integer_word i) = integer_worded i
  shape_worded off (based_word b) = based_worded m off b
  shape_worded off (real_word d) = real_worded m off d
  shape_worded off (date_word d) = date_worded d
  shape_worded off (time_word t) = time_worded t
  shape_worded off (date_time_word (upper_t d t)) = both_worded d t
  shape_worded off (date_time_word (lower_t d t)) = both_worded d t
  shape_worded off (range_word e (from_to {ds = ds} {neg = neg} {hi = hi} a b c)) = range_worded neg ds c

  pub form_worded : (off : Bool) {w : List ℕ} {e : Elem} → Form m off w e → Worded e
  form_worded off {w} {e} f = subst (When Worded) f.2 (shape_worded off f.1)

  spells_possible : {w r : List ℕ} {e : Elem} {q : ℕ} → Spells m w e q r → Possible e
  spells_possible (word {r = r} {e = e} a f) = worded_possible e (form_worded (sets_off m r) f)
  spells_possible (sign h) = tt
  spells_possible (one_star h) = tt
  spells_possible two_stars = tt
  spells_possible (one_slash h) = tt
  spells_possible (quoted_text h) = tt
  spells_possible (quoted_symbol h k) = tt

  pub cut_possible : {i j : ℕ} {l r : List ℕ} {es : List Placed} → Cut m i l es j r → Each PossibleAt es
  cut_possible none_more = none_Each
  cut_possible (next g w a s c) = one_each (spells_possible s) (cut_possible c)
