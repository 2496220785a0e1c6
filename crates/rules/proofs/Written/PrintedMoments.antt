-- Dates and times, with the zone that their mark has, are words as they are read.
use Prim.Native.Nat.{ℕ, zero, suc, ◌-◌, ◌*◌, ◌/◌, ◌%◌, ◌^◌, ◌≤◌, ◌<◌}
use mathlib.Core.Path.{◌≡◌, refl, sym, ap, ap₂, ◌∙◌, subst, subst₂, subst₃}
use mathlib.Core.Logic.{inl, inr}
use mathlib.Core.Option.{Option, some}
use mathlib.Core.Bool.{Bool, true, false, cond, ◌&&◌}
use mathlib.Core.List.{List, [], ◌∷◌, ◌++◌, append_assoc, append-nil}
use native.Mathlib.Nat.{div-add-mod'}
use native.Mathlib.Omega.{arith}
use borrow.Author.Tests.{lt-ltb, leb-true, le-leb}
use lib.Dec.{leb, eqb}
use lib.ListN.{length, get_or}
use Rattle.rules.specs.Bytes.{digit, All, none, one}
use Rattle.rules.specs.Data.{Whole, Moment, Elem, moment}
use Rattle.rules.specs.Proper.{the_rules}
use Rattle.rules.specs.Words.{DateWord, year_month_day, Seconds, second, decimal as decimal-second, ZoneSign, east, west, Zoned, local, utc_upper, by_minute, TimeWord, time, upper_t, date_word, time_word, date_time_word, Digits, Form}
use Rattle.rules.specs.Values.{a_date, a_time, a_date_time, in_month, Zone, no_zone, utc, signed_zone, zone_kept, offset_of, mark_of, Time, leap, month_length, Day, day_of, time_kept, absent_day, absent_time, at, number, signed, within, each, significant, then}
use Rattle.rules.specs.Written.{wide, date_bytes, fraction, offset_bytes, time_bytes, date_time_bytes}
use Rattle.rules.proofs.Words.Worth.{noughts, significant_worth}
use Rattle.rules.proofs.Machine.Limits.{Within, Dated, Marked, Timed, MomentHeld, date_alone, time_alone, date_and_time}
use Rattle.rules.proofs.Tables.Tests.{cond-case, and_true, and_left, and_right, between_in}
use Rattle.rules.proofs.Written.GivenMoments.{given_zone, given_bytes}
use Rattle.rules.proofs.Written.PrintedNumbers.{wide_number, wide_all, wide_length, signed_plain}

-- ---- dates

four : (n : ℕ) → Digits 4 4 (wide 4 n)
four n = record { all = wide_all 4 n; count = rw (wide_length 4 n) }

two : (n : ℕ) → Digits 1 2 (wide 2 n)
two n = record { all = wide_all 2 n; count = rw (wide_length 2 n) }

get_d_most : (b : ℕ) (l : List ℕ) → each (λ d. leb d b) l ≡ true → (i : ℕ) → get_or l i 0 ≤ b
get_d_most b [] h i = omega arith
get_d_most b (d ∷ l) h zero = leb-true d b (and_left (leb d b) (each (λ d. leb d b) l) h)
get_d_most b (d ∷ l) h (suc i) = get_d_most b l (and_right (leb d b) (each (λ d. leb d b) l) h) i

pub month_short : (y m : ℕ) → month_length y m ≤ 31
month_short y m = cond-case (λ n. n ≤ 31) (eqb m 2 && leap y) 29 _ (λ e. omega arith) (λ e. get_d_most 31 (0 ∷ 31 ∷ 28 ∷ 31 ∷ 30 ∷ 31 ∷ 30 ∷ 31 ∷ 31 ∷ 30 ∷ 31 ∷ 30 ∷ 31 ∷ []) refl m)

date_printed : (t : Moment) → Dated t → DateWord (date_bytes t) (in_month t.year t.month t.day)
date_printed t d =
    subst₃ (λ (y m n : ℕ). DateWord (date_bytes t) (in_month y m n))
    (wide_number 4 t.year (omega (arith, d.year_most))) (wide_number 2 t.month (omega (arith, d.month_most))) (wide_number 2 t.day (omega (arith, d.day_most, month_short t.year t.month)))
    (year_month_day (four t.year) (two t.month) (two t.day))

day_kept : (t : Moment) → Dated t → day_of (in_month t.year t.month t.day) ≡ some (record { year = t.year; month = t.month; day = t.day })
day_kept t d =
    ap (λ (b : Bool). within b (record { year = t.year; month = t.month; day = t.day }))
    (and_true (le-leb 1 t.year d.year_least) (and_true (between_in 1 12 t.month d.month_least (omega (arith, d.month_most))) (between_in 1 (month_length t.year t.month) t.day d.day_least d.day_most)))

-- ---- fractions

significant_noughts : (s : List ℕ) → noughts (significant s) ≡ noughts s
significant_noughts [] = refl
significant_noughts (d ∷ s) =
    cond-case (λ l. noughts l ≡ noughts (d ∷ s)) (noughts (d ∷ s)) _ _ (λ e. sym e) (λ e. ap (λ (t : Bool). eqb d 48 && t) (significant_noughts s))

significant_again : (s : List ℕ) → significant (significant s) ≡ significant s
significant_again [] = refl
significant_again (d ∷ s) =
    cond-case (λ l. significant l ≡ l) (noughts (d ∷ s)) _ _ (λ e. refl)
    (λ e. rw (significant_noughts s, e, significant_again s))

pub significant_all : (s : List ℕ) → All digit s → All digit (significant s)
significant_all [] none = none
significant_all (d ∷ s) (one h hs) = cond-case (All digit) (noughts (d ∷ s)) _ _ (λ e. none) (λ e. one h (significant_all s hs))

pub significant_length : (s : List ℕ) → length (significant s) ≤ length s
significant_length [] = omega arith
significant_length (d ∷ s) =
    cond-case (λ l. length l ≤ suc (length s)) (noughts (d ∷ s)) _ _ (λ e. omega arith) (λ e. omega (arith, significant_length s))

-- ---- times

seconds_printed : (s : ℕ) (f : List ℕ) → s < 100 → All digit f → Seconds (58 ∷ (wide 2 s ++ fraction f)) (record { whole = s; decimals = f })
seconds_printed s [] h none =
    rw append-nil (subst (λ (i : ℕ). Seconds (58 ∷ wide 2 s) (record { whole = i; decimals = [] })) (wide_number 2 s (omega arith)) (second (two s)))
seconds_printed s (c ∷ f) h k =
    subst (λ (i : ℕ). Seconds (58 ∷ (wide 2 s ++ (46 ∷ c ∷ f))) (record { whole = i; decimals = c ∷ f })) (wide_number 2 s (omega arith)) (decimal-second (two s) k)

record ZonePrinted (k : ℕ) (w : Whole) : Type 0 where
  zo : Zone
  word : Zoned (given_zone k w) zo
  kept : zone_kept zo ≡ true
  means : offset_of zo ≡ w
  marks : mark_of zo ≡ k

sign : (b : Bool) → ZoneSign (cond b 45 43) b
sign true = west
sign false = east

signed_printed : (w : Whole) → Within 780 w → ZonePrinted 2 w
signed_printed w h = record {
  zo = signed_zone w.minus (w.size / 60) (w.size % 60);
  word = subst₂ (λ (i j : ℕ). Zoned (offset_bytes w) (signed_zone w.minus i j))
      (wide_number 2 (w.size / 60) (omega (arith, h.below))) (wide_number 2 (w.size % 60) (omega arith)) (by_minute (sign w.minus) (two (w.size / 60)) (two (w.size % 60)));
  kept = and_true (le-leb (w.size / 60) 12 (omega (arith, h.below))) (le-leb (w.size % 60) 59 (omega arith));
  means = ap (signed w.minus) (div-add-mod' w.size 60) ∙ signed_plain w.minus w.size h.zero_plain;
  marks = refl;
}

-- no zone and Z mean offset 0
no_offset : (w : Whole) → Within 780 w → w.size ≡ 0 → signed false 0 ≡ w
no_offset w h z = ap₂ (λ (t : Bool) (i : ℕ). record { minus = t; size = i }) (sym (h.zero_plain z)) (sym z)

zone_printed : (k : ℕ) (w : Whole) → Within 780 w → Marked k w.size → ZonePrinted k w
zone_printed k w h (inl e) = subst (λ (i : ℕ). ZonePrinted i w) (sym e) (signed_printed w h)
zone_printed zero w h (inr z) = record { zo = no_zone; word = local; kept = refl; means = no_offset w h z.1; marks = refl }
zone_printed (suc zero) w h (inr z) = record { zo = utc; word = utc_upper; kept = refl; means = no_offset w h z.1; marks = refl }
zone_printed (suc (suc k)) w h (inr z) = absurd (omega (arith, z.0))

-- the time of a moment, as it is read
abbrev time_of : Moment → Zone → Time
time_of t z = record { hour = t.hour; minute = t.minute; second = record { whole = t.second; decimals = significant (wide 9 t.nanoseconds) }; zone = z }

time_printed : (t : Moment) → Timed t → (ending : List ℕ) (z : Zone) → Zoned ending z → TimeWord (time_bytes ending t) (time_of t z)
time_printed t h ending z k =
    let f : List ℕ = significant (wide 9 t.nanoseconds) in
    let g : All digit f = significant_all (wide 9 t.nanoseconds) (wide_all 9 t.nanoseconds) in
    let w : TimeWord (wide 2 t.hour ++ (58 ∷ (wide 2 t.minute ++ ((58 ∷ (wide 2 t.second ++ fraction f)) ++ ending))))
    (record { hour = number (wide 2 t.hour); minute = number (wide 2 t.minute); second = record { whole = t.second; decimals = f }; zone = z }) =
    time (two t.hour) (two t.minute) (seconds_printed t.second f (omega (arith, h.second_most)) g) k in
    let e : (wide 2 t.second ++ fraction f) ++ ending ≡ wide 2 t.second ++ (fraction f ++ ending) = append_assoc (wide 2 t.second) (fraction f) ending in
    subst₃ (λ (s : List ℕ) (i j : ℕ). TimeWord (wide 2 t.hour ++ (58 ∷ (wide 2 t.minute ++ (58 ∷ s)))) (record { hour = i; minute = j; second = record { whole = t.second; decimals = f }; zone = z }))
    e (wide_number 2 t.hour (omega (arith, h.hour_most))) (wide_number 2 t.minute (omega (arith, h.minute_most))) w

time_kept_lem : (t : Moment) → Timed t → (z : Zone) → zone_kept z ≡ true → time_kept (time_of t z) ≡ true
time_kept_lem t h z k =
    let f : List ℕ = significant (wide 9 t.nanoseconds) in
    let q : leb (length (significant f)) 9 ≡ true = rw (significant_again (wide 9 t.nanoseconds)) (le-leb (length f) 9 (omega (arith, significant_length (wide 9 t.nanoseconds), wide_length 9 t.nanoseconds))) in
    and_true (lt-ltb t.hour 24 h.hour_most) (and_true (lt-ltb t.minute 60 h.minute_most) (and_true (lt-ltb t.second 60 h.second_most)
    (and_true q k)))

nanoseconds_kept : (n : ℕ) → n < 10 ^ 9 → let f : List ℕ = significant (wide 9 n) in number (significant f) * 10 ^ (9 - length (significant f)) ≡ n
nanoseconds_kept n h =
    let f : List ℕ = significant (wide 9 n) in
    ap (λ (l : List ℕ). number l * 10 ^ (9 - length l)) (significant_again (wide 9 n))
    ∙ ap (λ (k : ℕ). number f * 10 ^ (k - length f)) (sym (wide_length 9 n)) ∙ sym (significant_worth 0 (wide 9 n)) ∙ wide_number 9 n h

-- ---- moments

moment_same : (p p' y y' m m' d d' h h' i i' s s' n n' : ℕ) (o o' : Whole) (k k' : ℕ) → p ≡ p' → y ≡ y' → m ≡ m' → d ≡ d' → h ≡ h' → i ≡ i' → s ≡ s' → n ≡ n' → o ≡ o' → k ≡ k' →
    ◌≡◌ {A = Moment} (record { parts = p; year = y; month = m; day = d; hour = h; minute = i; second = s; nanoseconds = n; offset = o; mark = k })
    (record { parts = p'; year = y'; month = m'; day = d'; hour = h'; minute = i'; second = s'; nanoseconds = n'; offset = o'; mark = k' })
moment_same p p' y y' m m' d d' h h' i i' s s' n n' o o' k k' e₁ e₂ e₃ e₄ e₅ e₆ e₇ e₈ e₉ e₀ =
    λ j. record { parts = e₁ j; year = e₂ j; month = e₃ j; day = e₄ j; hour = e₅ j; minute = e₆ j; second = e₇ j; nanoseconds = e₈ j; offset = e₉ j; mark = e₀ j }

bytes_by : (t : Moment) (ending : List ℕ) (p : ℕ) → t.parts ≡ p →
    date_time_bytes ending t ≡ cond (eqb p 1) (date_bytes t) (cond (eqb p 2) (time_bytes ending t) (date_bytes t ++ (84 ∷ time_bytes ending t)))
bytes_by t ending p e = ap (λ (i : ℕ). cond (eqb i 1) (date_bytes t) (cond (eqb i 2) (time_bytes ending t) (date_bytes t ++ (84 ∷ time_bytes ending t)))) e

form_at : (off : Bool) (e : Elem) (w w' : List ℕ) → w' ≡ w → Form the_rules off w e → Form the_rules off w' e
form_at off e w w' p f = subst (λ (l : List ℕ). Form the_rules off l e) (sym p) f

-- a date or time with the zone of its mark reads back to itself, mark and all
pub given_form : (off : Bool) (t : Moment) → MomentHeld t → Form the_rules off (given_bytes t) (moment t)
given_form off t (date_alone p d u) =
    form_at off (moment t) (date_bytes t) (given_bytes t) (bytes_by t (given_zone t.mark t.offset) 1 p) (
      a_date (in_month t.year t.month t.day),
      date_word (date_printed t d),
      ap (λ (o : Option Day). then o (λ x. some (moment (at 1 x absent_time)))) (day_kept t d)
          ∙ ap (λ (x : Moment). some (moment x))
          (moment_same _ _ _ _ _ _ _ _ _ _ _ _ _ _ _ _ _ _ _ _ (sym p) refl refl refl (sym u.hour) (sym u.minute) (sym u.second) (sym u.nanoseconds) (sym u.offset) (sym u.mark)),
    )
given_form off t (time_alone p u h) =
    let end : List ℕ = given_zone t.mark t.offset in
    let z = zone_printed t.mark t.offset h.offset_most h.marked in
    form_at off (moment t) (time_bytes end t) (given_bytes t) (bytes_by t end 2 p) (
      a_time (time_of t z.zo),
      time_word (time_printed t h end z.zo z.word),
      ap (λ (b : Bool). within b (moment (at 2 absent_day (time_of t z.zo)))) (time_kept_lem t h z.zo z.kept)
          ∙ ap (λ (x : Moment). some (moment x))
          (moment_same _ _ _ _ _ _ _ _ _ _ _ _ _ _ _ _ _ _ _ _ (sym p) (sym u.year) (sym u.month) (sym u.day) refl refl refl (nanoseconds_kept t.nanoseconds h.nanoseconds_most) z.means z.marks),
    )
given_form off t (date_and_time p d h) =
    let end : List ℕ = given_zone t.mark t.offset in
    let z = zone_printed t.mark t.offset h.offset_most h.marked in
    form_at off (moment t) (date_bytes t ++ (84 ∷ time_bytes end t)) (given_bytes t) (bytes_by t end 3 p) (
      a_date_time (in_month t.year t.month t.day) (time_of t z.zo),
      date_time_word (upper_t (date_printed t d) (time_printed t h end z.zo z.word)),
      ap (λ (o : Option Day). then o (λ x. within (time_kept (time_of t z.zo)) (moment (at 3 x (time_of t z.zo))))) (day_kept t d)
          ∙ ap (λ (b : Bool). within b (moment (at 3 (record { year = t.year; month = t.month; day = t.day }) (time_of t z.zo)))) (time_kept_lem t h z.zo z.kept)
          ∙ ap (λ (x : Moment). some (moment x))
          (moment_same _ _ _ _ _ _ _ _ _ _ _ _ _ _ _ _ _ _ _ _ (sym p) refl refl refl refl refl refl (nanoseconds_kept t.nanoseconds h.nanoseconds_most) z.means z.marks),
    )
