-- Weekdays: 1979-07-08 is a Sunday, the day after a day has the weekday after, and these two facts fix the weekday of every day.
use Prim.Native.Nat.{ℕ, zero, suc, ◌+◌, ◌%◌, ◌≤◌, ◌<◌}
use mathlib.Core.Path.{◌≡◌, refl, sym, ap, subst, ◌∙◌}
use mathlib.Core.Bool.{Bool, true, false, cond, ◌&&◌}
use mathlib.Core.List.{[], ◌∷◌}
use native.Mathlib.Omega.{arith}
use native.Mathlib.Numerals.{add-one}
use borrow.Author.Tests.{leb-true, ltb-false, lt-ltb, le-ltb, eqb-true, eqb-false}
use lib.Dec.{leb, ltb, eqb}
use lib.ListN.{get_or}
use Rattle.rules.specs.Values.{leap, month_length, Day}
use Rattle.rules.specs.Calendar.{dated, year_length, days_of_years, days_of_months, day_number, weekday, day_after, weekday_after}
use Rattle.rules.proofs.Tables.Tests.{cond-case, upto_either}

-- 1979-07-08 is a Sunday
pub a_sunday : weekday (dated 1979 7 8) ≡ 7
unfolding days_of_years days_of_months
a_sunday = refl

-- a day that the calendar has, of the years 0001 to 9999
pub record InCalendar (x : Day) : Type 0 where
  pub year_least : 1 ≤ x.year
  pub year_most : x.year ≤ 9999
  pub month_least : 1 ≤ x.month
  pub month_most : x.month ≤ 12
  pub day_least : 1 ≤ x.day
  pub day_most : x.day ≤ month_length x.year x.month

-- the days of a month, in a leap year or not: `month_length y` is `month_in (leap y)`
abbrev pub month_in : Bool → ℕ → ℕ
month_in t m = cond (eqb m 2 && t) 29 (get_or (0 ∷ 31 ∷ 28 ∷ 31 ∷ 30 ∷ 31 ∷ 30 ∷ 31 ∷ 31 ∷ 30 ∷ 31 ∷ 30 ∷ 31 ∷ []) m 0)

-- ---- days are counted one by one

-- the months of a year are its days
year_months : (y : ℕ) → days_of_months y 12 + 31 ≡ year_length y
unfolding days_of_months
year_months y = go (leap y)
  where
    go : (t : Bool) → 0 + 0 + 31 + cond t 29 28 + 31 + 30 + 31 + 30 + 31 + 31 + 30 + 31 + 30 + 31 ≡ cond t 366 365
    go true = refl
    go false = refl

month_more : (y m : ℕ) → days_of_months y (m + 1) ≡ days_of_months y m + month_length y m
unfolding days_of_months
month_more y m = rw add-one

pub year_more : (y : ℕ) → days_of_years (y + 1) ≡ days_of_years y + year_length y
unfolding days_of_years
year_more y = rw add-one

none_before : (y : ℕ) → days_of_months y 1 ≡ 0
unfolding days_of_months
none_before y = refl

module _ {y m d : ℕ} (h : InCalendar (dated y m d)) where
  year_ends : 12 ≤ m → month_length y m ≤ d → day_number (dated (y + 1) 1 1) ≡ day_number (dated y m d) + 1
  year_ends f e =
      let k : m ≡ 12 = omega (arith, h.month_most) in
      let l : month_length y m ≡ 31 = rw k in
      let n : days_of_months y m ≡ days_of_months y 12 = ap (days_of_months y) k in
      omega (arith, year_more y, none_before (y + 1), year_months y, h.day_most)

  next_number : day_number (day_after (dated y m d)) ≡ day_number (dated y m d) + 1
  next_number =
      let G : Day → Type 0 = λ x. day_number x ≡ day_number (dated y m d) + 1 in
      cond-case G (ltb d (month_length y m)) _ _ (λ e. omega arith) (λ e.
      cond-case G (ltb m 12) _ _ (λ f. omega (arith, month_more y m, ltb-false d (month_length y m) e, h.day_most)) (λ f.
      year_ends (ltb-false m 12 f) (ltb-false d (month_length y m) e)))

next_weekday : (n : ℕ) → 1 + (n + 1 + 4) % 7 ≡ weekday_after (1 + (n + 4) % 7)
next_weekday n =
    cond-case (λ (w : ℕ). 1 + (n + 1 + 4) % 7 ≡ w) (eqb (1 + (n + 4) % 7) 7) _ _ (λ h. omega (arith, eqb-true (1 + (n + 4) % 7) 7 h))
    (λ h. let k = eqb-false (1 + (n + 4) % 7) 7 h in omega arith)

-- the day after a day has the weekday after
pub day_after_lem : (x : Day) → InCalendar x → weekday (day_after x) ≡ weekday_after (weekday x)
day_after_lem x h = ap (λ (n : ℕ). 1 + (n + 4) % 7) (next_number h) ∙ next_weekday (day_number x)

-- ---- nothing else has both

-- a weekday for each day of the calendar, with both
pub record Weekdays (f : Day → ℕ) : Type 0 where
  pub from_monday : (x : Day) → InCalendar x → 1 ≤ f x
  pub upto_sunday : (x : Day) → InCalendar x → f x ≤ 7
  pub sunday : f (dated 1979 7 8) ≡ 7
  pub after : (x : Day) → InCalendar x → InCalendar (day_after x) → f (day_after x) ≡ weekday_after (f x)

-- `weekday` is such
pub weekdays : Weekdays (λ x. weekday x)
weekdays = record { from_monday = λ x h. omega arith; upto_sunday = λ x h. omega arith; sunday = a_sunday; after = λ x h g. day_after_lem x h }

after_same : (a b : ℕ) → 1 ≤ a → a ≤ 7 → 1 ≤ b → b ≤ 7 → weekday_after a ≡ weekday_after b → a ≡ b
after_same a b p q r s = go (eqb a 7) refl (eqb b 7) refl
  where
    go : (t : Bool) → eqb a 7 ≡ t → (u : Bool) → eqb b 7 ≡ u → cond t 1 (a + 1) ≡ cond u 1 (b + 1) → a ≡ b
    go true h true g e = omega (arith, eqb-true a 7 h, eqb-true b 7 g)
    go true h false g e = absurd (omega arith)
    go false h true g e = absurd (omega arith)
    go false h false g e = omega arith

month_long : (y m : ℕ) → 1 ≤ m → m ≤ 12 → 28 ≤ month_length y m
month_long y zero h g = absurd (omega arith)
month_long y (suc n) h g = leb-true 28 (month_length y (suc n)) (upto_either (λ t i. leb 28 (month_in t (suc i))) 12 refl refl (leap y) n (omega arith))

-- where the day after lies
in_month : (y m d : ℕ) → d < month_length y m → day_after (dated y m d) ≡ dated y m (d + 1)
in_month y m d h = rw (lt-ltb d (month_length y m) h)

month_ends : (y m : ℕ) → m < 12 → day_after (dated y m (month_length y m)) ≡ dated y (m + 1) 1
month_ends y m h = rw (le-ltb (month_length y m) (month_length y m) (omega arith), lt-ltb m 12 h)

year_turns : (y : ℕ) → day_after (dated y 12 31) ≡ dated (y + 1) 1 1
year_turns y = refl

first_day : (y m : ℕ) → 1 ≤ y → y ≤ 9999 → 1 ≤ m → m ≤ 12 → InCalendar (dated y m 1)
first_day y m a b c e = record { year_least = a; year_most = b; month_least = c; month_most = e; day_least = omega arith; day_most = omega (arith, month_long y m c e) }

module _ (f : Day → ℕ) (w : Weekdays f) where
  abbrev Agrees : Day → Type 0
  Agrees x = f x ≡ weekday x

  -- f agrees on both days or on neither
  record Both (x z : Day) : Type 0 where
    there : Agrees x → Agrees z
    back : Agrees z → Agrees x

  both : {x z : Day} → InCalendar x → InCalendar z → day_after x ≡ z → Both x z
  both {x} {z} h g e =
      let k : InCalendar (day_after x) = subst InCalendar (sym e) g in
      let a : f z ≡ weekday_after (f x) = ap f (sym e) ∙ w.after x h k in
      let b : weekday z ≡ weekday_after (weekday x) = ap (λ (v : Day). weekday v) (sym e) ∙ day_after_lem x h in
      record {
        there = λ q. a ∙ ap (λ (v : ℕ). weekday_after v) q ∙ sym b;
        back = λ q. after_same (f x) (weekday x) (w.from_monday x h) (w.upto_sunday x h) (omega arith) (omega arith) (sym a ∙ q ∙ b);
      }

  on : {x z v : Day} → Both x z → Both z v → Both x v
  on a b = record { there = λ q. b.there (a.there q); back = λ q. a.back (b.back q) }

  same : {x : Day} → Both x x
  same = record { there = λ q. q; back = λ q. q }

  -- the first day of a month, and any day of it
  in_one_month : (y m : ℕ) → 1 ≤ y → y ≤ 9999 → 1 ≤ m → m ≤ 12 → (d : ℕ) → 1 ≤ d → d ≤ month_length y m → Both (dated y m 1) (dated y m d)
  in_one_month y m a b c e zero h g = absurd (omega arith)
  in_one_month y m a b c e (suc zero) h g = same
  in_one_month y m a b c e (suc (suc k)) h g =
      let x : InCalendar (dated y m (suc k)) = record { year_least = a; year_most = b; month_least = c; month_most = e; day_least = omega arith; day_most = omega arith } in
      let z : InCalendar (dated y m (suc (suc k))) = record { year_least = a; year_most = b; month_least = c; month_most = e; day_least = h; day_most = g } in
      let l : suc k < month_length y m = g in
      let q : day_after (dated y m (suc k)) ≡ dated y m (suc (suc k)) = in_month y m (suc k) l ∙ ap (dated y m) (add-one (suc k)) in
      on (in_one_month y m a b c e (suc k) (omega arith) (omega arith)) (both x z q)

  -- the first day of a year, and of any month of it
  in_one_year : (y : ℕ) → 1 ≤ y → y ≤ 9999 → (m : ℕ) → 1 ≤ m → m ≤ 12 → Both (dated y 1 1) (dated y m 1)
  in_one_year y a b zero h g = absurd (omega arith)
  in_one_year y a b (suc zero) h g = same
  in_one_year y a b (suc (suc k)) h g =
      let n : ℕ = month_length y (suc k) in
      let l = month_long y (suc k) (omega arith) (omega arith) in
      let x : InCalendar (dated y (suc k) n) = record { year_least = a; year_most = b; month_least = omega arith; month_most = omega arith; day_least = omega arith; day_most = omega arith } in
      let z : InCalendar (dated y (suc (suc k)) 1) = first_day y (suc (suc k)) a b h g in
      let q : day_after (dated y (suc k) n) ≡ dated y (suc (suc k)) 1 = month_ends y (suc k) (omega arith) ∙ ap (λ (i : ℕ). dated y i 1) (add-one (suc k)) in
      on (in_one_year y a b (suc k) (omega arith) (omega arith)) (on (in_one_month y (suc k) a b (omega arith) (omega arith) n (omega arith) (omega arith)) (both x z q))

  -- the first day of all, and of any year
  in_all_years : (y : ℕ) → 1 ≤ y → y ≤ 9999 → Both (dated 1 1 1) (dated y 1 1)
  in_all_years zero h g = absurd (omega arith)
  in_all_years (suc zero) h g = same
  in_all_years (suc (suc k)) h g =
      let x : InCalendar (dated (suc k) 12 31) = record { year_least = omega arith; year_most = omega arith; month_least = omega arith; month_most = omega arith; day_least = omega arith; day_most = omega arith } in
      let z : InCalendar (dated (suc (suc k)) 1 1) = first_day (suc (suc k)) 1 h g (omega arith) (omega arith) in
      let q : day_after (dated (suc k) 12 31) ≡ dated (suc (suc k)) 1 1 = year_turns (suc k) ∙ ap (λ (i : ℕ). dated i 1 1) (add-one (suc k)) in
      let a : 1 ≤ suc k = omega arith in
      let b : suc k ≤ 9999 = omega arith in
      let v : Both (dated (suc k) 1 1) (dated (suc k) 12 31) = on (in_one_year (suc k) a b 12 (omega arith) (omega arith)) (in_one_month (suc k) 12 a b (omega arith) (omega arith) 31 (omega arith) (omega arith)) in
      on (in_all_years (suc k) a b) (on v (both x z q))

  -- the first day of all, and any day
  to_any_day : (x : Day) → InCalendar x → Both (dated 1 1 1) x
  to_any_day x h =
      on (in_all_years x.year h.year_least h.year_most) (on (in_one_year x.year h.year_least h.year_most x.month h.month_least h.month_most)
      (in_one_month x.year x.month h.year_least h.year_most h.month_least h.month_most x.day h.day_least h.day_most))

  -- the weekday of every day of the years 0001 to 9999 is fixed by the two facts
  pub weekday_fixed : (x : Day) → InCalendar x → f x ≡ weekday x
  weekday_fixed x h =
      let k : InCalendar (dated 1979 7 8) = record { year_least = omega arith; year_most = omega arith; month_least = omega arith; month_most = omega arith; day_least = omega arith; day_most = omega arith } in
      (to_any_day x h).there ((to_any_day (dated 1979 7 8) k).back (w.sunday ∙ sym a_sunday))
