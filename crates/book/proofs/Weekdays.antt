-- The weekday by arithmetic is the weekday of the rules, for every day of the calendar.
use Prim.Native.Nat.{ℕ, zero, suc, ◌+◌, ◌-◌, ◌*◌, ◌/◌, ◌%◌, ◌≤◌}
use mathlib.Core.Path.{◌≡◌, refl, ap, ◌∙◌}
use mathlib.Core.Bool.{Bool, true, false, cond, not, ◌&&◌, ◌||◌}
use native.Mathlib.Omega.{arith}
use native.Mathlib.Numerals.{add-one}
use borrow.Author.Tests.{eqb-true, eqb-false, ltb-true, ltb-false}
use lib.Dec.{ltb, eqb}
use Rattle.rules.specs.Values.{leap}
use Rattle.rules.specs.Calendar.{dated, year_length, days_of_years, days_of_months, day_number, weekday}
use Rattle.rules.proofs.Tables.Tests.{upto_either}
use Rattle.rules.proofs.Book.Calendar.{month_in, year_more}
use Rattle.book.specs.Dates.{weekday_of, weekday_by}

-- ---- leap years, counted

by_four : (y : ℕ) (t : Bool) → eqb ((y + 1) % 4) 0 ≡ t → (y + 1) / 4 ≡ y / 4 + cond t 1 0
by_four y true h = omega (arith, eqb-true ((y + 1) % 4) 0 h)
by_four y false h = let k = eqb-false ((y + 1) % 4) 0 h in omega arith

by_hundred : (y : ℕ) (t : Bool) → eqb ((y + 1) % 100) 0 ≡ t → (y + 1) / 100 ≡ y / 100 + cond t 1 0
by_hundred y true h = omega (arith, eqb-true ((y + 1) % 100) 0 h)
by_hundred y false h = let k = eqb-false ((y + 1) % 100) 0 h in omega arith

by_four_hundred : (y : ℕ) (t : Bool) → eqb ((y + 1) % 400) 0 ≡ t → (y + 1) / 400 ≡ y / 400 + cond t 1 0
by_four_hundred y true h = omega (arith, eqb-true ((y + 1) % 400) 0 h)
by_four_hundred y false h = let k = eqb-false ((y + 1) % 400) 0 h in omega arith

leaps : (y : ℕ) (a b c : Bool) → eqb (y % 4) 0 ≡ a → eqb (y % 100) 0 ≡ b → eqb (y % 400) 0 ≡ c → cond ((a && not b) || c) 366 365 + cond b 1 0 ≡ 365 + cond a 1 0 + cond c 1 0
leaps y true true true p q r = refl
leaps y true true false p q r = refl
leaps y true false true p q r = absurd (eqb-false (y % 100) 0 q (omega (arith, eqb-true (y % 400) 0 r)))
leaps y true false false p q r = refl
leaps y false true c p q r = absurd (eqb-false (y % 4) 0 p (omega (arith, eqb-true (y % 100) 0 q)))
leaps y false false true p q r = absurd (eqb-false (y % 4) 0 p (omega (arith, eqb-true (y % 400) 0 r)))
leaps y false false false p q r = refl

-- the days of the years 0 to y
through : (y : ℕ) → days_of_years (y + 1) + y / 100 ≡ 365 * y + 366 + y / 4 + y / 400
unfolding days_of_years
through zero = refl
through (suc y) =
    rw (← add-one y) (omega (arith, year_more (y + 1), through y, by_four y _ refl, by_hundred y _ refl, by_four_hundred y _ refl, leaps (y + 1) _ _ _ refl refl refl))

-- ---- months, counted from March

-- the days of the months before one, in a leap year or not
abbrev months_of_year : Bool → ℕ → ℕ
months_of_year t zero = 0
months_of_year t (suc m) = months_of_year t m + month_in t m

months_in : (y m : ℕ) → days_of_months y m ≡ months_of_year (leap y) m
unfolding days_of_months
months_in y zero = refl
months_in y (suc m) = ap (λ (n : ℕ). n + month_in (leap y) m) (months_in y m)

-- March is the month 0 of its year, January and February are the months 10 and 11 of the year before, which has 306 days before them
from_march : (y m : ℕ) → 1 ≤ m → m ≤ 12 → days_of_months y m + 306 ≡ (m + 9) / 12 * year_length y + (153 * ((m + 9) % 12) + 2) / 5
from_march y zero h g = absurd (omega arith)
from_march y (suc n) h g =
    ap (λ (k : ℕ). k + 306) (months_in y (suc n)) ∙
    eqb-true (months_of_year (leap y) (suc n) + 306) ((suc n + 9) / 12 * year_length y + (153 * ((suc n + 9) % 12) + 2) / 5)
    (upto_either (λ t i. eqb (months_of_year t (suc i) + 306) ((suc i + 9) / 12 * cond t 366 365 + (153 * ((suc i + 9) % 12) + 2) / 5)) 12 refl refl (leap y) n (omega arith))

-- ---- the weekday

-- 400 years are 146,097 days, which are whole weeks
whole_weeks : (z q h c f d n years : ℕ) → h ≤ q → years + h ≡ 365 * z + 366 + q + c → n + 306 ≡ years + f + d →
    365 * (z + 400) + (q + 100) - (h + 4) + (c + 1) + f + d + 1 ≡ n + 4 + 7 * 20862
whole_weeks z q h c f d n years l e k = omega arith

weeks : (z f d n : ℕ) → n + 306 ≡ days_of_years (z + 1) + f + d → weekday_of (z + 400) f d ≡ 1 + (n + 4) % 7
weeks z f d n e =
    let a : (z + 400) / 4 ≡ z / 4 + 100 = omega arith in
    let b : (z + 400) / 100 ≡ z / 100 + 4 = omega arith in
    let c : (z + 400) / 400 ≡ z / 400 + 1 = omega arith in
    let l : z / 100 ≤ z / 4 = omega arith in
    let k : 365 * (z + 400) + (z + 400) / 4 - (z + 400) / 100 + (z + 400) / 400 + f + d + 1 ≡ n + 4 + 7 * 20862 =
    rw (a, b, c) (whole_weeks z (z / 4) (z / 100) (z / 400) f d n (days_of_years (z + 1)) l (through z) e) in
    ap (λ (i : ℕ). 1 + i % 7) k ∙ same_rest (n + 4)
  where
    same_rest : (n : ℕ) → 1 + (n + 7 * 20862) % 7 ≡ 1 + n % 7
    same_rest n = omega arith

pub weekday_by_lem : (y m d : ℕ) → 1 ≤ y → 1 ≤ m → m ≤ 12 → weekday_by y m d ≡ weekday (dated y m d)
weekday_by_lem y m d h g l = go (ltb m 3) refl
  where
    f : ℕ
    f = (153 * ((m + 9) % 12) + 2) / 5

    go : (t : Bool) → ltb m 3 ≡ t → weekday_by y m d ≡ weekday (dated y m d)
    go true q =
        let s = ltb-true m 3 q in
        let u : (m + 9) / 12 ≡ 0 = omega arith in
        let v : days_of_months y m + 306 ≡ f = from_march y m g l ∙ rw u (omega arith) in
        let z : y + 399 + (m + 9) / 12 ≡ (y - 1) + 400 = omega arith in
        let w : days_of_years (y - 1 + 1) ≡ days_of_years y = ap (λ (k : ℕ). days_of_years k) (omega arith) in
        ap (λ (k : ℕ). weekday_of k f d) z ∙ weeks (y - 1) f d (day_number (dated y m d)) (omega arith)
    go false q =
        let s = ltb-false m 3 q in
        let u : (m + 9) / 12 ≡ 1 = omega arith in
        let v : days_of_months y m + 306 ≡ year_length y + f = from_march y m g l ∙ rw u (omega arith) in
        let z : y + 399 + (m + 9) / 12 ≡ y + 400 = omega arith in
        ap (λ (k : ℕ). weekday_of k f d) z ∙ weeks y f d (day_number (dated y m d)) (omega (arith, year_more y))
