-- The calendar: its formulas, checked month by month, and the day of a year.
use Prim.Native.Nat.{ℕ, suc, ◌+◌, ◌-◌, ◌*◌, ◌/◌, ◌%◌, ◌≤◌, ◌<◌, min}
use mathlib.Core.Bool.{Bool, true, false, cond, ◌&&◌, ◌||◌, and-false}
use mathlib.Core.Option.{none, some}
use mathlib.Core.Path.{◌≡◌, refl, sym, ap, ◌∙◌}
use mathlib.Core.List.{List, [], ◌∷◌, ◌++◌}
use native.Mathlib.Omega.{arith}
use borrow.Author.Tests.{eqb-true, eqb-false, ne_eqb, leb-true, le-leb, lt-leb, le-ltb}
use lib.Dec.{eqb, leb, ltb}
use lib.ListN.{get_or, take, drop, get_or-eq_default}
use lib.Seq.{split_at}
use Rattle.rules.specs.Values.{number, leap, month_length, nth_day, day_of}
use Rattle.rules.proofs.Words.Runs.{both}
use Rattle.rules.proofs.Tables.Tests.{upto, upto_either}
use Rattle.classes.specs.Places.{part}
use Rattle.forms.specs.declared.Span.{Span}
use Rattle.forms.specs.declared.Date.{Date}
use Rattle.forms.specs.declared.Date.TheVariants.{InYear, InMonth}
use Rattle.forms.specs.Forms.{on, date_of}
use Rattle.std.specs.Prelude.{Some, None}
use Rattle.words.specs.Days.{months, length_in, total, days_before, Before, InCalendar, day_if_any, YearDay, MonthDay, year_of}

-- of a month that the test does not leave out
unless : (a b : Bool) → (a || b) ≡ true → a ≡ false → b ≡ true
unless a b h e = rw e at h

-- ---- the length of a month

-- but for February, months of 31 and of 30 days in turns
abbrev turns : ℕ → ℕ
turns m = 30 + (m + m / 8) % 2

pub month_0 : (y m : ℕ) → m ≡ 0 → 0 ≡ month_length y m
month_0 y m h = rw h

pub past_december : (y m : ℕ) → 12 < m → 0 ≡ month_length y m
past_december y m h =
    rw (ne_eqb m 2 (λ e. omega arith))
    (sym (get_or-eq_default (0 ∷ 31 ∷ 28 ∷ 31 ∷ 30 ∷ 31 ∷ 30 ∷ 31 ∷ 31 ∷ 30 ∷ 31 ∷ 30 ∷ 31 ∷ []) 0 {n = m} h))

pub in_turns : (y m : ℕ) → (m ≡ 0 → ⊥) → m ≤ 12 → (m ≡ 2 → ⊥) → turns m ≡ month_length y m
in_turns y m z l n =
    let h = upto_either (λ t i. (eqb i 0 || eqb i 2) || eqb (turns i) (length_in t i)) 13 refl refl (leap y) m (omega arith) in
    eqb-true (turns m) (month_length y m) (unless (eqb m 0 || eqb m 2) (eqb (turns m) (month_length y m)) h (rw (ne_eqb m 0 z, ne_eqb m 2 n)))

pub leap_february : (y m : ℕ) (t : Bool) → m ≡ 2 → t ≡ leap y → t ≡ true → 29 ≡ month_length y m
leap_february y m t h e f = rw (h, sym e ∙ f)

pub plain_february : (y m : ℕ) (t : Bool) → m ≡ 2 → t ≡ leap y → t ≡ false → 28 ≡ month_length y m
plain_february y m t h e f = rw (h, sym e ∙ f)

-- ---- the days before a month

abbrev passed : Bool → ℕ → ℕ
passed t i = total t (take i months)

about : (t : Bool) (i : ℕ) → i < 12 → (passed t i + 31 ≤ 31 * suc i) × (31 * suc i ≤ passed t i + 38)
about t i l =
    let b = both (leb (passed t i + 31) (31 * suc i)) (leb (31 * suc i) (passed t i + 38)) (upto_either (λ u j. leb (passed u j + 31) (31 * suc j) && leb (31 * suc j) (passed u j + 38)) 12 refl refl t i l) in
    (leb-true (passed t i + 31) (31 * suc i) b.0, leb-true (31 * suc i) (passed t i + 38) b.1)

-- whatever gives the days before a month keeps the bounds
pub before_is : (y m r : ℕ) → 1 ≤ m → m ≤ 12 → r ≡ days_before y m → Before y m r
unfolding days_before
before_is y m r h k e =
    let b = about (leap y) (m - 1) (omega arith) in
    record { is = e; most = omega (arith, b.0); least = omega (arith, b.1) }

-- so many, if February had 30 days
abbrev as_if30 : ℕ → ℕ
as_if30 m = 30 * (m - 1) + (m + m / 8) / 2

pub before_march : (y m : ℕ) → 1 ≤ m → m < 3 → Before y m (as_if30 m)
unfolding days_before
before_march y m h l =
    before_is y m (as_if30 m) h (omega arith)
    (eqb-true (as_if30 m) (passed (leap y) (m - 1)) (upto_either (λ t i. eqb (as_if30 i) (passed t (i - 1))) 3 refl refl (leap y) m l))

-- what February lacks of them
abbrev lacking : Bool → ℕ
lacking t = cond t 1 2

from_march : (t : Bool) (m : ℕ) → 3 ≤ m → m ≤ 12 → as_if30 m - lacking t ≡ passed t (m - 1)
from_march t m h k =
    let q = upto_either (λ u i. ltb i 3 || eqb (as_if30 i - lacking u) (passed u (i - 1))) 13 refl refl t m (omega arith) in
    eqb-true (as_if30 m - lacking t) (passed t (m - 1)) (unless (ltb m 3) (eqb (as_if30 m - lacking t) (passed t (m - 1))) q (le-ltb m 3 h))

pub leap_before : (y m : ℕ) (t : Bool) → 3 ≤ m → m ≤ 12 → t ≡ leap y → t ≡ true → Before y m (as_if30 m - 1)
unfolding days_before
leap_before y m t h k e f = before_is y m (as_if30 m - 1) (omega arith) k (rw (sym e ∙ f) (from_march true m h k))

pub plain_before : (y m : ℕ) (t : Bool) → 3 ≤ m → m ≤ 12 → t ≡ leap y → t ≡ false → Before y m (as_if30 m - 2)
unfolding days_before
plain_before y m t h k e f = before_is y m (as_if30 m - 2) (omega arith) k (rw (sym e ∙ f) (from_march false m h k))

-- a month has 28 days at least, and the next month begins behind it
after : (t : Bool) (i : ℕ) → i < 11 → passed t (suc i) ≡ passed t i + length_in t (suc i)
after t i l = eqb-true (passed t (suc i)) (passed t i + length_in t (suc i)) (upto_either (λ u j. eqb (passed u (suc j)) (passed u j + length_in u (suc j))) 11 refl refl t i l)

short : (t : Bool) (i : ℕ) → i < 12 → 28 ≤ length_in t (suc i)
short t i l = leb-true 28 (length_in t (suc i)) (upto_either (λ u j. leb 28 (length_in u (suc j))) 12 refl refl t i l)

whole_year : (t : Bool) → total t months ≡ passed t 11 + 31
whole_year true = refl
whole_year false = refl

-- ---- the nth day

nth_in : (y : ℕ) (a : List ℕ) (m : ℕ) (b : List ℕ) (n : ℕ) → total (leap y) a < n → n ≤ total (leap y) a + month_length y m →
    nth_day y (a ++ m ∷ b) n ≡ some (record { year = y; month = m; day = n - total (leap y) a })
nth_in y [] m b n h k =
    let z : n - 0 ≡ n = omega arith in
    rw (le-leb n (month_length y m) (omega arith), z)
nth_in y (j ∷ a) m b n h k =
    rw (lt-leb n (month_length y j) (omega arith))
    (nth_in y a m b (n - month_length y j) (omega arith) (omega arith) ∙ ap (λ (d : ℕ). some (record { year = y; month = m; day = d })) (omega arith))

nth_out : (y : ℕ) (a : List ℕ) (n : ℕ) → total (leap y) a < n → nth_day y a n ≡ none
nth_out y [] n h = refl
nth_out y (j ∷ a) n h = rw (lt-leb n (month_length y j) (omega arith)) (nth_out y a (n - month_length y j) (omega arith))

month_at : (i : ℕ) → i < 12 → months ≡ take i months ++ suc i ∷ drop (suc i) months
month_at i l =
    let e : get_or months i 0 ≡ suc i = eqb-true (get_or months i 0) (suc i) (upto (λ j. eqb (get_or months j 0) (suc j)) 12 refl i l) in
    split_at months i 0 l ∙ ap (λ (m : ℕ). take i months ++ m ∷ drop (suc i) months) e

is_day : (y n m a : ℕ) → 1 ≤ m → m ≤ 12 → Before y m a → a < n → n ≤ a + month_length y m → nth_day y months n ≡ some (record { year = y; month = m; day = n - a })
unfolding days_before
is_day y n m a h k b l f =
    let q : suc (m - 1) ≡ m = omega arith in
    let e : passed (leap y) (m - 1) ≡ a = sym b.is in
    let g : month_length y (suc (m - 1)) ≡ month_length y m = ap (month_length y) q in
    ap (λ (s : List ℕ). nth_day y s n) (month_at (m - 1) (omega arith))
    ∙ nth_in y (take (m - 1) months) (suc (m - 1)) (drop (suc (m - 1)) months) n (omega arith) (omega arith)
    ∙ rw (q, e)

module _ (y n : ℕ) where
  pub no_year : y ≡ 0 → YearDay y n None
  no_year h = record { day = λ k e. rw h }

  pub no_count : n ≡ 0 → YearDay y n None
  no_count h = record { day = λ k e. let q : k ≡ 0 = omega arith in rw (q, and-false (leb 1 y)) }

  pub year_end : (d : ℕ) → (y ≡ 0 → ⊥) → (n ≡ 0 → ⊥) → Before y 12 d → d + 31 < n → YearDay y n None
  unfolding days_before
  year_end d z x b h = record {
    day = λ k e.
        let l : total (leap y) months < k = omega (arith, b.is, whole_year (leap y)) in
        rw (le-leb 1 y (omega arith), le-leb 1 k (omega arith), nth_out y months k l);
  }

  counted : (m a : ℕ) → (y ≡ 0 → ⊥) → (n ≡ 0 → ⊥) → n ≤ 372 → 1 ≤ m → m ≤ 12 → Before y m a → a < n → n ≤ a + month_length y m →
      YearDay y n (Some (record { year = y; month = m; day = n - a }))
  counted m a z x u h k b l f = record {
    day = λ j e.
        let q : j ≡ n = omega arith in
        rw (q, le-leb 1 y (omega arith), le-leb 1 n (omega arith)) (is_day y n m a h k b l f);
  }

  pub this_month : (d a l : ℕ) → (y ≡ 0 → ⊥) → (n ≡ 0 → ⊥) → Before y 12 d → n ≤ d + 31 → Before y ((n - 1) / 31 + 1) a → l ≡ month_length y ((n - 1) / 31 + 1) → n ≤ a + l →
      YearDay y n (Some (record { year = y; month = (n - 1) / 31 + 1; day = n - a }))
  this_month d a l z x b h c e f = counted ((n - 1) / 31 + 1) a z x (omega (arith, b.most)) (omega arith) (omega (arith, b.most)) c (omega (arith, c.most)) (omega arith)

  not_last : (d a l m : ℕ) → Before y 12 d → n ≤ d + 31 → m ≤ 12 → Before y m a → l ≡ month_length y m → a + l < n → m < 12
  not_last d a l m b h k c e f = go (eqb m 12) refl
    where
      go : (t : Bool) → eqb m 12 ≡ t → m < 12
      go false t = let w = eqb-false m 12 t in omega arith
      go true t =
          let q : m ≡ 12 = eqb-true m 12 t in
          let g : a ≡ days_before y 12 = rw q at c.is in
          let j : l ≡ 31 = rw q at e in
          absurd (omega (arith, b.is))

  pub next_month : (d a l : ℕ) → (y ≡ 0 → ⊥) → (n ≡ 0 → ⊥) → Before y 12 d → n ≤ d + 31 → Before y ((n - 1) / 31 + 1) a → l ≡ month_length y ((n - 1) / 31 + 1) → a + l < n →
      YearDay y n (Some (record { year = y; month = (n - 1) / 31 + 1 + 1; day = n - (a + l) }))
  unfolding days_before
  next_month d a l z x u h c e f =
      let k : (n - 1) / 31 < 11 = omega (arith, not_last d a l ((n - 1) / 31 + 1) u h (omega (arith, u.most)) c e f) in
      let q : (n - 1) / 31 + 1 ≡ suc ((n - 1) / 31) = omega arith in
      let p : (n - 1) / 31 + 1 + 1 ≡ suc (suc ((n - 1) / 31)) = omega arith in
      let i : (n - 1) / 31 + 1 - 1 ≡ (n - 1) / 31 = omega arith in
      let j : (n - 1) / 31 + 1 + 1 - 1 ≡ suc ((n - 1) / 31) = omega arith in
      let ai : a ≡ passed (leap y) ((n - 1) / 31) = c.is ∙ ap (passed (leap y)) i in
      let li : l ≡ length_in (leap y) (suc ((n - 1) / 31)) = e ∙ ap (month_length y) q in
      let bi : a + l ≡ passed (leap y) (suc ((n - 1) / 31)) = omega (arith, ai, li, after (leap y) ((n - 1) / 31) k) in
      let v : Before y ((n - 1) / 31 + 1 + 1) (a + l) = before_is y ((n - 1) / 31 + 1 + 1) (a + l) (omega arith) (omega arith) (bi ∙ ap (passed (leap y)) (sym j)) in
      let s : 28 ≤ month_length y ((n - 1) / 31 + 1 + 1) = rw p (short (leap y) (suc ((n - 1) / 31)) (omega arith)) in
      counted ((n - 1) / 31 + 1 + 1) (a + l) z x (omega (arith, u.most)) (omega arith) (omega arith) v f (omega (arith, v.least, s))

-- ---- a month and a day of it

module _ (y m d : ℕ) where
  pub month_no_year : y ≡ 0 → MonthDay y m d None
  month_no_year h = record { day = λ j k e f. rw h }

  pub no_month : m ≡ 0 → MonthDay y m d None
  no_month h = record { day = λ j k e f. let q : j ≡ 0 = omega arith in rw (q, and-false (leb 1 y)) }

  pub late_month : 12 < m → MonthDay y m d None
  late_month h = record { day = λ j k e f. rw (lt-leb j 12 (omega arith), and-false (leb 1 j), and-false (leb 1 y)) }

  pub no_day : d ≡ 0 → MonthDay y m d None
  no_day h = record { day = λ j k e f. let q : k ≡ 0 = omega arith in rw (q, and-false (leb 1 j && leb j 12), and-false (leb 1 y)) }

  pub late_day : (l : ℕ) → m ≤ 12 → l ≡ month_length y m → l < d → MonthDay y m d None
  late_day l h q g = record {
    day = λ j k e f.
        let x : j ≡ m = omega arith in
        rw (x, lt-leb k (month_length y m) (omega arith), and-false (leb 1 k), and-false (leb 1 m && leb m 12), and-false (leb 1 y));
  }

  pub day_found : (l : ℕ) → (y ≡ 0 → ⊥) → (m ≡ 0 → ⊥) → m ≤ 12 → (d ≡ 0 → ⊥) → l ≡ month_length y m → l ≤ 31 → d ≤ l → MonthDay y m d (Some (record { year = y; month = m; day = d }))
  day_found l z x h c q s g = record {
    day = λ j k e f.
        let u : j ≡ m = omega arith in
        let v : k ≡ d = omega arith in
        rw (u, v, le-leb 1 y (omega arith), le-leb 1 m (omega arith), le-leb m 12 h, le-leb 1 d (omega arith), le-leb d (month_length y m) (omega arith));
  }

-- ---- a date of a word

pub year_small : (w : List ℕ) (date : Date) (y : ℕ) → year_of (date_of w date) ≤ 9999 → y ≡ min 10000 (number (part w 0 4)) → y ≤ 9999
year_small w (InYear n) y h e = omega arith
year_small w (InMonth m d) y h e = omega arith

pub by_year : (w : List ℕ) (date : Date) (n : Span) (y k : ℕ) {r : InCalendar} → year_of (date_of w date) ≤ 9999 → date ≡ InYear n → y ≡ min 10000 (number (part w 0 4)) → k ≡ min 10000 (number (on w n)) → YearDay y k r →
    day_of (date_of w date) ≡ day_if_any r
by_year w date n y k h q e f v =
    let z : number (part w 0 4) ≡ y = omega (arith, year_small w date y h e) in
    rw (q, z) (v.day (number (on w n)) f)

pub by_month : (w : List ℕ) (date : Date) (m d : Span) (y j k : ℕ) {r : InCalendar} → year_of (date_of w date) ≤ 9999 → date ≡ InMonth m d → y ≡ min 10000 (number (part w 0 4)) → j ≡ min 10000 (number (on w m)) → k ≡ min 10000 (number (on w d)) → MonthDay y j k r →
    day_of (date_of w date) ≡ day_if_any r
by_month w date m d y j k h q e f g v =
    let z : number (part w 0 4) ≡ y = omega (arith, year_small w date y h e) in
    rw (q, z) (v.day (number (on w m)) (number (on w d)) f g)
