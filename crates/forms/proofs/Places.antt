-- The places that the code hands on, from the bytes that it has tested.
use Prim.Native.Nat.{ℕ, ◌+◌, ◌≤◌}
use mathlib.Core.Bool.{true, false}
use mathlib.Core.Logic.{◌⊎◌, inl, inr}
use mathlib.Core.Path.{◌≡◌, sym, ◌∙◌}
use mathlib.Core.List.{List}
use native.Mathlib.Nat.{add-zero}
use native.Mathlib.Omega.{arith}
use borrow.Author.Tests.{eq-eqb, ne_eqb}
use lib.Dec.{eqb}
use lib.ListN.{length, get_or}
use Rattle.classes.specs.Places.{ByteAt}
use Rattle.forms.specs.declared.Clock.{Clock}
use Rattle.forms.specs.declared.Stamp.{Stamp}
use Rattle.forms.specs.declared.Stamp.TheVariants.{Undated}
use Rattle.forms.specs.declared.Span.{Span}
use Rattle.forms.specs.declared.Date.TheVariants.{InYear, InMonth}
use Rattle.std.specs.Prelude.{Option, Some}
use Rattle.forms.specs.Laid.{Between, DigitsTo, DigitsAt, Behind, behind, SignTo, a_minus, a_plus, no_sign, MonthTo, month_to, DateTo, year_to, day_to, StampTo, undated_to, HourTo, hour_to, MinuteTo, minute_to, SecondTo, second_to, ClockTo, OffsetTo, offset_to}
use Rattle.forms.specs.Forms.{Signed, minus, plus, unsigned}
use Rattle.forms.proofs.Counts.{with_many, with_digits}

module _ (w : List ℕ) (at x k : ℕ) (y : ByteAt w at x) where
  pub byte_is : x ≡ k → get_or w at 0 ≡ k
  byte_is q = sym y.is ∙ q

  pub byte_not : (x ≡ k → ⊥) → get_or w at 0 ≡ k → ⊥
  byte_not n q = n (y.is ∙ q)

-- digits with no sign before them
pub digits_first : (w : List ℕ) (from at : ℕ) → from ≡ 0 → DigitsTo w from at → DigitsTo w 0 at
digits_first w from at q d = rw q at d

-- ---- the sign of a number

pub a_sign : (b : ℕ) → (b ≡ 43) ⊎ (b ≡ 45) → Signed b 1
a_sign b (inl q) = plus (λ z. omega arith) q
a_sign b (inr q) = minus q

-- it is as long as the code says
pub sign_to : (w : List ℕ) (at x n : ℕ) → ByteAt w at x → Signed x n → SignTo w at (eqb x 45) (at + n)
sign_to w at x n y s = go s
  where
    go : {n : ℕ} → Signed x n → SignTo w at (eqb x 45) (at + n)
    go (minus q) = rw (eq-eqb x 45 q) (a_minus (sym y.is ∙ q))
    go (plus n q) = rw (ne_eqb x 45 n) (a_plus (sym y.is ∙ q))
    go (unsigned n n₂) = rw (ne_eqb x 45 n, add-zero at) (no_sign (λ z. n (y.is ∙ z)) (λ z. n₂ (y.is ∙ z)))

pub sign_within : (w : List ℕ) (at x n : ℕ) → at ≤ length w → ByteAt w at x → Signed x n → at + n ≤ length w
sign_within w at x n h y s = go s
  where
    go : {n : ℕ} → Signed x n → at + n ≤ length w
    go (minus q) = omega (arith, y.inside)
    go (plus n q) = omega (arith, y.inside)
    go (unsigned n n₂) = omega arith

-- ---- digits that are counted

-- the month of a date, or its day in the year
module _ (w : List ℕ) (e : ℕ) (d : DigitsTo w 5 e) (o : Option Span) (s : Span) (q : o ≡ Some s) where
  pub month_on : Between 5 e 2 o → get_or w e 0 ≡ 45 → Behind (MonthTo w s) (e + 1)
  month_on b h = with_many 5 e 2 o b s q (λ s. Behind (MonthTo w s) (e + 1)) (λ k. behind (month_to d h))

  pub year_on : Between 5 e 3 o → (get_or w e 0 ≡ 45 → ⊥) → DateTo w (InYear s) e
  year_on b n = with_many 5 e 3 o b s q (λ s. DateTo w (InYear s) e) (λ k. year_to d n)

pub first_hour : (w : List ℕ) (e : ℕ) → DigitsTo w 0 e → (o : Option Span) (s : Span) → Between 0 e 2 o → o ≡ Some s → Behind (HourTo w Undated s) (e + 1)
first_hour w e d o s b q = with_many 0 e 2 o b s q (λ s. Behind (HourTo w Undated s) (e + 1)) (λ k. behind (hour_to undated_to d))

module _ (w : List ℕ) (at : ℕ) (o : Option Span) (s : Span) (q : o ≡ Some s) where
  pub day_on : (m : Span) → DigitsAt w at 2 o → Behind (MonthTo w m) at → DateTo w (InMonth m s) s.upto
  day_on m d b = with_digits w at 2 o d s q (λ s. DateTo w (InMonth m s) s.upto) (λ e t k. day_to b t)

  pub hour_on : (t : Stamp) → DigitsAt w at 2 o → StampTo w t at → Behind (HourTo w t s) (s.upto + 1)
  hour_on t d b = with_digits w at 2 o d s q (λ s. Behind (HourTo w t s) (s.upto + 1)) (λ e k m. behind (hour_to b k))

  pub minute_on : (t : Stamp) (h : Span) → DigitsAt w at 2 o → Behind (HourTo w t h) at → MinuteTo w t h s s.upto
  minute_on t h d b = with_digits w at 2 o d s q (λ s. MinuteTo w t h s s.upto) (λ e k m. minute_to b k)

  pub second_on : (t : Stamp) (h m : Span) → DigitsAt w (at + 1) 2 o → MinuteTo w t h m at → get_or w at 0 ≡ 58 → SecondTo w t h m s s.upto
  second_on t h m d b c = with_digits w (at + 1) 2 o d s q (λ s. SecondTo w t h m s s.upto) (λ e k z. second_to b c k)

  pub digits_within : (most : ℕ) → DigitsAt w at most o → s.upto ≤ length w
  digits_within most d = with_digits w at most o d s q (λ s. s.upto ≤ length w) (λ e k m. k.within)

-- ---- the offset of a time

module _ (w : List ℕ) (s : Stamp) (c : Clock) (at : ℕ) (t : ClockTo w s c at) where
  pub zone_minus : get_or w at 0 ≡ 45 → OffsetTo w s c true (at + 1)
  zone_minus q = offset_to t (a_minus q) (omega arith)

  pub zone_plus : get_or w at 0 ≡ 43 → OffsetTo w s c false (at + 1)
  zone_plus q = offset_to t (a_plus q) (omega arith)
