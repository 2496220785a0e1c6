-- A word has one form, its spans and signs included: what is written says of which kind it is, and the places say the rest.
use Prim.Native.Nat.{ℕ, ◌+◌, ◌≤◌}
use mathlib.Core.Bool.{Bool, true, false, true≢false}
use mathlib.Core.Option.{Option, none, some}
use mathlib.Core.Path.{◌≡◌, refl, sym, ap, subst, ◌∙◌}
use mathlib.Core.List.{List}
use native.Mathlib.Omega.{arith}
use lib.ListN.{length, get_or}
use Rattle.rules.specs.Bytes.{alnum, front}
use Rattle.rules.specs.Values.{Zone as ZoneR, no_zone as no-zoneR, utc, signed_zone, Written, an_identifier, a_whole, a_based, a_decimal, a_date, a_time, a_date_time, a_range}
use Rattle.rules.specs.Modes.{base}
use Rattle.rules.proofs.Machine.Patterns.{G}
use Rattle.rules.proofs.Machine.Words.{g_word}
use Rattle.classes.specs.Places.{EndsAt}
use Rattle.classes.proofs.Once.{ends_once}
use Rattle.forms.specs.declared.Span.{Span}
use Rattle.forms.specs.declared.Date.{Date}
use Rattle.forms.specs.declared.Date.TheVariants.{InYear, InMonth}
use Rattle.forms.specs.declared.Clock.{Clock}
use Rattle.forms.specs.declared.Stamp.{Stamp}
use Rattle.forms.specs.declared.Stamp.TheVariants.{Undated, Dated}
use Rattle.forms.specs.declared.Zone.{Zone}
use Rattle.forms.specs.declared.Zone.TheVariants.{NoZone, Utc, Offset}
use Rattle.std.specs.Prelude.{Option as OptionS, Some, None}
use Rattle.forms.specs.declared.Form.TheVariants.{Name, Whole, Radix, Decimal, Day, Moment}
use Rattle.forms.specs.Laid.{Answer, piece, absent, DigitsTo, Between, as_many, not_as_many, DigitsAt, digits_at, Behind, behind, SignTo, a_minus, a_plus, no_sign, RadixTo, radix_to, BasedTo, based_to, MantissaTo, pointed_to, bare_to, PowerTo, power_to, MonthTo, month_to, DateTo, year_to, day_to, StampTo, undated_to, dated_to, HourTo, hour_to, MinuteTo, minute_to, SecondTo, second_to, ClockTo, minutes_to, seconds_to, decimals_to, OffsetTo, offset_to, Laid, no_form, name, whole, radix, unscaled, scaled, day, no_zone, by_z, by_hour, by_minute}
use Rattle.forms.specs.Forms.{zone_of, written, FormAt}

-- ---- which form

data Which : Type 0 where
  nothing names wholes radices decimals days locals utcs offsets : Which

-- a time by its zone
abbrev which_zone : Zone → Which
which_zone NoZone = locals
which_zone Utc = utcs
which_zone (Offset west h n) = offsets

abbrev zone_kind : ZoneR → Which
zone_kind no-zoneR = locals
zone_kind utc = utcs
zone_kind (signed_zone west h n) = offsets

abbrev which : Answer → Which
which None = nothing
which (Some Name) = names
which (Some (Whole neg ds)) = wholes
which (Some (Radix r neg ds)) = radices
which (Some (Decimal neg ds fs below x)) = decimals
which (Some (Day d)) = days
which (Some (Moment s c z)) = which_zone z

abbrev kind : Option Written → Which
kind none = nothing
kind (some (an_identifier n)) = names
kind (some (a_whole n)) = wholes
kind (some (a_based r neg ds)) = radices
kind (some (a_decimal neg ds fs z)) = decimals
kind (some (a_date d)) = days
kind (some (a_time t)) = zone_kind t.zone
kind (some (a_date_time d t)) = zone_kind t.zone
kind (some (a_range lo hi)) = nothing

-- whether a time has a date
abbrev dated : Option Written → ℕ
dated none = 0
dated (some (an_identifier n)) = 0
dated (some (a_whole n)) = 0
dated (some (a_based r neg ds)) = 0
dated (some (a_decimal neg ds fs z)) = 0
dated (some (a_date d)) = 0
dated (some (a_time t)) = 0
dated (some (a_date_time d t)) = 1
dated (some (a_range lo hi)) = 0

abbrev dated_number : Stamp → ℕ
dated_number Undated = 0
dated_number (Dated d) = 1

abbrev dates : Answer → ℕ
dates None = 0
dates (Some Name) = 0
dates (Some (Whole neg ds)) = 0
dates (Some (Radix r neg ds)) = 0
dates (Some (Decimal neg ds fs below x)) = 0
dates (Some (Day d)) = 0
dates (Some (Moment s c z)) = dated_number s

zone_is : (w : List ℕ) (z : Zone) → zone_kind (zone_of w z) ≡ which_zone z
zone_is w NoZone = refl
zone_is w Utc = refl
zone_is w (Offset west h n) = refl

kind_is : (w : List ℕ) (r : Answer) → kind (written w r) ≡ which r
kind_is w None = refl
kind_is w (Some Name) = refl
kind_is w (Some (Whole neg ds)) = refl
kind_is w (Some (Radix r neg ds)) = refl
kind_is w (Some (Decimal neg ds fs below x)) = refl
kind_is w (Some (Day d)) = refl
kind_is w (Some (Moment Undated c z)) = zone_is w z
kind_is w (Some (Moment (Dated d) c z)) = zone_is w z

dated_is : (w : List ℕ) (r : Answer) → dated (written w r) ≡ dates r
dated_is w None = refl
dated_is w (Some Name) = refl
dated_is w (Some (Whole neg ds)) = refl
dated_is w (Some (Radix r neg ds)) = refl
dated_is w (Some (Decimal neg ds fs below x)) = refl
dated_is w (Some (Day d)) = refl
dated_is w (Some (Moment Undated c z)) = refl
dated_is w (Some (Moment (Dated d) c z)) = refl

-- ---- the places of each part

-- two families of places that are one, one byte on
behind_once : {X : Type 0} (P : X → ℕ → Type 0) {x y : X} {a a' : ℕ} → ((e e' : ℕ) → P x e → P y e' → ◌≡◌ {A = X × ℕ} (x, e) (y, e')) →
    Behind (P x) a → Behind (P y) a' → ◌≡◌ {A = X × ℕ} (x, a) (y, a')
behind_once P once (behind {e} p) (behind {e = e'} q) = let h = once e e' p q in λ i. ((h i).0, (h i).1 + 1)

place : {X : Type 0} {x y : X} {a b : ℕ} → ◌≡◌ {A = X × ℕ} (x, a) (y, b) → a ≡ b
place {X} h = ap (λ (p : X × ℕ). p.1) h

further : {a b : ℕ} → a ≡ b → a + 1 ≡ b + 1
further h = ap (λ (n : ℕ). n + 1) h

module _ (w : List ℕ) where
  digits_once : {a a' e e' : ℕ} → a ≡ a' → DigitsTo w a e → DigitsTo w a' e' → e ≡ e'
  digits_once {e = e} q x y = ends_once (subst (λ (n : ℕ). DigitsTo w n e) q x) y

  byte_same : {a a' : ℕ} → a ≡ a' → get_or w a 0 ≡ get_or w a' 0
  byte_same q = ap (λ (n : ℕ). get_or w n 0) q

  sign_once : {at at' a a' : ℕ} {neg neg' : Bool} → at ≡ at' → SignTo w at neg a → SignTo w at' neg' a' → ◌≡◌ {A = Bool × ℕ} (neg, a) (neg', a')
  sign_once q (a_minus h) (a_minus k) = λ i. (true, q i + 1)
  sign_once q (a_minus h) (a_plus k) = absurd (omega (arith, byte_same q))
  sign_once q (a_minus h) (no_sign n m) = absurd (n (sym (byte_same q) ∙ h))
  sign_once q (a_plus h) (a_minus k) = absurd (omega (arith, byte_same q))
  sign_once q (a_plus h) (a_plus k) = λ i. (false, q i + 1)
  sign_once q (a_plus h) (no_sign n m) = absurd (m (sym (byte_same q) ∙ h))
  sign_once q (no_sign n m) (a_minus k) = absurd (n (byte_same q ∙ k))
  sign_once q (no_sign n m) (a_plus k) = absurd (m (byte_same q ∙ k))
  sign_once q (no_sign n m) (no_sign n' m') = λ i. (false, q i)

  sign_on : {at a : ℕ} {neg : Bool} → SignTo w at neg a → at ≤ a
  sign_on (a_minus h) = omega arith
  sign_on (a_plus h) = omega arith
  sign_on (no_sign n m) = omega arith

  -- ---- numbers

  radix_once : {r r' : Span} {e e' : ℕ} → RadixTo w r e → RadixTo w r' e' → ◌≡◌ {A = Span × ℕ} (r, e) (r', e')
  radix_once (radix_to d) (radix_to d') = let h = digits_once refl d d' in λ i. (piece 0 (h i), h i)

  based_once : {r r' : Span} {neg neg' : Bool} {a a' : ℕ} → BasedTo w r neg a → BasedTo w r' neg' a' → ◌≡◌ {A = (Span × Bool) × ℕ} ((r, neg), a) ((r', neg'), a')
  based_once (based_to b s) (based_to b' s') =
      let h = behind_once (RadixTo w) (λ e e'. radix_once) b b' in
      let k = sign_once (place h) s s' in
      λ i. (((h i).0, (k i).0), (k i).1)

  abbrev Mantissa : Type 0
  Mantissa = Bool × Span × Span

  abbrev MantissaAt : Mantissa → ℕ → Type 0
  MantissaAt x e = MantissaTo w x.0 x.1 x.2 e

  mantissa_once : {neg neg' : Bool} {ds fs ds' fs' : Span} {e e' : ℕ} → MantissaTo w neg ds fs e → MantissaTo w neg' ds' fs' e' →
      ◌≡◌ {A = Mantissa × ℕ} ((neg, ds, fs), e) ((neg', ds', fs'), e')
  mantissa_once (pointed_to s d h f) (pointed_to s' d' h' f') =
      let a = sign_once refl s s' in
      let b = digits_once (place a) d d' in
      let c = digits_once (further b) f f' in
      λ i. (((a i).0, piece (a i).1 (b i), piece (b i + 1) (c i)), c i)
  mantissa_once (pointed_to s d h f) (bare_to s' d' n) =
      absurd (n (sym (byte_same (digits_once (place (sign_once refl s s')) d d')) ∙ h))
  mantissa_once (bare_to s d n) (pointed_to s' d' h f) =
      absurd (n (byte_same (digits_once (place (sign_once refl s s')) d d') ∙ h))
  mantissa_once (bare_to s d n) (bare_to s' d' n') =
      let a = sign_once refl s s' in
      let b = digits_once (place a) d d' in
      λ i. (((a i).0, piece (a i).1 (b i), absent), b i)

  power_once : {neg neg' below below' : Bool} {ds fs ds' fs' : Span} {a a' : ℕ} → PowerTo w neg ds fs below a → PowerTo w neg' ds' fs' below' a' →
      ◌≡◌ {A = (Mantissa × Bool) × ℕ} (((neg, ds, fs), below), a) (((neg', ds', fs'), below'), a')
  power_once (power_to m s) (power_to m' s') =
      let h = behind_once MantissaAt (λ e e'. mantissa_once) m m' in
      let k = sign_once (place h) s s' in
      λ i. (((h i).0, (k i).0), (k i).1)

  -- an exponent that is written does not end where its mantissa does
  power_on : {neg neg' below : Bool} {ds fs ds' fs' : Span} {e a b : ℕ} → MantissaTo w neg ds fs e → e ≡ length w → PowerTo w neg' ds' fs' below a → DigitsTo w a b → ⊥
  power_on m q (power_to (behind m') s) d = omega (arith, place (mantissa_once m m'), sign_on s, d.from, d.within)

  -- ---- dates and times

  month_once : {m m' : Span} {e e' : ℕ} → MonthTo w m e → MonthTo w m' e' → ◌≡◌ {A = Span × ℕ} (m, e) (m', e')
  month_once (month_to d h) (month_to d' h') = let q = digits_once refl d d' in λ i. (piece 5 (q i), q i)

  date_once : {d d' : Date} {e e' : ℕ} → DateTo w d e → DateTo w d' e' → ◌≡◌ {A = Date × ℕ} (d, e) (d', e')
  date_once (year_to d n) (year_to d' n') = let q = digits_once refl d d' in λ i. (InYear (piece 5 (q i)), q i)
  date_once (year_to d n) (day_to (behind (month_to d' h)) x) = absurd (n (byte_same (digits_once refl d d') ∙ h))
  date_once (day_to (behind (month_to d h)) x) (year_to d' n) = absurd (n (sym (byte_same (digits_once refl d d')) ∙ h))
  date_once (day_to m d) (day_to m' d') =
      let h = behind_once (MonthTo w) (λ e e'. month_once) m m' in
      let q = digits_once (place h) d d' in
      λ i. (InMonth (h i).0 (piece (h i).1 (q i)), q i)

  stamp_once : {s s' : Stamp} {a a' : ℕ} → dated_number s ≡ dated_number s' → StampTo w s a → StampTo w s' a' → ◌≡◌ {A = Stamp × ℕ} (s, a) (s', a')
  stamp_once k undated_to undated_to = refl
  stamp_once k undated_to (dated_to d) = absurd (omega arith)
  stamp_once k (dated_to d) undated_to = absurd (omega arith)
  stamp_once k (dated_to d) (dated_to d') = let h = behind_once (DateTo w) (λ e e'. date_once) d d' in λ i. (Dated (h i).0, (h i).1)

  module _ {s s' : Stamp} (k : dated_number s ≡ dated_number s') where
    hour_once : {h h' : Span} {e e' : ℕ} → HourTo w s h e → HourTo w s' h' e' → ◌≡◌ {A = (Stamp × Span) × ℕ} ((s, h), e) ((s', h'), e')
    hour_once (hour_to t d) (hour_to t' d') =
        let a = stamp_once k t t' in
        let q = digits_once (place a) d d' in
        λ i. (((a i).0, piece (a i).1 (q i)), q i)

    minute_once : {h h' m m' : Span} {e e' : ℕ} → MinuteTo w s h m e → MinuteTo w s' h' m' e' → ◌≡◌ {A = (Stamp × Span × Span) × ℕ} ((s, h, m), e) ((s', h', m'), e')
    minute_once (minute_to t d) (minute_to t' d') =
        let a = behind_once (λ (x : Stamp × Span). HourTo w x.0 x.1) (λ e e'. hour_once) t t' in
        let q = digits_once (place a) d d' in
        λ i. (((a i).0.0, (a i).0.1, piece (a i).1 (q i)), q i)

    second_once : {h h' m m' x x' : Span} {e e' : ℕ} → SecondTo w s h m x e → SecondTo w s' h' m' x' e' →
        ◌≡◌ {A = (Stamp × Span × Span × Span) × ℕ} ((s, h, m, x), e) ((s', h', m', x'), e')
    second_once (second_to t b d) (second_to t' b' d') =
        let a = minute_once t t' in
        let q = digits_once (further (place a)) d d' in
        λ i. (((a i).0.0, (a i).0.1, (a i).0.2, piece ((a i).1 + 1) (q i)), q i)

    -- seconds are written where a colon stands
    second_there : {h h' m m' x : Span} {e e' : ℕ} → MinuteTo w s h m e → (get_or w e 0 ≡ 58 → ⊥) → SecondTo w s' h' m' x e' → ⊥
    second_there t n (second_to t' b d) = n (byte_same (place (minute_once t t')) ∙ b)

  clock_once : {s s' : Stamp} {c c' : Clock} {e e' : ℕ} → dated_number s ≡ dated_number s' → ClockTo w s c e → ClockTo w s' c' e' → ◌≡◌ {A = (Stamp × Clock) × ℕ} ((s, c), e) ((s', c'), e')
  clock_once k (minutes_to t n) (minutes_to t' n') =
      let a = minute_once k t t' in
      λ i. (((a i).0.0, record { hour = (a i).0.1; minute = (a i).0.2; second = absent; decimals = absent }), (a i).1)
  clock_once k (minutes_to t n) (seconds_to t' n') = absurd (second_there k t n t')
  clock_once k (minutes_to t n) (decimals_to t' b d) = absurd (second_there k t n t')
  clock_once k (seconds_to t n) (minutes_to t' n') = absurd (second_there (sym k) t' n' t)
  clock_once k (seconds_to t n) (seconds_to t' n') =
      let a = second_once k t t' in
      λ i. (((a i).0.0, record { hour = (a i).0.1; minute = (a i).0.2; second = (a i).0.3; decimals = absent }), (a i).1)
  clock_once k (seconds_to t n) (decimals_to t' b d) = absurd (n (byte_same (place (second_once k t t')) ∙ b))
  clock_once k (decimals_to t b d) (minutes_to t' n) = absurd (second_there (sym k) t' n t)
  clock_once k (decimals_to t b d) (seconds_to t' n) = absurd (n (sym (byte_same (place (second_once k t t'))) ∙ b))
  clock_once k (decimals_to t b d) (decimals_to t' b' d') =
      let a = second_once k t t' in
      let q = digits_once (further (place a)) d d' in
      λ i. (((a i).0.0, record { hour = (a i).0.1; minute = (a i).0.2; second = (a i).0.3; decimals = piece ((a i).1 + 1) (q i) }), q i)

  offset_once : {s s' : Stamp} {c c' : Clock} {west west' : Bool} {a a' : ℕ} → dated_number s ≡ dated_number s' → OffsetTo w s c west a → OffsetTo w s' c' west' a' →
      ◌≡◌ {A = ((Stamp × Clock) × Bool) × ℕ} (((s, c), west), a) (((s', c'), west'), a')
  offset_once k (offset_to t x l) (offset_to t' x' l') =
      let h = clock_once k t t' in
      let q = sign_once (place h) x x' in
      λ i. (((h i).0, (q i).0), (q i).1)

  -- ---- all forms

  -- what is laid, by its kind
  data Seen : Which → Answer → Type 0 where
    see_nothing : Seen nothing None
    see_name : Seen names (Some Name)
    see_whole : {neg : Bool} {a e : ℕ} → SignTo w 0 neg a → DigitsTo w a e → Seen wholes (Some (Whole neg (piece a e)))
    see_radix : {r : Span} {neg : Bool} {a e : ℕ} → BasedTo w r neg a → EndsAt (front alnum) w a e → Seen radices (Some (Radix r neg (piece a e)))
    see_unscaled : {neg : Bool} {ds fs : Span} {e : ℕ} → MantissaTo w neg ds fs e → e ≡ length w → Seen decimals (Some (Decimal neg ds fs false absent))
    see_scaled : {neg below : Bool} {ds fs : Span} {a e : ℕ} → PowerTo w neg ds fs below a → DigitsTo w a e → Seen decimals (Some (Decimal neg ds fs below (piece a e)))
    see_day : {d : Date} {e : ℕ} → DateTo w d e → Seen days (Some (Day d))
    see_local : {s : Stamp} {c : Clock} {e : ℕ} → ClockTo w s c e → Seen locals (Some (Moment s c NoZone))
    see_utc : {s : Stamp} {c : Clock} {a : ℕ} → Behind (ClockTo w s c) a → Seen utcs (Some (Moment s c Utc))
    see_hour : {s : Stamp} {c : Clock} {west : Bool} {a e : ℕ} → OffsetTo w s c west a → DigitsTo w a e → e ≡ length w →
        Seen offsets (Some (Moment s c (Offset west (piece a e) absent)))
    see_minute : {s : Stamp} {c : Clock} {west : Bool} {a e b : ℕ} → OffsetTo w s c west a → DigitsTo w a e → DigitsTo w (e + 1) b →
        Seen offsets (Some (Moment s c (Offset west (piece a e) (piece (e + 1) b))))

  seen : {r : Answer} → Laid w r → Seen (which r) r
  seen no_form = see_nothing
  seen name = see_name
  seen (whole s d) = see_whole s d
  seen (radix b d) = see_radix b d
  seen (unscaled m q) = see_unscaled m q
  seen (scaled p d) = see_scaled p d
  seen (day d) = see_day d
  seen (no_zone t q) = see_local t
  seen (by_z t q) = see_utc t
  seen (by_hour o d q) = see_hour o d q
  seen (by_minute o d d') = see_minute o d d'

  -- an offset of hours alone ends the word
  minute_there : {s s' : Stamp} {c c' : Clock} {west west' : Bool} {a a' e e' b : ℕ} → dated_number s ≡ dated_number s' → OffsetTo w s c west a → DigitsTo w a e → e ≡ length w →
      OffsetTo w s' c' west' a' → DigitsTo w a' e' → DigitsTo w (e' + 1) b → ⊥
  minute_there k o d q o' d' f = omega (arith, digits_once (place (offset_once k o o')) d d', f.from, f.within)

  seen_once : {k : Which} {r r' : Answer} → Seen k r → Seen k r' → dates r ≡ dates r' → r ≡ r'
  seen_once see_nothing see_nothing v = refl
  seen_once see_name see_name v = refl
  seen_once (see_whole s d) (see_whole s' d') v =
      let a = sign_once refl s s' in
      let q = digits_once (place a) d d' in
      λ i. Some (Whole (a i).0 (piece (a i).1 (q i)))
  seen_once (see_radix {e} b d) (see_radix b' d') v =
      let a = based_once b b' in
      let q = ends_once (subst (λ (n : ℕ). EndsAt (front alnum) w n e) (place a) d) d' in
      λ i. Some (Radix (a i).0.0 (a i).0.1 (piece (a i).1 (q i)))
  seen_once (see_unscaled m q) (see_unscaled m' q') v = let a = mantissa_once m m' in λ i. Some (Decimal (a i).0.0 (a i).0.1 (a i).0.2 false absent)
  seen_once (see_unscaled m q) (see_scaled p d) v = absurd (power_on m q p d)
  seen_once (see_scaled p d) (see_unscaled m q) v = absurd (power_on m q p d)
  seen_once (see_scaled p d) (see_scaled p' d') v =
      let a = power_once p p' in
      let q = digits_once (place a) d d' in
      λ i. Some (Decimal (a i).0.0.0 (a i).0.0.1 (a i).0.0.2 (a i).0.1 (piece (a i).1 (q i)))
  seen_once (see_day d) (see_day d') v = let a = date_once d d' in λ i. Some (Day (a i).0)
  seen_once (see_local t) (see_local t') v = let a = clock_once v t t' in λ i. Some (Moment (a i).0.0 (a i).0.1 NoZone)
  seen_once (see_utc (behind t)) (see_utc (behind t')) v = let a = clock_once v t t' in λ i. Some (Moment (a i).0.0 (a i).0.1 Utc)
  seen_once (see_hour o d q) (see_hour o' d' q') v =
      let a = offset_once v o o' in
      let b = digits_once (place a) d d' in
      λ i. Some (Moment (a i).0.0.0 (a i).0.0.1 (Offset (a i).0.1 (piece (a i).1 (b i)) absent))
  seen_once (see_hour o d q) (see_minute o' d' f) v = absurd (minute_there v o d q o' d' f)
  seen_once (see_minute o d f) (see_hour o' d' q) v = absurd (minute_there (sym v) o' d' q o d f)
  seen_once (see_minute o d f) (see_minute o' d' f') v =
      let a = offset_once v o o' in
      let b = digits_once (place a) d d' in
      let c = digits_once (further b) f f' in
      λ i. Some (Moment (a i).0.0.0 (a i).0.0.1 (Offset (a i).0.1 (piece (a i).1 (b i)) (piece (b i + 1) (c i))))

  pub laid_once : {r r' : Answer} → Laid w r → Laid w r' → written w r ≡ written w r' → r ≡ r'
  laid_once {r} {r'} l l' v =
      let k : which r' ≡ which r = sym (kind_is w r') ∙ ap kind (sym v) ∙ kind_is w r in
      seen_once (seen l) (subst (λ (k : Which). Seen k r') k (seen l')) (sym (dated_is w r) ∙ ap dated v ∙ dated_is w r')

-- two answers to what stands from a place on are one: of `shape`, and of every function for a part of the pattern
pub form_at_once : {g : G} {w : List ℕ} {at : ℕ} {r r' : Answer} → FormAt g w at r → FormAt g w at r' → r ≡ r'
form_at_once {w = w} x y = laid_once w x.laid y.laid (sym x.matched ∙ y.matched)

pub shape_once : {w : List ℕ} {r r' : Answer} → FormAt (g_word base) w 0 r → FormAt (g_word base) w 0 r' → r ≡ r'
shape_once = form_at_once

-- ---- counted digits

pub between_once : {a e most : ℕ} {s s' : OptionS Span} → Between a e most s → Between a e most s' → s ≡ s'
between_once (as_many h) (as_many k) = refl
between_once (as_many h) (not_as_many k) = absurd (true≢false (sym h ∙ k))
between_once (not_as_many h) (as_many k) = absurd (true≢false (sym k ∙ h))
between_once (not_as_many h) (not_as_many k) = refl

pub digits_at_once : {w : List ℕ} {a most : ℕ} {s s' : OptionS Span} → DigitsAt w a most s → DigitsAt w a most s' → s ≡ s'
digits_at_once {w} {a} {most} {s' = s'} (digits_at d b) (digits_at d' b') = between_once b (subst (λ (n : ℕ). Between a n most s') (sym (digits_once w refl d d')) b')
