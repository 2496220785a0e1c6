-- Times and dates at a place of a word: one lemma for each answer of the code.
use Prim.Native.Nat.{ℕ, ◌+◌, ◌-◌, ◌≤◌, ◌<◌}
use mathlib.Core.Bool.{Bool, true, false}
use mathlib.Core.Logic.{◌⊎◌, inl, inr}
use mathlib.Core.Path.{◌≡◌, refl, sym, ap, ◌∙◌}
use mathlib.Core.List.{List}
use native.Mathlib.Omega.{arith}
use lib.ListN.{length, get_or}
use Rattle.rules.specs.Bytes.{digit, between}
use Rattle.rules.specs.Values.{utc, signed_zone, number}
use Rattle.rules.proofs.Machine.Patterns.{G, stop, run, byte}
use Rattle.rules.proofs.Machine.Words.{g_offset, g_zone, g_seconds, g_minutes, g_time, g_dated, g_days}
use Rattle.classes.specs.Places.{part, ByteAt}
use Rattle.forms.specs.declared.Clock.{Clock}
use Rattle.forms.specs.declared.Stamp.{Stamp}
use Rattle.forms.specs.declared.Zone.TheVariants.{NoZone, Utc, Offset as SignedZone}
use Rattle.std.specs.Prelude.{Option, Some, None}
use Rattle.forms.specs.declared.Form.TheVariants.{Moment, Day}
use Rattle.forms.specs.Laid.{Answer, piece, absent, Between, DigitsTo, DigitsAt, Behind, DateTo, ClockTo, OffsetTo, Laid, day, no_zone, by_z, by_hour, by_minute}
use Rattle.forms.specs.Forms.{time_of, FormAt, on, stamped, date_of, at_second, g_decimals, in_month_at}
use Rattle.forms.specs.declared.Span.{Span}
use Rattle.forms.specs.declared.Date.{Date}
use Rattle.forms.specs.declared.Date.TheVariants.{InYear, InMonth}
use Rattle.forms.specs.declared.Stamp.TheVariants.{Dated}
use Rattle.classes.proofs.Parts.{part_length}
use Rattle.forms.proofs.Counts.{not_many, with_many, with_digits, few, some_digits}
use Rattle.forms.proofs.Reading.{r_stop, r_trailing, r_byte, r_other, r_check, r_fails, r_run, r_is, r_isnt, r_nil, r_more}

-- a byte that is there
there : (w : List ℕ) (at x k : ℕ) → 0 < k → ByteAt w at x → x ≡ k → at < length w
there w at x k z y q = omega (arith, y.inside)

-- ---- the zone of a time

module _ (w : List ℕ) (s : Stamp) (c : Clock) (west : Bool) (at : ℕ) (o : Option Span) (d : DigitsAt w at 2 o) where
  abbrev Offset : Answer → Type 0
  Offset r = FormAt (g_offset west (λ z. time_of w s c z)) w at r

  pub offset_few : (r : Answer) → o ≡ None → r ≡ None → Offset r
  offset_few r q z = few w at 2 o d r q z

  -- the minutes, behind the hours
  abbrev minutes_of : Span → G
  minutes_of h = run digit (between 1 2) (λ n. stop (time_of w s c (signed_zone west (number (on w h)) (number n))))

  module _ (h : Span) (q : o ≡ Some h) where
    pub offset_hour : OffsetTo w s c west at → h.upto ≡ length w → Offset (Some (Moment s c (SignedZone west h absent)))
    offset_hour t k = with_digits w at 2 o d h q (λ h. h.upto ≡ length w → Offset (Some (Moment s c (SignedZone west h absent))))
        (λ e r m k. r_run w at e _ r m (r_nil w e _ k (r_stop w e _ k refl (by_hour t r k)))) k

    module _ (k : h.upto ≡ length w → ⊥) (x : ℕ) (y : ByteAt w h.upto x) where
      past_hours : (r : Answer) → FormAt (byte 58 (minutes_of h)) w h.upto r → Offset r
      past_hours r g = with_digits w at 2 o d h q (λ h. (h.upto ≡ length w → ⊥) → FormAt (byte 58 (minutes_of h)) w h.upto r → Offset r)
          (λ e t m k g. r_run w at e r t m (r_more w e r (omega (arith, t.within)) g)) k g

      pub offset_open : (x ≡ 58 → ⊥) → Offset None
      offset_open n = past_hours None (r_other w h.upto 58 refl (λ z. n (y.is ∙ z)))

      module _ (z : x ≡ 58) (p : Option Span) (d₂ : DigitsAt w (h.upto + 1) 2 p) where
        past_colon : (r : Answer) → FormAt (minutes_of h) w (h.upto + 1) r → Offset r
        past_colon r g = past_hours r (r_byte w h.upto 58 r (there w h.upto x 58 (omega arith) y z) (sym y.is ∙ z) g)

        pub offset_minute : (r : Answer) → p ≡ None → r ≡ None → Offset r
        offset_minute r u v = past_colon r (few w (h.upto + 1) 2 p d₂ r u v)

        module _ (m : Span) (u : p ≡ Some m) where
          pub offset_trailing : (m.upto ≡ length w → ⊥) → Offset None
          offset_trailing l = past_colon None (some_digits w (h.upto + 1) 2 p d₂ m None u
              (r_trailing w m.upto (with_digits w (h.upto + 1) 2 p d₂ m u (λ m. (m.upto ≡ length w → ⊥) → m.upto < length w) (λ e t b l. omega (arith, t.within)) l)))

          pub offset_both : OffsetTo w s c west at → m.upto ≡ length w → Offset (Some (Moment s c (SignedZone west h m)))
          offset_both t l =
              past_colon _ (some_digits w (h.upto + 1) 2 p d₂ m _ u (r_stop w m.upto _ l refl
              (with_digits w at 2 o d h q (λ h. DigitsAt w (h.upto + 1) 2 p → Laid w (Some (Moment s c (SignedZone west h m))))
              (λ e r b d₂. with_digits w (e + 1) 2 p d₂ m u (λ m. Laid w (Some (Moment s c (SignedZone west (piece at e) m)))) (λ f r₂ b₂. by_minute t r r₂)) d₂)))

-- ---- what ends a time, and dates

module _ (w : List ℕ) (s : Stamp) (c : Clock) (at : ℕ) where
  pub utc_more : at ≤ length w → (at ≡ length w → ⊥) → FormAt (stop (time_of w s c utc)) w at None
  utc_more h n = r_trailing w at (omega arith)

  pub utc_ends : Behind (ClockTo w s c) at → at ≡ length w → FormAt (stop (time_of w s c utc)) w at (Some (Moment s c Utc))
  utc_ends u h = r_stop w at _ h refl (by_z u h)

  abbrev Zoned : Answer → Type 0
  Zoned r = FormAt (g_zone (λ z. time_of w s c z)) w at r

  pub zone_local : ClockTo w s c at → at ≡ length w → Zoned (Some (Moment s c NoZone))
  zone_local t h = r_nil w at _ h (r_stop w at _ h refl (no_zone t h))

  module _ (in_range : at ≤ length w) (not_end : at ≡ length w → ⊥) where
    pub zone_z : (r : Answer) → (get_or w at 0 ≡ 90) ⊎ (get_or w at 0 ≡ 122) → FormAt (stop (time_of w s c utc)) w (at + 1) r → Zoned r
    zone_z r (inl e) x = let m : at < length w = omega arith in r_more w at r m (r_is w at 90 r refl e (r_byte w at 90 r m e x))
    zone_z r (inr e) x =
        let m : at < length w = omega arith in
        let n : get_or w at 0 ≡ 90 → ⊥ = λ q. omega arith in
        r_more w at r m (r_isnt w at 90 r refl n (r_is w at 122 r refl e (r_byte w at 122 r m e x)))

    pub zone_west : (r : Answer) → get_or w at 0 ≡ 45 → FormAt (g_offset true (λ z. time_of w s c z)) w (at + 1) r → Zoned r
    zone_west r e x =
        let m : at < length w = omega arith in
        let n : get_or w at 0 ≡ 90 → ⊥ = λ q. omega arith in
        let n₂ : get_or w at 0 ≡ 122 → ⊥ = λ q. omega arith in
        r_more w at r m (r_isnt w at 90 r refl n (r_isnt w at 122 r refl n₂ (r_is w at 45 r refl e (r_byte w at 45 r m e x))))

    pub zone_east : (r : Answer) → get_or w at 0 ≡ 43 → FormAt (g_offset false (λ z. time_of w s c z)) w (at + 1) r → Zoned r
    zone_east r e x =
        let m : at < length w = omega arith in
        let n : get_or w at 0 ≡ 90 → ⊥ = λ q. omega arith in
        let n₂ : get_or w at 0 ≡ 122 → ⊥ = λ q. omega arith in
        let n₃ : get_or w at 0 ≡ 45 → ⊥ = λ q. omega arith in
        r_more w at r m (r_isnt w at 90 r refl n (r_isnt w at 122 r refl n₂ (r_isnt w at 45 r refl n₃ (r_byte w at 43 r m e x))))

    pub zone_none : ((get_or w at 0 ≡ 90) ⊎ (get_or w at 0 ≡ 122) → ⊥) → (get_or w at 0 ≡ 45 → ⊥) → (get_or w at 0 ≡ 43 → ⊥) → Zoned None
    zone_none n n₃ n₄ =
        let m : at < length w = omega arith in
        r_more w at None m (r_isnt w at 90 None refl (λ z. n (inl z)) (r_isnt w at 122 None refl (λ z. n (inr z)) (r_isnt w at 45 None refl n₃ (r_other w at 43 refl n₄))))

module _ (w : List ℕ) (s : Stamp) (h mi : Span) (at : ℕ) where
  abbrev Timed : Answer → Type 0
  Timed r = FormAt (g_seconds (at_second w s h mi)) w at r

  pub sec_none : (x : ℕ) (r : Answer) → ByteAt w at x → (x ≡ 58 → ⊥) →
      FormAt (g_zone (λ z. time_of w s (record { hour = h; minute = mi; second = record { from = 0; upto = 0 }; decimals = record { from = 0; upto = 0 } }) z)) w at r → Timed r
  sec_none x r y n k = r_isnt w at 58 r refl (λ q. n (y.is ∙ q)) k

  module _ (x : ℕ) (y : ByteAt w at x) (q : x ≡ 58) (o : Option Span) (d : DigitsAt w (at + 1) 2 o) where
    past_colon_sec : (r : Answer) → FormAt (run digit (between 1 2) (λ x. g_decimals x (at_second w s h mi))) w (at + 1) r → Timed r
    past_colon_sec r g = r_is w at 58 r refl (sym y.is ∙ q) (r_byte w at 58 r (there w at x 58 (omega arith) y q) (sym y.is ∙ q) g)

    pub sec_few : (r : Answer) → o ≡ None → r ≡ None → Timed r
    sec_few r f z = past_colon_sec r (few w (at + 1) 2 o d r f z)

    pub sec_some : (se : Span) (r : Answer) → o ≡ Some se → FormAt (g_decimals (on w se) (at_second w s h mi)) w se.upto r → Timed r
    sec_some se r f g = past_colon_sec r (some_digits w (at + 1) 2 o d se r f g)

  module _ (se : Span) where
    pub dec_none : (x : ℕ) (r : Answer) → ByteAt w at x → (x ≡ 46 → ⊥) →
        FormAt (g_zone (λ z. time_of w s (record { hour = h; minute = mi; second = se; decimals = record { from = 0; upto = 0 } }) z)) w at r →
        FormAt (g_decimals (on w se) (at_second w s h mi)) w at r
    dec_none x r y n k = r_isnt w at 46 r refl (λ q. n (y.is ∙ q)) k

    pub dec_some : (x i : ℕ) (r : Answer) → ByteAt w at x → x ≡ 46 → DigitsTo w (at + 1) i →
        FormAt (g_zone (λ z. time_of w s (record { hour = h; minute = mi; second = se; decimals = record { from = at + 1; upto = i } }) z)) w i r →
        FormAt (g_decimals (on w se) (at_second w s h mi)) w at r
    dec_some x i r y q d k =
        r_is w at 46 r refl (sym y.is ∙ q) (r_byte w at 46 r (there w at x 46 (omega arith) y q) (sym y.is ∙ q) (r_run w (at + 1) i r d refl k))

module _ (w : List ℕ) (s : Stamp) (at : ℕ) (o : Option Span) (d : DigitsAt w at 2 o) where
  pub minutes_few : (h : Span) (r : Answer) → o ≡ None → r ≡ None → FormAt (g_minutes (on w h) (stamped w s)) w at r
  minutes_few h r f z = few w at 2 o d r f z

  pub minutes_some : (h mi : Span) (r : Answer) → o ≡ Some mi → FormAt (g_seconds (at_second w s h mi)) w mi.upto r → FormAt (g_minutes (on w h) (stamped w s)) w at r
  minutes_some h mi r f g = some_digits w at 2 o d mi r f g

  pub time_few : (r : Answer) → o ≡ None → r ≡ None → FormAt (g_time (stamped w s)) w at r
  time_few r f z = few w at 2 o d r f z

  module _ (h : Span) (f : o ≡ Some h) (x : ℕ) (y : ByteAt w h.upto x) where
    pub time_open : (x ≡ 58 → ⊥) → FormAt (g_time (stamped w s)) w at None
    time_open n = some_digits w at 2 o d h None f (r_other w h.upto 58 refl (λ q. n (y.is ∙ q)))

    pub time_some : (r : Answer) → x ≡ 58 → FormAt (g_minutes (on w h) (stamped w s)) w (h.upto + 1) r → FormAt (g_time (stamped w s)) w at r
    time_some r q g = some_digits w at 2 o d h r f (r_byte w h.upto 58 r (there w h.upto x 58 (omega arith) y q) (sym y.is ∙ q) g)

module _ (w : List ℕ) (da : Date) (at : ℕ) where
  pub day_alone : DateTo w da at → at ≡ length w → FormAt (g_dated (date_of w da)) w at (Some (Day da))
  day_alone d h = r_nil w at _ h (r_stop w at _ h refl (day d))

  module _ (in_range : at ≤ length w) (not_end : at ≡ length w → ⊥) where
    pub day_time : (r : Answer) → (get_or w at 0 ≡ 84) ⊎ (get_or w at 0 ≡ 116) → FormAt (g_time (stamped w (Dated da))) w (at + 1) r → FormAt (g_dated (date_of w da)) w at r
    day_time r (inl e) g = let m : at < length w = omega arith in r_more w at r m (r_is w at 84 r refl e (r_byte w at 84 r m e g))
    day_time r (inr e) g =
        let m : at < length w = omega arith in
        let n : get_or w at 0 ≡ 84 → ⊥ = λ q. omega arith in
        r_more w at r m (r_isnt w at 84 r refl n (r_byte w at 116 r m e g))

    pub day_other : ((get_or w at 0 ≡ 84) ⊎ (get_or w at 0 ≡ 116) → ⊥) → FormAt (g_dated (date_of w da)) w at None
    day_other n = let m : at < length w = omega arith in r_more w at None m (r_isnt w at 84 None refl (λ z. n (inl z)) (r_other w at 116 refl (λ z. n (inr z))))

module _ (w : List ℕ) (m : Span) (at : ℕ) (o : Option Span) (d : DigitsAt w at 2 o) where
  pub month_few : (r : Answer) → o ≡ None → r ≡ None → FormAt (run digit (between 1 2) (in_month_at w m)) w at r
  month_few r f z = few w at 2 o d r f z

  pub month_some : (n : Span) (r : Answer) → o ≡ Some n → FormAt (g_dated (date_of w (InMonth m n))) w n.upto r → FormAt (run digit (between 1 2) (in_month_at w m)) w at r
  month_some n r f g = some_digits w at 2 o d n r f g

module _ (w : List ℕ) (at e x : ℕ) (d : DigitsTo w at e) (y : ByteAt w e x) (o : Option Span) where
  abbrev Days : Answer → Type 0
  Days r = FormAt (g_days (part w 0 4)) w at r

  counted : (lo hi : ℕ) (t : Bool) → between lo hi (e - at) ≡ t → between lo hi (length (part w at e)) ≡ t
  counted lo hi t k = ap (between lo hi) (part_length w at e d.within) ∙ k

  module _ (q : x ≡ 45) (b : Between at e 2 o) where
    pub days_month_few : (r : Answer) → o ≡ None → r ≡ None → Days r
    days_month_few r f z = rw z (r_run w at e None d refl (r_is w e 45 None refl (sym y.is ∙ q) (r_fails w e (counted 1 2 false (not_many at e 2 o b f)))))

    pub days_month : (m : Span) (r : Answer) → o ≡ Some m → FormAt (run digit (between 1 2) (in_month_at w m)) w (e + 1) r → Days r
    days_month m r f g = with_many at e 2 o b m f (λ m. FormAt (run digit (between 1 2) (in_month_at w m)) w (e + 1) r → Days r)
        (λ k g. r_run w at e r d refl (r_is w e 45 r refl (sym y.is ∙ q) (r_check w e r (counted 1 2 true k) (r_byte w e 45 r (there w e x 45 (omega arith) y q) (sym y.is ∙ q) g)))) g

  module _ (n : x ≡ 45 → ⊥) (b : Between at e 3 o) where
    pub days_few : (r : Answer) → o ≡ None → r ≡ None → Days r
    days_few r f z = rw z (r_run w at e None d refl (r_isnt w e 45 None refl (λ q. n (y.is ∙ q)) (r_fails w e (counted 1 3 false (not_many at e 3 o b f)))))

    pub days_year : (m : Span) (r : Answer) → o ≡ Some m → FormAt (g_dated (date_of w (InYear m))) w e r → Days r
    days_year m r f g = with_many at e 3 o b m f (λ m. FormAt (g_dated (date_of w (InYear m))) w e r → Days r)
        (λ k g. r_run w at e r d refl (r_isnt w e 45 r refl (λ q. n (y.is ∙ q)) (r_check w e r (counted 1 3 true k) g))) g
