-- The one pattern of a word is the forms of the rules, both ways: each rule of the source against its part of it.
use Prim.Native.Nat.{ℕ, ◌≤◌}
use native.Mathlib.Omega.{arith}
use mathlib.Core.Bool.{Bool, true, false, false≢true, true≢false}
use mathlib.Core.Option.{some}
use mathlib.Core.Path.{◌≡◌, refl, sym, ap, ◌∙◌}
use mathlib.Core.List.{List, [], ◌∷◌, ◌++◌, append_assoc, append-nil}
use borrow.Author.Tests.{leb-true, ne_eqb, lt-leb, le-leb}
use lib.Dec.{leb, eqb}
use lib.ListN.{length}
use Rattle.rules.specs.Bytes.{between, digit, letter, alnum, front, Run, All, one}
use Rattle.rules.specs.Bytes as Bytes
use Rattle.rules.specs.Data.{Whole}
use Rattle.rules.specs.Modes.{Mode}
use Rattle.rules.specs.Values.{Date, in_year, in_month, Zone, Second, Time, Written, a_whole, a_based, a_decimal, a_date, a_time, a_date_time, a_range, number, signed}
use Rattle.rules.specs.Words.{Sign, unsigned, plus, minus, Digits, Unsigned, Integer, signed_digits, Based, in_radix, Exponent, upper, lower, Scale, unscaled, scaled, pointed, bare, from_to, DateWord, year_doy, year_month_day, Seconds, no_second, second, decimal, ZoneSign, east, west, Zoned, local, utc_upper, utc_lower, by_hour, by_minute, TimeWord, time, upper_t, lower_t, Shape, identifier_word, integer_word, based_word, real_word, date_word, time_word, date_time_word, range_word}
use Rattle.rules.proofs.Words.Runs.{both, run_all, all_run}
use Rattle.rules.proofs.Machine.Patterns.{G, stop, byte, check, run, fork}
use Rattle.rules.proofs.Words.Matching.{Takes, t_stop, t_whole, t_byte, t_check, t_run, t_yes, t_no, match_sound, match_complete, run_last}
use Rattle.rules.proofs.Machine.Words.{next_is, some_of, zero_or_more, g_signs, g_integer, g_exponent, g_scale, g_based, zone_at, g_offset, g_zone, sec, g_seconds, g_minutes, g_time, g_dated, g_days, g_after, g_word, shape}
use Rattle.rules.proofs.Machine.Splits.{is_nil}

-- ---- bytes that differ

-- a byte of a class is none that is not
pub class_not : (c : ℕ → Bool) (k : ℕ) → c k ≡ false → (b : ℕ) → c b ≡ true → eqb b k ≡ false
class_not c k z b h = ne_eqb b k (λ e. true≢false (sym h ∙ ap c e ∙ z))

digit_not : (k : ℕ) → digit k ≡ false → (b : ℕ) → digit b ≡ true → eqb b k ≡ false
digit_not k z b h = class_not digit k z b h

-- the first byte behind a run of a class
run_not : {c : ℕ → Bool} (k : ℕ) → c k ≡ false → {ds : List ℕ} → All c ds → (x : List ℕ) → next_is k x ≡ false → next_is k (ds ++ x) ≡ false
run_not k z Bytes.none x h = h
run_not {c} k z (one {b} y ys) x h = class_not c k z b y

digit_no_letter : (b : ℕ) → digit b ≡ true → letter b ≡ false
digit_no_letter b h =
    let l : b ≤ 57 = leb-true b 57 (both (leb 48 b) (leb b 57) h).1 in
    rw (lt-leb 65 b (omega arith), lt-leb 97 b (omega arith))

-- a word that begins with a digit or a period begins with no letter and no sign
record Clear (w : List ℕ) : Type 0 where
  letter_free : front letter w ≡ false
  minus_free : next_is 45 w ≡ false
  plus_free : next_is 43 w ≡ false

clear_digits : {ds : List ℕ} (x : List ℕ) → All digit ds → some_of (length ds) ≡ true → Clear (ds ++ x)
clear_digits x Bytes.none h = absurd (false≢true h)
clear_digits x (one {b} k ks) h = record { letter_free = digit_no_letter b k; minus_free = digit_not 45 refl b k; plus_free = digit_not 43 refl b k }

clear_pointed : {ds : List ℕ} (x : List ℕ) → All digit ds → Clear (ds ++ 46 ∷ x)
clear_pointed x Bytes.none = record { letter_free = refl; minus_free = refl; plus_free = refl }
clear_pointed x (one {b} k ks) = record { letter_free = digit_no_letter b k; minus_free = digit_not 45 refl b k; plus_free = digit_not 43 refl b k }

-- at the end of digits
digits_not : (k : ℕ) → digit k ≡ false → {ds : List ℕ} → All digit ds → next_is k ds ≡ false
digits_not k z Bytes.none = refl
digits_not k z (one {b} h hs) = digit_not k z b h

some_four : (n : ℕ) → between 4 4 n ≡ true → some_of n ≡ true
some_four n h = le-leb 1 n (omega (arith, leb-true 4 n (both (leb 4 n) (leb n 4) h).0))

some_two : (n : ℕ) → between 1 2 n ≡ true → some_of n ≡ true
some_two n h = (both (leb 1 n) (leb n 2) h).0

-- ---- the rules, in the pattern

sign_takes : (k : Bool → Bool → G) {s w : List ℕ} {neg : Bool} {v : Written} → Sign s neg → next_is 45 w ≡ false → next_is 43 w ≡ false →
    ((b : Bool) → Takes (k b neg) w v) → Takes (g_signs k) (s ++ w) v
sign_takes k unsigned a b t = t_no a (t_no b (t false))
sign_takes k plus a b t = t_no refl (t_yes refl (t_byte (t true)))
sign_takes k minus a b t = t_yes refl (t_byte (t true))

integer_takes : (k : Whole → Written) {w : List ℕ} {z : Whole} → Integer w z → Takes (g_integer k) w (k z)
integer_takes k (signed_digits s u) = sign_takes (λ s neg. run digit some_of (λ ds. stop (k (signed neg (number ds))))) s (digits_not 45 refl u.all) (digits_not 43 refl u.all) (λ b. run_last u.all u.some t_stop)

exponent_takes : (k : Whole → Written) {w : List ℕ} {z : Whole} → Exponent w z → Takes (g_exponent k) w (k z)
exponent_takes k (upper i) = t_yes refl (t_byte (integer_takes k i))
exponent_takes k (lower i) = t_no refl (t_byte (integer_takes k i))

exponent_front : {w : List ℕ} {z : Whole} → Exponent w z → front digit w ≡ false
exponent_front (upper i) = refl
exponent_front (lower i) = refl

scale_takes : (k : Whole → Written) {w : List ℕ} {z : Whole} → Scale w z → Takes (g_scale k) w (k z)
scale_takes k unscaled = t_yes refl t_stop
scale_takes k (scaled (upper i)) = t_no refl (exponent_takes k (upper i))
scale_takes k (scaled (lower i)) = t_no refl (exponent_takes k (lower i))

scale_point : {w : List ℕ} {z : Whole} → Scale w z → next_is 46 w ≡ false
scale_point unscaled = refl
scale_point (scaled (upper i)) = refl
scale_point (scaled (lower i)) = refl

pub scale_front : {w : List ℕ} {z : Whole} → Scale w z → front digit w ≡ false
scale_front unscaled = refl
scale_front (scaled x) = exponent_front x

zone_takes : (k : Zone → Written) {w : List ℕ} {z : Zone} → Zoned w z → Takes (g_zone k) w (k z)
zone_takes k local = t_yes refl t_stop
zone_takes k utc_upper = t_no refl (t_yes refl (t_byte t_stop))
zone_takes k utc_lower = t_no refl (t_no refl (t_yes refl (t_byte t_stop)))
zone_takes k (by_hour east h) = t_no refl (t_no refl (t_no refl (t_no refl (t_byte (run_last h.all h.count (t_yes refl t_stop))))))
zone_takes k (by_hour west h) = t_no refl (t_no refl (t_no refl (t_yes refl (t_byte (run_last h.all h.count (t_yes refl t_stop))))))
zone_takes k (by_minute east h mi) =
    t_no refl (t_no refl (t_no refl (t_no refl (t_byte (t_run (all_run h.all refl) h.count (t_no refl (t_byte (run_last mi.all mi.count t_stop))))))))
zone_takes k (by_minute west h mi) =
    t_no refl (t_no refl (t_no refl (t_yes refl (t_byte (t_run (all_run h.all refl) h.count (t_no refl (t_byte (run_last mi.all mi.count t_stop))))))))

record Quiet (w : List ℕ) : Type 0 where
  no_digit : front digit w ≡ false
  no_colon : next_is 58 w ≡ false
  no_period : next_is 46 w ≡ false

zone_quiet : {w : List ℕ} {z : Zone} → Zoned w z → Quiet w
zone_quiet local = record { no_digit = refl; no_colon = refl; no_period = refl }
zone_quiet utc_upper = record { no_digit = refl; no_colon = refl; no_period = refl }
zone_quiet utc_lower = record { no_digit = refl; no_colon = refl; no_period = refl }
zone_quiet (by_hour east h) = record { no_digit = refl; no_colon = refl; no_period = refl }
zone_quiet (by_hour west h) = record { no_digit = refl; no_colon = refl; no_period = refl }
zone_quiet (by_minute east h mi) = record { no_digit = refl; no_colon = refl; no_period = refl }
zone_quiet (by_minute west h mi) = record { no_digit = refl; no_colon = refl; no_period = refl }

seconds_takes : (k : Second → G) {s w : List ℕ} {x : Second} {v : Written} → Seconds s x → Quiet w → Takes (k x) w v → Takes (g_seconds k) (s ++ w) v
seconds_takes k no_second q t = t_no q.no_colon t
seconds_takes k (second s) q t = t_yes refl (t_byte (t_run (all_run s.all q.no_digit) s.count (t_no q.no_period t)))
seconds_takes k (decimal s f) q t =
    simp append_assoc (t_yes refl (t_byte (t_run (all_run s.all refl) s.count (t_yes refl (t_byte (t_run (all_run f q.no_digit) refl t))))))

seconds_front : {s w : List ℕ} {x : Second} → Seconds s x → Quiet w → front digit (s ++ w) ≡ false
seconds_front no_second q = q.no_digit
seconds_front (second s) q = refl
seconds_front (decimal s f) q = refl

minutes_takes : (k : Time → Written) (h : List ℕ) {mi s z : List ℕ} {x : Second} {y : Zone} → Digits 1 2 mi → Seconds s x → Zoned z y →
    Takes (g_minutes h k) (mi ++ (s ++ z)) (k (record { hour = number h; minute = number mi; second = x; zone = y }))
minutes_takes k h {mi} {x = x} d s z =
    t_run (all_run d.all (seconds_front s (zone_quiet z))) d.count
    (seconds_takes (λ s. g_zone (λ z. k (record { hour = number h; minute = number mi; second = s; zone = z }))) s (zone_quiet z)
    (zone_takes (λ z. k (record { hour = number h; minute = number mi; second = x; zone = z })) z))

time_takes : (k : Time → Written) {w : List ℕ} {t : Time} → TimeWord w t → Takes (g_time k) w (k t)
time_takes k (time {h} d mi s z) = t_run (all_run d.all refl) d.count (t_byte (minutes_takes k h mi s z))

-- what follows a date
data Dated : Date → List ℕ → Written → Type 0 where
  date_alone : {d : Date} → Dated d [] (a_date d)
  date_upper : {d : Date} {t : List ℕ} {x : Time} → TimeWord t x → Dated d (84 ∷ t) (a_date_time d x)
  date_lower : {d : Date} {t : List ℕ} {x : Time} → TimeWord t x → Dated d (116 ∷ t) (a_date_time d x)

dated_takes : {d : Date} {w : List ℕ} {v : Written} → Dated d w v → Takes (g_dated d) w v
dated_takes date_alone = t_yes refl t_stop
dated_takes {d} (date_upper t) = t_no refl (t_yes refl (t_byte (time_takes (a_date_time d) t)))
dated_takes {d} (date_lower t) = t_no refl (t_no refl (t_byte (time_takes (a_date_time d) t)))

dated_front : {d : Date} {w : List ℕ} {v : Written} → Dated d w v → front digit w ≡ false
dated_front date_alone = refl
dated_front (date_upper t) = refl
dated_front (date_lower t) = refl

dated_hyphen : {d : Date} {w : List ℕ} {v : Written} → Dated d w v → next_is 45 w ≡ false
dated_hyphen date_alone = refl
dated_hyphen (date_upper t) = refl
dated_hyphen (date_lower t) = refl

module _ (m : Mode) where
  -- digits, then what is behind them
  number_takes : {s ds x : List ℕ} {neg : Bool} {v : Written} → Sign s neg → All digit ds → Clear (ds ++ x) → front digit x ≡ false →
      ((b : Bool) → Takes (g_after m b neg ds) x v) → Takes (g_word m) (s ++ (ds ++ x)) v
  number_takes unsigned a c d t = t_no c.letter_free (t_no c.minus_free (t_no c.plus_free (t_run (all_run a d) refl (t false))))
  number_takes plus a c d t = t_no refl (t_no refl (t_yes refl (t_byte (t_run (all_run a d) refl (t true)))))
  number_takes minus a c d t = t_no refl (t_yes refl (t_byte (t_run (all_run a d) refl (t true))))

  unsigned_takes : {ds x : List ℕ} {v : Written} → All digit ds → Clear (ds ++ x) → front digit x ≡ false →
      Takes (g_after m false false ds) x v → Takes (g_word m) (ds ++ x) v
  unsigned_takes a c d t = t_no c.letter_free (t_no c.minus_free (t_no c.plus_free (t_run (all_run a d) refl t)))

  date_takes : {d : List ℕ} {da : Date} {x : List ℕ} {v : Written} → DateWord d da → Dated da x v → Takes (g_word m) (d ++ x) v
  date_takes {x = x} (year_doy {y} {n} a b) t =
      simp append_assoc (unsigned_takes a.all (clear_digits (45 ∷ (n ++ x)) a.all (some_four (length y) a.count)) refl
      (t_no refl (t_no refl (t_no refl (t_no refl (t_check refl (t_no refl (t_no refl (t_check a.count (t_byte
      (t_run (all_run b.all (dated_front t)) refl (t_no (dated_hyphen t) (t_check b.count (dated_takes t))))))))))))))
  date_takes {x = x} (year_month_day {y} {m = mo} {d = da} a b c) t =
      simp append_assoc (unsigned_takes a.all (clear_digits (45 ∷ (mo ++ 45 ∷ (da ++ x))) a.all (some_four (length y) a.count)) refl
      (t_no refl (t_no refl (t_no refl (t_no refl (t_check refl (t_no refl (t_no refl (t_check a.count (t_byte
      (t_run (all_run b.all refl) refl (t_yes refl (t_check b.count (t_byte (t_run (all_run c.all (dated_front t)) c.count (dated_takes t))))))))))))))))

  exponent_after : (b neg : Bool) (ds : List ℕ) {x : List ℕ} {z : Whole} → some_of (length ds) ≡ true → Exponent x z → Takes (g_after m b neg ds) x (a_decimal neg ds [] z)
  exponent_after b neg ds h (upper i) = t_no refl (t_no refl (t_no refl (t_yes refl (t_check h (exponent_takes (a_decimal neg ds []) (upper i))))))
  exponent_after b neg ds h (lower i) = t_no refl (t_no refl (t_no refl (t_yes refl (t_check h (exponent_takes (a_decimal neg ds []) (lower i))))))

  word_takes : {w : List ℕ} {v : Written} → Shape m w v → Takes (g_word m) w v
  word_takes (identifier_word {w} h) = t_yes (both (front letter w) _ h).0 (t_whole h)
  word_takes (integer_word (signed_digits {s} {ds} sg u)) =
      let t : Takes (g_word m) (s ++ (ds ++ [])) (a_whole _) = number_takes sg u.all (clear_digits [] u.all u.some) refl (λ b. t_yes refl (t_check u.some t_stop)) in
      simp append-nil at t
  word_takes (based_word (in_radix {r} {s} {ds} u sg a h)) =
      unsigned_takes u.all (clear_digits _ u.all u.some) refl
      (t_no refl (t_no refl (t_no refl (t_no refl (t_check refl (t_yes refl (t_check u.some (t_byte (sign_takes (λ s neg. run alnum some_of (λ ds. byte 35 (stop (a_based (number r) neg ds)))) sg (run_not 45 refl a (35 ∷ []) refl) (run_not 43 refl a (35 ∷ []) refl) (λ b. t_run (all_run a refl) h (t_byte t_stop)))))))))))
  word_takes (real_word (pointed {ds = ds} {fs = fs} {x = x} {neg = neg} sg a b h sc)) =
      number_takes sg a (clear_pointed (fs ++ x) a) refl
      (λ i. t_no refl (t_no (run_not 46 refl b x (scale_point sc)) (t_yes refl (t_byte (t_run (all_run b (scale_front sc)) refl (t_check h (scale_takes (a_decimal neg ds fs) sc)))))))
  word_takes (real_word (bare {ds = ds} {x = x} {neg = neg} sg u e)) = number_takes sg u.all (clear_digits x u.all u.some) (exponent_front e) (λ b. exponent_after b neg ds u.some e)
  word_takes (date_word {w} {d} x) = let t : Takes (g_word m) (w ++ []) (a_date d) = date_takes x date_alone in simp append-nil at t
  word_takes (time_word (time {h} d mi s z)) =
      unsigned_takes d.all (clear_digits _ d.all (some_two (length h) d.count)) refl
      (t_no refl (t_no refl (t_no refl (t_no refl (t_check refl (t_no refl (t_yes refl (t_check d.count (t_byte (minutes_takes a_time h mi s z))))))))))
  word_takes (date_time_word (upper_t d t)) = date_takes d (date_upper t)
  word_takes (date_time_word (lower_t d t)) = date_takes d (date_lower t)
  word_takes (range_word h (from_to {ds = ds} {w = w} {neg = neg} sg u i)) =
      number_takes sg u.all (clear_digits _ u.all u.some) refl
      (λ b. t_no refl (t_yes refl (t_check h (t_check u.some (t_byte (t_byte (integer_takes (a_range (signed neg (number ds))) i)))))))

-- ---- the pattern, in the rules

-- a word of a rule, and what is made of its value
data Via {A : Type 0} (L : List ℕ → A → Type 0) (k : A → Written) : List ℕ → Written → Type 0 where
  via : {w : List ℕ} {a : A} → L w a → Via L k w (k a)

-- the same, with more behind it
data Then {A : Type 0} (L : List ℕ → A → Type 0) (k : A → G) : List ℕ → Written → Type 0 where
  then : {s u : List ℕ} {a : A} {v : Written} → L s a → Takes (k a) u v → Then L k (s ++ u) v

-- nothing more
stopped : {u v : Written} {r : List ℕ} → Takes (stop u) r v → (r ≡ []) × (v ≡ u)
stopped t_stop = (refl, refl)

digits_end : (k : Whole → Written) {s ds r : List ℕ} {neg : Bool} {v : Written} → Sign s neg → Run (front digit) ds r → some_of (length ds) ≡ true →
    Takes (stop (k (signed neg (number ds)))) r v → Via Integer k (s ++ (ds ++ r)) v
digits_end k s t n x = let e = stopped x in rw (e.0, e.1, append-nil) (via (signed_digits s (record { all = run_all t; some = n })))

taken_integer : (k : Whole → Written) {w : List ℕ} {v : Written} → Takes (g_integer k) w v → Via Integer k w v
taken_integer k (t_yes h (t_byte (t_run t n x))) = digits_end k minus t n x
taken_integer k (t_no h (t_yes i (t_byte (t_run t n x)))) = digits_end k plus t n x
taken_integer k (t_no h (t_no i (t_run t n x))) = digits_end k unsigned t n x

via_upper : {k : Whole → Written} {w : List ℕ} {v : Written} → Via Integer k w v → Via Exponent k (69 ∷ w) v
via_upper (via i) = via (upper i)

via_lower : {k : Whole → Written} {w : List ℕ} {v : Written} → Via Integer k w v → Via Exponent k (101 ∷ w) v
via_lower (via i) = via (lower i)

taken_exponent : (k : Whole → Written) {w : List ℕ} {v : Written} → Takes (g_exponent k) w v → Via Exponent k w v
taken_exponent k (t_yes h (t_byte x)) = via_upper (taken_integer k x)
taken_exponent k (t_no h (t_byte x)) = via_lower (taken_integer k x)

via_scaled : {k : Whole → Written} {w : List ℕ} {v : Written} → Via Exponent k w v → Via Scale k w v
via_scaled (via i) = via (scaled i)

taken_scale : (k : Whole → Written) {w : List ℕ} {v : Written} → Takes (g_scale k) w v → Via Scale k w v
taken_scale k (t_yes h t_stop) = via unscaled
taken_scale k (t_no h x) = via_scaled (taken_exponent k x)

after_hour : (k : Zone → Written) {b : ℕ} {w : Bool} {h r : List ℕ} {v : Written} → ZoneSign b w → Digits 1 2 h →
    Takes (fork is_nil (stop (k (zone_at w h 0))) (byte 58 (run digit (between 1 2) (λ mi. stop (k (zone_at w h (number mi))))))) r v → Via Zoned k (b ∷ (h ++ r)) v
after_hour k mk d (t_yes i t_stop) = rw append-nil (via (by_hour mk d))
after_hour k mk d (t_no i (t_byte (t_run u o x))) = let e = stopped x in rw (e.0, e.1, append-nil) (via (by_minute mk d (record { all = run_all u; count = o })))

taken_offset : (k : Zone → Written) {b : ℕ} {w : Bool} → ZoneSign b w → {x : List ℕ} {v : Written} → Takes (g_offset w k) x v → Via Zoned k (b ∷ x) v
taken_offset k mk (t_run t n x) = after_hour k mk (record { all = run_all t; count = n }) x

taken_zone : (k : Zone → Written) {w : List ℕ} {v : Written} → Takes (g_zone k) w v → Via Zoned k w v
taken_zone k (t_yes h t_stop) = via local
taken_zone k (t_no a (t_yes h (t_byte t_stop))) = via utc_upper
taken_zone k (t_no a (t_no b (t_yes h (t_byte t_stop)))) = via utc_lower
taken_zone k (t_no a (t_no b (t_no c (t_yes h (t_byte x))))) = taken_offset k west x
taken_zone k (t_no a (t_no b (t_no c (t_no h (t_byte x))))) = taken_offset k east x

after_second : (k : Second → G) {s r : List ℕ} {v : Written} → Digits 1 2 s →
    Takes (fork (next_is 46) (byte 46 (run digit zero_or_more (λ fs. k (sec s fs)))) (k (sec s []))) r v → Then Seconds k (58 ∷ (s ++ r)) v
after_second k {s} {v = v} d (t_yes i (t_byte (t_run {a = fs} {r = u} f o x))) =
    let y : Then Seconds k ((58 ∷ (s ++ 46 ∷ fs)) ++ u) v = then (decimal d (run_all f)) x in
    simp append_assoc at y
after_second k d (t_no i x) = then (second d) x

taken_seconds : (k : Second → G) {w : List ℕ} {v : Written} → Takes (g_seconds k) w v → Then Seconds k w v
taken_seconds k (t_yes h (t_byte (t_run t n x))) = after_second k (record { all = run_all t; count = n }) x
taken_seconds k (t_no h x) = then no_second x

taken_minutes : (k : Time → Written) {h : List ℕ} → Digits 1 2 h → {w : List ℕ} {v : Written} → Takes (g_minutes h k) w v → Via TimeWord k (h ++ 58 ∷ w) v
taken_minutes k {h} d (t_run {a = mi} t n x) = seconds (taken_seconds (λ s. g_zone (λ z. k (at s z))) x)
  where
    at : Second → Zone → Time
    at s z = record { hour = number h; minute = number mi; second = s; zone = z }

    zoned : {s u : List ℕ} {y : Second} {v : Written} → Seconds s y → Via Zoned (λ z. k (at y z)) u v → Via TimeWord k (h ++ 58 ∷ (mi ++ (s ++ u))) v
    zoned s (via z) = via (time d (record { all = run_all t; count = n }) s z)

    seconds : {w : List ℕ} {v : Written} → Then Seconds (λ s. g_zone (λ z. k (at s z))) w v → Via TimeWord k (h ++ 58 ∷ (mi ++ w)) v
    seconds (then {a = y} s x) = zoned s (taken_zone (λ z. k (at y z)) x)

taken_time : (k : Time → Written) {w : List ℕ} {v : Written} → Takes (g_time k) w v → Via TimeWord k w v
taken_time k (t_run {a = h} t n x) = colon x
  where
    colon : {r : List ℕ} {v : Written} → Takes (byte 58 (g_minutes h k)) r v → Via TimeWord k (h ++ r) v
    colon (t_byte x) = taken_minutes k (record { all = run_all t; count = n }) x

via_date_upper : {d : Date} {w : List ℕ} {v : Written} → Via TimeWord (a_date_time d) w v → Dated d (84 ∷ w) v
via_date_upper (via t) = date_upper t

via_date_lower : {d : Date} {w : List ℕ} {v : Written} → Via TimeWord (a_date_time d) w v → Dated d (116 ∷ w) v
via_date_lower (via t) = date_lower t

taken_dated : {d : Date} {w : List ℕ} {v : Written} → Takes (g_dated d) w v → Dated d w v
taken_dated (t_yes h t_stop) = date_alone
taken_dated {d} (t_no h (t_yes i (t_byte x))) = via_date_upper (taken_time (a_date_time d) x)
taken_dated {d} (t_no h (t_no i (t_byte x))) = via_date_lower (taken_time (a_date_time d) x)

based_end : {r s ds x : List ℕ} {neg : Bool} {v : Written} → Unsigned r → Sign s neg → All alnum ds → some_of (length ds) ≡ true →
    Takes (byte 35 (stop (a_based (number r) neg ds))) x v → Based (r ++ 35 ∷ (s ++ (ds ++ x))) v
based_end u s a n (t_byte t_stop) = in_radix u s a n

taken_based : {r : List ℕ} → Unsigned r → {w : List ℕ} {v : Written} → Takes (g_based (number r)) w v → Based (r ++ 35 ∷ w) v
taken_based u (t_yes h (t_byte (t_run t n x))) = based_end u minus (run_all t) n x
taken_based u (t_no h (t_yes i (t_byte (t_run t n x)))) = based_end u plus (run_all t) n x
taken_based u (t_no h (t_no i (t_run t n x))) = based_end u unsigned (run_all t) n x

-- a sign, whether one is written, and whether it is a minus
data Signed : List ℕ → Bool → Bool → Type 0 where
  s_none : Signed [] false false
  s_plus : Signed (43 ∷ []) true false
  s_minus : Signed (45 ∷ []) true true

sign_of : {s : List ℕ} {b neg : Bool} → Signed s b neg → Sign s neg
sign_of s_none = unsigned
sign_of s_plus = plus
sign_of s_minus = minus

module _ (m : Mode) where
  dated_shape : {d x : List ℕ} {da : Date} {v : Written} → DateWord d da → Dated da x v → Shape m (d ++ x) v
  dated_shape d date_alone = simp append-nil (date_word d)
  dated_shape d (date_upper t) = date_time_word (upper_t d t)
  dated_shape d (date_lower t) = date_time_word (lower_t d t)

  after_month : {y mo r : List ℕ} {v : Written} → Digits 4 4 y → All digit mo →
      Takes (fork (next_is 45)
      (check (between 1 2 (length mo)) (byte 45 (run digit (between 1 2) (λ d. g_dated (in_month (number y) (number mo) (number d))))))
      (check (between 1 3 (length mo)) (g_dated (in_year (number y) (number mo))))) r v → Shape m (y ++ 45 ∷ (mo ++ r)) v
  after_month a b (t_yes h (t_check i (t_byte (t_run u j x)))) =
      simp append_assoc at (dated_shape (year_month_day a (record { all = b; count = i }) (record { all = run_all u; count = j })) (taken_dated x))
  after_month a b (t_no h (t_check i x)) = simp append_assoc at (dated_shape (year_doy a (record { all = b; count = i })) (taken_dated x))

  taken_days : {y : List ℕ} → Digits 4 4 y → {w : List ℕ} {v : Written} → Takes (g_days y) w v → Shape m (y ++ 45 ∷ w) v
  taken_days a (t_run t c x) = after_month a (run_all t) x

  via_range : {s ds w : List ℕ} {neg : Bool} {v : Written} → m.version_1 ≡ true → Sign s neg → Unsigned ds → Via Integer (a_range (signed neg (number ds))) w v →
      Shape m (s ++ (ds ++ 46 ∷ 46 ∷ w)) v
  via_range h s u (via i) = range_word h (from_to s u i)

  via_pointed : {s ds fs x : List ℕ} {neg : Bool} {v : Written} → Sign s neg → All digit ds → All digit fs → some_of (length (ds ++ fs)) ≡ true →
      Via Scale (a_decimal neg ds fs) x v → Shape m (s ++ (ds ++ 46 ∷ (fs ++ x))) v
  via_pointed s a b h (via z) = real_word (pointed s a b h z)

  taken_pointed : {s ds fs x : List ℕ} {neg : Bool} {v : Written} → Sign s neg → All digit ds → All digit fs →
      Takes (check (some_of (length (ds ++ fs))) (g_scale (a_decimal neg ds fs))) x v → Shape m (s ++ (ds ++ 46 ∷ (fs ++ x))) v
  taken_pointed {ds = ds} {fs = fs} {neg = neg} s a b (t_check h x) = via_pointed s a b h (taken_scale (a_decimal neg ds fs) x)

  via_bare : {s ds x : List ℕ} {neg : Bool} {v : Written} → Sign s neg → Unsigned ds → Via Exponent (a_decimal neg ds []) x v → Shape m (s ++ (ds ++ x)) v
  via_bare s u (via z) = real_word (bare s u z)

  via_time : {w : List ℕ} {v : Written} → Via TimeWord a_time w v → Shape m w v
  via_time (via t) = time_word t

  -- no sign before a based integer, a date or a time
  taken_unsigned : {ds x : List ℕ} {v : Written} → All digit ds →
      Takes (fork (next_is 35) (check (some_of (length ds)) (byte 35 (g_based (number ds))))
      (fork (next_is 58) (check (between 1 2 (length ds)) (byte 58 (g_minutes ds a_time)))
      (check (between 4 4 (length ds)) (byte 45 (g_days ds))))) x v → Shape m (ds ++ x) v
  taken_unsigned a (t_yes h (t_check c (t_byte x))) = based_word (taken_based (record { all = a; some = c }) x)
  taken_unsigned a (t_no h (t_yes i (t_check c (t_byte x)))) = via_time (taken_minutes a_time (record { all = a; count = c }) x)
  taken_unsigned a (t_no h (t_no i (t_check c (t_byte x)))) = taken_days (record { all = a; count = c }) x

  taken_after : {s ds x : List ℕ} {b neg : Bool} {v : Written} → Signed s b neg → All digit ds → Takes (g_after m b neg ds) x v → Shape m (s ++ (ds ++ x)) v
  taken_after g a (t_yes h (t_check c t_stop)) = rw append-nil (integer_word (signed_digits (sign_of g) (record { all = a; some = c })))
  taken_after g a (t_no h (t_yes i (t_check e (t_check c (t_byte (t_byte x)))))) = via_range e (sign_of g) (record { all = a; some = c }) (taken_integer _ x)
  taken_after g a (t_no h (t_no i (t_yes j (t_byte (t_run t n x))))) = taken_pointed (sign_of g) a (run_all t) x
  taken_after g a (t_no h (t_no i (t_no j (t_yes k (t_check c x))))) = via_bare (sign_of g) (record { all = a; some = c }) (taken_exponent _ x)
  taken_after s_none a (t_no h (t_no i (t_no j (t_no k (t_check c x))))) = taken_unsigned a x
  taken_after s_plus a (t_no h (t_no i (t_no j (t_no k (t_check c x))))) = absurd (false≢true c)
  taken_after s_minus a (t_no h (t_no i (t_no j (t_no k (t_check c x))))) = absurd (false≢true c)

  taken_word : {w : List ℕ} {v : Written} → Takes (g_word m) w v → Shape m w v
  taken_word (t_yes h (t_whole {w = w} x)) = identifier_word x
  taken_word (t_no h (t_yes i (t_byte (t_run t n x)))) = taken_after s_minus (run_all t) x
  taken_word (t_no h (t_no i (t_yes j (t_byte (t_run t n x))))) = taken_after s_plus (run_all t) x
  taken_word (t_no h (t_no i (t_no j (t_run t n x)))) = taken_after s_none (run_all t) x

pub shape_sound : (m : Mode) (w : List ℕ) (v : Written) → shape m w ≡ some v → Shape m w v
shape_sound m w v e = taken_word m (match_sound (g_word m) w v e)

pub shape_complete : {m : Mode} {w : List ℕ} {v : Written} → Shape m w v → shape m w ≡ some v
shape_complete {m} s = match_complete (word_takes m s)
