-- Each test of a row's value and span is true exactly where the rules hold.
use Prim.Native.Nat.{ℕ, ◌≤◌, ◌<◌, ◌%◌, ◌^◌}
use mathlib.Core.Bool.{Bool, true, false, not, ◌&&◌, ◌||◌, false≢true}
use mathlib.Core.Logic.{◌↔◌, ◌⊎◌, inl, inr}
use mathlib.Core.Path.{◌≡◌, refl, ap, ap₂}
use mathlib.Core.List.{List}
use borrow.Author.Tests.{ltb-true, lt-ltb, leb-true, le-leb, eqb-true, eq-eqb}
use lib.Dec.{leb, ltb, eqb}
use lib.ListN.{length}
use Rattle.rules.specs.Data.{Span, Whole, Real, Moment, Row, attribute, pointer, opened, closed, an_integer, a_real, a_moment, a_text, a_symbol, a_unit, sequence, sequence_end, set, set_end, last}
use Rattle.rules.specs.Values.{month_length}
use Rattle.rules.specs.Written.{is_name}
use Rattle.rules.specs.Proper.{stretch, NameWord, TextBody, SymbolBody, Held, Holds}
use Rattle.rules.proofs.Tables.Tests.{and_true, and_left, and_right, as_not, not_as}
use Rattle.rules.proofs.Machine.Checks.{is_text, is_symbol}
use Rattle.rules.proofs.Tables.Contents.{name_test, text_body, symbol_body}
use Rattle.rules.proofs.Machine.Limits.{Within, RealHeld, Dated, Marked, Timed, Undated, Untimed, MomentHeld, date_alone, time_alone, date_and_time, Valued}
use Rattle.rules.proofs.Machine.Checks.{within_test, real_test, dated_test, mark_test, timed_test, undated_test, zero_test, untimed_test, moment_test, value_test, held_test, span_test}

-- ---- tests that decide

abbrev pub Decides : Type 0 → Bool → Type 0
Decides P b = P ↔ (b ≡ true)

always : Decides (Unit {0}) true
always = (λ h. refl, λ h. tt)

below : (n m : ℕ) → Decides (n < m) (ltb n m)
below n m = (lt-ltb n m, ltb-true n m)

most : (n m : ℕ) → Decides (n ≤ m) (leb n m)
most n m = (le-leb n m, leb-true n m)

equal : (n m : ℕ) → Decides (n ≡ m) (eqb n m)
equal n m = (eq-eqb n m, eqb-true n m)

unset : (b : Bool) → Decides (b ≡ false) (not b)
unset b = (not_as b, as_not b)

both : {P Q : Type 0} (a b : Bool) → Decides P a → Decides Q b → Decides (P × Q) (a && b)
both a b f g = (λ h. and_true (f.0 h.0) (g.0 h.1), λ h. (f.1 (and_left a b h), g.1 (and_right a b h)))

implied : {P Q : Type 0} (a b : Bool) → Decides P a → Decides Q b → Decides (P → Q) (not a || b)
implied true b f g = (λ h. g.0 (h (f.1 refl)), λ h p. g.1 h)
implied false b f g = (λ h. refl, λ h p. absurd (false≢true (f.0 p)))

or_else : {P Q : Type 0} {b : Bool} → (P → ⊥) → Decides Q b → P ⊎ Q → b ≡ true
or_else f g (inl p) = absurd (f p)
or_else f g (inr q) = g.0 q

either : {P Q : Type 0} (a b : Bool) → Decides P a → Decides Q b → Decides (P ⊎ Q) (a || b)
either true b f g = (λ h. refl, λ h. inl (f.1 refl))
either false b f g = (or_else (λ p. false≢true (f.0 p)) g, λ h. inr (g.1 h))

by_way : {P Q : Type 0} {b : Bool} → (P → Q) → (Q → P) → Decides P b → Decides Q b
by_way f g d = (λ q. d.0 (g q), λ h. f (d.1 h))

-- ---- values

within_decides : (m : ℕ) (w : Whole) → Decides (Within m w) (within_test m w)
within_decides m w =
    by_way (λ h. record { below = h.0; zero_plain = h.1 }) (λ h. (h.below, h.zero_plain))
    (both (ltb w.size m) (not (eqb w.size 0) || not w.minus) (below w.size m) (implied (eqb w.size 0) (not w.minus) (equal w.size 0) (unset w.minus)))

real_decides : (x : Real) → Decides (RealHeld x) (real_test x)
real_decides x =
    by_way (λ h. record { number = h.0; power = h.1.0; no_trailing_zero = h.1.1 }) (λ h. (h.number, (h.power, h.no_trailing_zero)))
    (both _ _ (within_decides (10 ^ 18) x.number) (both _ _ (within_decides 1000 x.power)
    (implied _ _ (equal (x.number.size % 10) 0) (both _ _ (equal x.number.size 0) (equal x.power.size 0)))))

dated_decides : (t : Moment) → Decides (Dated t) (dated_test t)
dated_decides t =
    by_way (λ h. record { year_least = h.0; year_most = h.1.0; month_least = h.1.1.0; month_most = h.1.1.1.0; day_least = h.1.1.1.1.0; day_most = h.1.1.1.1.1 })
    (λ h. (h.year_least, (h.year_most, (h.month_least, (h.month_most, (h.day_least, h.day_most))))))
    (both _ _ (below 0 t.year) (both _ _ (below t.year 10000) (both _ _ (below 0 t.month) (both _ _ (below t.month 13)
    (both _ _ (below 0 t.day) (most t.day (month_length t.year t.month)))))))

marked_decides : (t : Moment) → Decides (Marked t.mark t.offset.size) (mark_test t)
marked_decides t = either _ _ (equal t.mark 2) (both _ _ (below t.mark 2) (equal t.offset.size 0))

timed_decides : (t : Moment) → Decides (Timed t) (timed_test t)
timed_decides t =
    by_way (λ h. record { hour_most = h.0; minute_most = h.1.0; second_most = h.1.1.0; nanoseconds_most = h.1.1.1.0; offset_most = h.1.1.1.1.0; marked = h.1.1.1.1.1 })
    (λ h. (h.hour_most, (h.minute_most, (h.second_most, (h.nanoseconds_most, (h.offset_most, h.marked))))))
    (both _ _ (below t.hour 24) (both _ _ (below t.minute 60) (both _ _ (below t.second 60) (both _ _ (below t.nanoseconds (10 ^ 9)) (both _ _ (within_decides 780 t.offset) (marked_decides t))))))

undated_decides : (t : Moment) → Decides (Undated t) (undated_test t)
undated_decides t =
    by_way (λ h. record { year = h.0; month = h.1.0; day = h.1.1 }) (λ h. (h.year, (h.month, h.day)))
    (both _ _ (equal t.year 0) (both _ _ (equal t.month 0) (equal t.day 0)))

zero_decides : (w : Whole) → Decides (w ≡ record { minus = false; size = 0 }) (zero_test w)
zero_decides w =
    by_way (λ h. ap₂ (λ (t : Bool) (i : ℕ). record { minus = t; size = i }) h.0 h.1) (λ e. (ap (λ (v : Whole). v.minus) e, ap (λ (v : Whole). v.size) e))
    (both _ _ (unset w.minus) (equal w.size 0))

untimed_decides : (t : Moment) → Decides (Untimed t) (untimed_test t)
untimed_decides t =
    by_way (λ h. record { hour = h.0; minute = h.1.0; second = h.1.1.0; nanoseconds = h.1.1.1.0; offset = h.1.1.1.1.0; mark = h.1.1.1.1.1 })
    (λ h. (h.hour, (h.minute, (h.second, (h.nanoseconds, (h.offset, h.mark))))))
    (both _ _ (equal t.hour 0) (both _ _ (equal t.minute 0) (both _ _ (equal t.second 0) (both _ _ (equal t.nanoseconds 0) (both _ _ (zero_decides t.offset) (equal t.mark 0))))))

abbrev Parts : Moment → Type 0
Parts t = ((t.parts ≡ 1) × (Dated t × Untimed t)) ⊎ (((t.parts ≡ 2) × (Undated t × Timed t)) ⊎ ((t.parts ≡ 3) × (Dated t × Timed t)))

together : (t : Moment) → Parts t → MomentHeld t
together t (inl x) = date_alone x.0 x.1.0 x.1.1
together t (inr (inl x)) = time_alone x.0 x.1.0 x.1.1
together t (inr (inr x)) = date_and_time x.0 x.1.0 x.1.1

apart : (t : Moment) → MomentHeld t → Parts t
apart t (date_alone e d u) = inl (e, (d, u))
apart t (time_alone e u d) = inr (inl (e, (u, d)))
apart t (date_and_time e d u) = inr (inr (e, (d, u)))

moment_decides : (t : Moment) → Decides (MomentHeld t) (moment_test t)
moment_decides t =
    by_way (together t) (apart t)
    (either _ _ (both _ _ (equal t.parts 1) (both _ _ (dated_decides t) (untimed_decides t)))
    (either _ _ (both _ _ (equal t.parts 2) (both _ _ (undated_decides t) (timed_decides t))) (both _ _ (equal t.parts 3) (both _ _ (dated_decides t) (timed_decides t)))))

pub value_decides : (r : Row) → Decides (Valued r) (value_test r)
value_decides (attribute p) = always
value_decides (pointer p) = always
value_decides (opened k p) = always
value_decides (closed k) = always
value_decides (an_integer w) = within_decides (2 ^ 63) w
value_decides (a_real x) = real_decides x
value_decides (a_moment t) = moment_decides t
value_decides (a_text p) = always
value_decides (a_symbol p) = always
value_decides (a_unit op p w) = within_decides 100 w
value_decides sequence = always
value_decides sequence_end = always
value_decides set = always
value_decides set_end = always
value_decides (last n) = always

-- ---- spans

held_decides : (Allowed : List ℕ → Type 0) (test : List ℕ → Bool) → ((w : List ℕ) → Decides (Allowed w) (test w)) → (given : List ℕ) (p : Span) →
    Decides (Held Allowed given p) (held_test test given p)
held_decides Allowed test d given p =
    by_way (λ h. record { ordered = h.0; inside = h.1.0; content = h.1.1 }) (λ h. (h.ordered, (h.inside, h.content)))
    (both _ _ (most p.from p.upto) (both _ _ (most p.upto (length given)) (d (stretch given p))))

pub span_decides : (given : List ℕ) (r : Row) → Decides (Holds given r) (span_test given r)
span_decides given (attribute p) = held_decides NameWord is_name name_test given p
span_decides given (pointer p) = held_decides NameWord is_name name_test given p
span_decides given (opened k p) = held_decides NameWord is_name name_test given p
span_decides given (closed k) = always
span_decides given (an_integer w) = always
span_decides given (a_real x) = always
span_decides given (a_moment t) = always
span_decides given (a_text p) = held_decides TextBody is_text text_body given p
span_decides given (a_symbol p) = held_decides SymbolBody is_symbol symbol_body given p
span_decides given (a_unit op p w) = held_decides NameWord is_name name_test given p
span_decides given sequence = always
span_decides given sequence_end = always
span_decides given set = always
span_decides given set_end = always
span_decides given (last n) = most n (length given)
