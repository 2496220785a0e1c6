-- The counter of a session: every table of a reading goes under one, and only one.
use Prim.Native.Nat.{ℕ}
use mathlib.Core.Path.{◌≡◌, refl, sym, ap, subst, ◌∙◌}
use mathlib.Core.Bool.{Bool, true, false, cond}
use mathlib.Core.List.{List, [], ◌∷◌, ◌++◌, append_assoc}
use native.Mathlib.Omega.{arith}
use borrow.Author.Tests.{eqb-true}
use lib.Dec.{eqb}
use Rattle.rules.specs.Data.{Moment, Row, attribute, pointer, opened, closed, an_integer, a_real, a_moment, a_text, a_symbol, a_unit, sequence, sequence_end, set, set_end, last, Placed}
use Rattle.rules.specs.Modes.{Mode, base}
use Rattle.rules.specs.Values.{Day}
use Rattle.rules.specs.Grammar.{strict, Label, label, no_statement, and_statement, Statement, assignment, pointing, block}
use Rattle.rules.specs.Proper.{Each, one, Proper}
use Rattle.rules.specs.Reading.{accepted, Reads, read, follows}
use Rattle.rules.specs.Asked.{From, here, Finding, stands, absent, Looks}
use Rattle.rules.specs.Calendar.{weekday}
use Rattle.rules.specs.Book.{date_of, HasDate, date_alone, date_and_time, start_time, DateAt, undated, Under, on_weekday, no_start, no_date}
use Rattle.rules.proofs.Machine.Limits as limits
use Rattle.rules.proofs.Machine.Limits.{Dated, MomentHeld, Valued}
use Rattle.rules.proofs.Machine.Lookup.{from_of, seeks}
use Rattle.rules.proofs.Tables.Seeking.{from_is, from_there, from_each, looks_is, looks_there}
use Rattle.rules.proofs.Tables.OwnTable.{read_proper, read_valued}
use Rattle.rules.proofs.Book.Calendar.{InCalendar, Weekdays, weekday_fixed}
use Rattle.rules.proofs.Book.Counters.{Counter}

-- ---- a label's table has a row

pub record Begun (rows : List Row) : Type 0 where
  pub first : Row
  pub rest : List Row
  pub is : rows ≡ first ∷ rest

statement_begins : {m : Mode} {d : ℕ} {xs : List Placed} {rs : List Row} (qs : List Row) → Statement m strict d xs rs → Begun (rs ++ qs)
statement_begins qs (assignment v e) = record { first = _; rest = _; is = refl }
statement_begins qs (pointing v e) = record { first = _; rest = _; is = refl }
statement_begins qs (block t o k e s c f) = record { first = _; rest = _; is = refl }

label_begins : {m : Mode} {es : List Placed} {rows : List Row} → Label m strict es rows → Begun rows
label_begins (label b p no_statement k) = record { first = _; rest = _; is = refl }
label_begins (label b p (and_statement {rs = rs} {qs = qs} s ss) k) = subst Begun (sym (append_assoc rs qs _)) (statement_begins (qs ++ (last p.upto ∷ [])) s)

begins : {l : List ℕ} {rows : List Row} {i : ℕ} → Reads base l (accepted rows i) → Begun rows
begins (read h (follows c k)) = label_begins k

-- ---- the date behind an offset

pub data Dating : Type 0 where
  none : Dating
  date : Moment → Dating

abbrev pub dating_of : Row → Dating
dating_of (attribute p) = none
dating_of (pointer p) = none
dating_of (opened k p) = none
dating_of (closed k) = none
dating_of (an_integer w) = none
dating_of (a_real x) = none
dating_of (a_moment t) = cond (eqb t.parts 1) (date t) (cond (eqb t.parts 3) (date t) none)
dating_of (a_text p) = none
dating_of (a_symbol p) = none
dating_of (a_unit op p w) = none
dating_of sequence = none
dating_of sequence_end = none
dating_of set = none
dating_of set_end = none
dating_of (last n) = none

-- of the second row
abbrev pub dating_in : List Row → Dating
dating_in [] = none
dating_in (r ∷ []) = none
dating_in (r ∷ x ∷ rs) = dating_of x

abbrev pub under_date : Dating → ℕ
under_date none = undated
under_date (date t) = weekday (date_of t)

abbrev pub under_finding : List Row → Finding → ℕ
under_finding rows absent = undated
under_finding rows (stands k) = under_date (dating_in (from_of k rows))

unfoldable pub under_of : List ℕ → List Row → ℕ
under_of l rows = under_finding rows (seeks l start_time 0 0 rows)

has_date : {t : Moment} → HasDate t → dating_of (a_moment t) ≡ date t
has_date {t} (date_alone e) = rw e
has_date {t} (date_and_time e) = rw e

date_is : {k : ℕ} {rows : List Row} {t : Moment} → DateAt k rows t → dating_in (from_of k rows) ≡ date t
date_is d = rw (from_is d.behind) (has_date d.has_date)

date_same : {t t' : Moment} → date t ≡ date t' → t ≡ t'
date_same e = cc

dateless : {t : Moment} → none ≡ date t → ⊥
dateless e = let w : ◌≡◌ {A = ℕ} 0 1 = cc in omega arith

dating_there : (x : Row) {t : Moment} → dating_of x ≡ date t → (x ≡ a_moment t) × HasDate t
dating_there (attribute p) e = absurd (dateless e)
dating_there (pointer p) e = absurd (dateless e)
dating_there (opened k p) e = absurd (dateless e)
dating_there (closed k) e = absurd (dateless e)
dating_there (an_integer w) e = absurd (dateless e)
dating_there (a_real x) e = absurd (dateless e)
dating_there (a_moment u) {t} e = go (eqb u.parts 1) refl (eqb u.parts 3) refl e
  where
    go : (a : Bool) → eqb u.parts 1 ≡ a → (b : Bool) → eqb u.parts 3 ≡ b → cond a (date u) (cond b (date u) none) ≡ date t → (◌≡◌ {A = Row} (a_moment u) (a_moment t)) × HasDate t
    go true p b q e = let s = date_same e in (ap a_moment s, subst HasDate s (date_alone (eqb-true u.parts 1 p)))
    go false p true q e = let s = date_same e in (ap a_moment s, subst HasDate s (date_and_time (eqb-true u.parts 3 q)))
    go false p false q e = absurd (dateless e)
dating_there (a_text p) e = absurd (dateless e)
dating_there (a_symbol p) e = absurd (dateless e)
dating_there (a_unit op p w) e = absurd (dateless e)
dating_there sequence e = absurd (dateless e)
dating_there sequence_end e = absurd (dateless e)
dating_there set e = absurd (dateless e)
dating_there set_end e = absurd (dateless e)
dating_there (last n) e = absurd (dateless e)

date_there : (k : ℕ) (rows : List Row) {t : Moment} → dating_in (from_of k rows) ≡ date t → DateAt k rows t
date_there k rows {t} e = go (from_of k rows) refl e
  where
    go : (qs : List Row) → from_of k rows ≡ qs → dating_in qs ≡ date t → DateAt k rows t
    go [] f e = absurd (dateless e)
    go (r ∷ []) f e = absurd (dateless e)
    go (r ∷ x ∷ rs) f e =
        let d = dating_there x e in
        record { row = r; rest = rs; behind = subst (λ (y : Row). From k rows (r ∷ y ∷ rs)) d.0 (from_there k rows f); has_date = d.1 }

-- ---- one counter

pub under_is : {l : List ℕ} {rows : List Row} {n : ℕ} → Under l rows n → under_of l rows ≡ n
unfolding under_of
under_is {l} {rows} (on_weekday {k = k} h d) = ap (under_finding rows) (looks_is l start_time h) ∙ ap under_date (date_is d)
under_is {l} {rows} (no_start h) = rw (looks_is l start_time h)
under_is {l} {rows} (no_date {k = k} h f) = ap (under_finding rows) (looks_is l start_time h) ∙ go (dating_in (from_of k rows)) refl
  where
    go : (x : Dating) → dating_in (from_of k rows) ≡ x → under_date x ≡ undated
    go none e = refl
    go (date t) e = absurd (f t (date_there k rows e))

pub under_by : {l : List ℕ} (rows : List Row) (z : Finding) → Looks l start_time 0 rows z → Under l rows (under_finding rows z)
under_by rows absent h = no_start h
under_by {l} rows (stands k) h = go (dating_in (from_of k rows)) refl
  where
    go : (x : Dating) → dating_in (from_of k rows) ≡ x → Under l rows (under_date x)
    go none e = no_date h (λ t d. dateless (sym e ∙ date_is d))
    go (date t) e = on_weekday h (date_there k rows e)

-- in every table of a reading START_TIME is found or not
pub start_looks : {l : List ℕ} {rows : List Row} {i : ℕ} → Reads base l (accepted rows i) → Looks l start_time 0 rows (seeks l start_time 0 0 rows)
start_looks {l} {rows} r =
    let b = begins r in
    let f : From 0 (b.first ∷ b.rest) (b.first ∷ b.rest) = here in
    let p : Proper l (b.first ∷ b.rest) = subst (Proper l) b.is (read_proper base l r) in
    subst (λ (rs : List Row). Looks l start_time 0 rs (seeks l start_time 0 0 rs)) (sym b.is) (looks_there l start_time p f)

-- every label that is read has a counter
pub under_there : {l : List ℕ} {rows : List Row} {i : ℕ} → Reads base l (accepted rows i) → Under l rows (under_of l rows)
unfolding under_of
under_there {rows = rows} r = under_by rows _ (start_looks r)

-- and only one
pub under_once : {l : List ℕ} {rows : List Row} {n n' : ℕ} → Under l rows n → Under l rows n' → n ≡ n'
under_once a b = sym (under_is a) ∙ under_is b

pub under_counter : {l : List ℕ} {rows : List Row} {n : ℕ} → Under l rows n → Counter n
under_counter (on_weekday {t = t} h d) = omega arith
under_counter (no_start h) = omega arith
under_counter (no_date h f) = omega arith

-- ---- the weekday that the two facts fix

-- the date of a row that a label gives is a day of the calendar
in_calendar : (t : Moment) → Dated t → InCalendar (date_of t)
in_calendar t d = record {
  year_least = omega (arith, d.year_least);
  year_most = omega (arith, d.year_most);
  month_least = omega (arith, d.month_least);
  month_most = omega (arith, d.month_most);
  day_least = omega (arith, d.day_least);
  day_most = d.day_most;
}

is_dated : {t : Moment} → HasDate t → MomentHeld t → Dated t
is_dated h (limits.date_alone p d u) = d
is_dated h (limits.date_and_time p d u) = d
is_dated (date_alone e) (limits.time_alone p u m) = absurd (omega arith)
is_dated (date_and_time e) (limits.time_alone p u m) = absurd (omega arith)

-- So a dated session goes under what any function gives its date that has 1979-07-08 a Sunday and the weekday after for the day after.
pub under_fixed : {l : List ℕ} {rows : List Row} {i k : ℕ} {t : Moment} (f : Day → ℕ) → Weekdays f → Reads base l (accepted rows i) → Looks l start_time 0 rows (stands k) → DateAt k rows t →
    Under l rows (f (date_of t))
under_fixed {l} {rows} {t = t} f w r h d =
    let v = second (from_each d.behind (read_valued base l r)) in
    subst (Under l rows) (sym (weekday_fixed f w (date_of t) (in_calendar t (is_dated d.has_date v)))) (on_weekday h d)
  where
    second : {r : Row} {rs : List Row} → Each Valued (r ∷ a_moment t ∷ rs) → MomentHeld t
    second (one x (one y z)) = y
