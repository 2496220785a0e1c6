-- Rows with the marks of what is written: they come in the same order, are in order as before, mean the same, and keep these marks.
use Prim.Native.Nat.{ℕ}
use mathlib.Core.Bool.{Bool, true, false, cond}
use mathlib.Core.Logic.{inl, inr}
use mathlib.Core.Path.{◌≡◌, refl, sym, ap, ap₂, ◌∙◌}
use mathlib.Core.List.{List, [], ◌∷◌, ◌++◌, map}
use native.Mathlib.Omega.{arith}
use borrow.Author.Tests.{eqb-true}
use lib.Dec.{eqb}
use Rattle.rules.specs.Data.{Moment, RowOf, Row, a_moment}
use Rattle.rules.specs.Proper.{Each, none, one, aside}
use Rattle.rules.specs.Meaning.{Sense}
use Rattle.rules.specs.Written.{written_mark}
use Rattle.rules.proofs.Machine.Limits.{Dated, Marked, Timed, MomentHeld, date_alone, time_alone, date_and_time, Valued}
use Rattle.rules.proofs.Machine.Rows.{Sort, sort}
use Rattle.rules.proofs.Written.Marks.{on_moment, other_rows, unmark, as_written, aside_on, Wording}
use Rattle.rules.proofs.Written.Clean.{Clean}

-- ---- one date or time

-- where there is a time, Z or a signed zone
timed_mark : (t : Moment) → eqb t.parts 1 ≡ false → Marked (written_mark t) t.offset.size
timed_mark t e = rw e (go (eqb t.offset.size 0) refl)
  where
    go : (b : Bool) → eqb t.offset.size 0 ≡ b → Marked (cond b 1 2) t.offset.size
    go true q = inr (omega arith, eqb-true t.offset.size 0 q)
    go false q = inl refl

timed_written : (t : Moment) → eqb t.parts 1 ≡ false → Timed t → Timed (as_written t)
timed_written t e h = record {
  hour_most = h.hour_most;
  minute_most = h.minute_most;
  second_most = h.second_most;
  nanoseconds_most = h.nanoseconds_most;
  offset_most = h.offset_most;
  marked = timed_mark t e;
}

dated_written : (t : Moment) → Dated t → Dated (as_written t)
dated_written t d = record { year_least = d.year_least; year_most = d.year_most; month_least = d.month_least; month_most = d.month_most; day_least = d.day_least; day_most = d.day_most }

held_written : (t : Moment) → MomentHeld t → MomentHeld (as_written t)
held_written t (date_alone p d u) =
    date_alone p (dated_written t d) (record { hour = u.hour; minute = u.minute; second = u.second; nanoseconds = u.nanoseconds; offset = u.offset; mark = rw p })
held_written t (time_alone p u h) = time_alone p (record { year = u.year; month = u.month; day = u.day }) (timed_written t (rw p) h)
held_written t (date_and_time p d h) = date_and_time p (dated_written t d) (timed_written t (rw p) h)

-- ---- rows

pub clean_written : (rs : List Wording) → Each Clean rs → Each Clean (map (on_moment as_written) rs)
clean_written [] none = none
clean_written (r ∷ rs) (one c cs) = one (other_rows as_written (λ (x y : Wording). Clean y → Clean x) (λ t h. h) (λ y h. h) r c) (clean_written rs cs)

pub valued_written : (rs : List Wording) → Each Valued rs → Each Valued (map (on_moment as_written) rs)
valued_written [] none = none
valued_written (r ∷ rs) (one v vs) = one (other_rows as_written (λ (x y : Wording). Valued y → Valued x) held_written (λ y h. h) r v) (valued_written rs vs)

pub sorts_written : (rs : List Wording) → map sort rs ≡ map sort (map (on_moment as_written) rs)
sorts_written [] = refl
sorts_written (r ∷ rs) = ap₂ (λ (x : Sort) (y : List Sort). x ∷ y) (other_rows as_written (λ (x y : Wording). sort y ≡ sort x) (λ t. refl) (λ y. refl) r) (sorts_written rs)

pub unmark_written : (rs : List Wording) → map unmark (map (on_moment as_written) rs) ≡ map unmark rs
unmark_written [] = refl
unmark_written (r ∷ rs) = ap₂ (λ (x : Sense) (y : List Sense). x ∷ y) (other_rows as_written (λ (x y : Wording). unmark x ≡ unmark y) (λ t. refl) (λ y. refl) r) (unmark_written rs)

pub written_twice : (rs : List Wording) → map (on_moment as_written) (map (on_moment as_written) rs) ≡ map (on_moment as_written) rs
written_twice [] = refl
written_twice (r ∷ rs) =
    ap₂ (λ (x : Wording) (y : List Wording). x ∷ y) (other_rows as_written (λ (x y : Wording). on_moment as_written x ≡ on_moment as_written y) (λ t. refl) (λ y. refl) r) (written_twice rs)

-- ---- spans aside

aside_all : {S L : Type 0} (rs : List (RowOf S L ℕ)) → map aside (map (on_moment as_written) rs) ≡ map (on_moment as_written) (map aside rs)
aside_all [] = refl
aside_all (r ∷ rs) = ap₂ (λ (x : RowOf (Unit {0}) (Unit {0}) ℕ) (y : List (RowOf (Unit {0}) (Unit {0}) ℕ)). x ∷ y) (aside_on as_written r) (aside_all rs)

-- rows alike to rows with these marks have them
pub marks_aside : (rs : List Row) (ws : List Wording) → map aside rs ≡ map aside ws → map (on_moment as_written) ws ≡ ws → map (on_moment as_written) (map aside rs) ≡ map aside rs
marks_aside rs ws e k = ap (map (on_moment as_written)) e ∙ sym (aside_all ws) ∙ ap (map aside) k ∙ sym e

-- the mark of one of them
pub mark_at : (before behind : List Row) (t : Moment) → map (on_moment as_written) (map aside (before ++ (a_moment t ∷ behind))) ≡ map aside (before ++ (a_moment t ∷ behind)) → t.mark ≡ written_mark t
mark_at [] behind t e = let w : as_written t ≡ t = cc in sym (ap (λ (x : Moment). x.mark) w)
mark_at (r ∷ before) behind t e = mark_at before behind t (let w : map (on_moment as_written) (map aside (before ++ (a_moment t ∷ behind))) ≡ map aside (before ++ (a_moment t ∷ behind)) = cc in w)
