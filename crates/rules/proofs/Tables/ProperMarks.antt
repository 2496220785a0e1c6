-- Document 02 §6: A mark of 0 or 1 with a nonzero offset, above 2, or other than 0 where there is no time, makes a table improper.
-- Refusals: 12 for such a row. The rules of tables need not say so: no label gives such a row.
-- Theorems here: no proper table has one, and behind rows that begin a proper table it is refused with 12 at its place.
use Prim.Native.Nat.{ℕ, ◌≤◌, ◌<◌}
use native.Mathlib.Omega.{arith}
use mathlib.Core.Logic.{inl, inr}
use mathlib.Core.Path.{◌≡◌, refl, sym, ap, ◌∙◌, subst}
use mathlib.Core.List.{List, ◌∷◌, ◌++◌}
use lib.ListN.{length}
use Rattle.rules.specs.Data.{Moment, Row, a_moment}
use Rattle.rules.specs.Table.{encode, table}
use Rattle.rules.specs.Proper.{Each, one, Proper, Begins, Improper}
use Rattle.rules.proofs.Machine.Limits.{Marked, MomentHeld, date_alone, time_alone, date_and_time, Valued, Codes}
use Rattle.rules.proofs.Tables.Tests.{each_right}
use Rattle.rules.proofs.Tables.Proper.{proper, begins→going}
use Rattle.rules.proofs.Tables.DecodeComplete.{decode_encode, got_same, encode_some}
use Rattle.rules.proofs.Tables.Walk.{stop_at}

-- a mark that makes a table improper
pub data Amiss (t : Moment) : Type 0 where
  -- A mark of 0 or 1 with a nonzero offset,
  no_signed_zone : t.mark ≤ 1 → 0 < t.offset.size → Amiss t
  -- above 2,
  no_such_mark : 2 < t.mark → Amiss t
  -- or other than 0 where there is no time
  no_time : t.parts ≡ 1 → 0 < t.mark → Amiss t

timed_right : (t : Moment) → (t.parts ≡ 1 → ⊥) → Marked t.mark t.offset.size → Amiss t → ⊥
timed_right t p (inl e) (no_signed_zone a b) = omega arith
timed_right t p (inr e) (no_signed_zone a b) = omega (arith, e.1)
timed_right t p (inl e) (no_such_mark a) = omega arith
timed_right t p (inr e) (no_such_mark a) = omega (arith, e.0)
timed_right t p m (no_time q a) = p q

dated_right : (t : Moment) → t.mark ≡ 0 → t.offset.size ≡ 0 → Amiss t → ⊥
dated_right t e f (no_signed_zone a b) = omega arith
dated_right t e f (no_such_mark a) = omega arith
dated_right t e f (no_time q a) = omega arith

held_right : (t : Moment) → MomentHeld t → Amiss t → ⊥
held_right t (date_alone p d u) = dated_right t u.mark (ap (λ w. w.size) u.offset)
held_right t (time_alone p u h) = timed_right t (λ e. omega arith) h.marked
held_right t (date_and_time p d h) = timed_right t (λ e. omega arith) h.marked

-- no proper table has such a row
pub no_proper_table : {given : List ℕ} {rows : List Row} → Proper given rows → (before behind : List Row) (t : Moment) → rows ≡ before ++ (a_moment t ∷ behind) → Amiss t → ⊥
no_proper_table p before behind t e = held_right t (head (each_right before (a_moment t ∷ behind) (subst (Each Valued) e (proper.0 p).values)))
  where
    head : {r : Row} {rs : List Row} → Each Valued (r ∷ rs) → Valued r
    head (one h hs) = h

-- 12 for such a row, if year, nanoseconds and offset have room in their bytes: its own place, behind rows that begin a proper table
pub mark_refused : (given : List ℕ) → length given < 65536 → (rows : List Row) → Begins given rows → (t : Moment) (rest : List ℕ) → Amiss t → Codes (a_moment t) →
    Improper given (table rows ++ (encode (a_moment t) ++ rest)) (length (table rows))
mark_refused given l rows b t rest a k =
    let g = begins→going rows b in
    let bytes = encode (a_moment t) ++ rest in
    stop_at given l (table rows ++ bytes) rows bytes refl g.2
    (λ r s d t' o' f. held_right t (subst Valued (got_same (sym d ∙ decode_encode (a_moment t) rest k)).0 f.value) a)
    (λ e. absurd (encode_some (a_moment t) rest k (sym e)))
