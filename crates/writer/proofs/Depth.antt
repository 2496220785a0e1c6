-- In a proper table there is room for every block that opens: fewer than the most are open before it.
use Prim.Native.Nat.{ℕ, suc, ◌<◌}
use native.Mathlib.Decide.{dec_lt}
use native.Mathlib.Omega.{arith}
use mathlib.Core.Path.{◌≡◌, refl, sym, ap, subst, ◌∙◌}
use mathlib.Core.List.{List, [], ◌∷◌, ◌++◌}
use lib.ListN.{length}
use Rattle.rules.specs.Data.{Kind, Kind-discrete, object, group, Op, first, times, divided, Opens, outside, inside, depth, Row, attribute, pointer, opened, closed, an_integer, a_real, a_moment, a_text, a_symbol, a_unit, sequence, sequence_end, set, set_end, last, Span}
use Rattle.rules.specs.Meaning.{meaning, sense}
use Rattle.rules.specs.Written.{after}
use Rattle.rules.specs.Proper.{Proper}
use Rattle.rules.proofs.Machine.Statements.{Group, in_sequence, in_row, in_set, alone, within, chosen}
use Rattle.rules.proofs.Machine.Lines.{open_after}
use Rattle.rules.proofs.Tables.Proper.{proper}
use Rattle.rules.proofs.Machine.Rows.{Sort, Sort-discrete, s_attribute, s_pointer, s_number, s_other, s_unit_first, s_unit_more, s_sequence, s_sequence_end, s_set, s_set_end, s_last, s_opened, s_closed, sort, unit_sort, Await, t_statement, t_value, t_first, t_set_first, t_in_row, t_row, t_end, t_number, t_units, t_member, Kinds, To, to_none, to, RowLine, ◌↝◌, look, lines, sort_step, RowRun, row_by}
use Rattle.rules.proofs.Tables.RowRuns.{none_to, to_same}
use Rattle.rows.specs.Rows.{deepest}
use Rattle.table.specs.Ordering.{less}

-- the kinds of the open blocks after a row of this sort
abbrev kinds_after : Kinds → Sort → Kinds
kinds_after o s_attribute = o
kinds_after o s_pointer = o
kinds_after o s_number = o
kinds_after o s_other = o
kinds_after o s_unit_first = o
kinds_after o s_unit_more = o
kinds_after o s_sequence = o
kinds_after o s_sequence_end = o
kinds_after o s_set = o
kinds_after o s_set_end = o
kinds_after o s_last = o
kinds_after o (s_opened k) = k ∷ o
kinds_after o (s_closed k) = less o

-- room for it, where it opens a block
abbrev Fits : Kinds → Sort → Type 0
Fits o s_attribute = Unit {0}
Fits o s_pointer = Unit {0}
Fits o s_number = Unit {0}
Fits o s_other = Unit {0}
Fits o s_unit_first = Unit {0}
Fits o s_unit_more = Unit {0}
Fits o s_sequence = Unit {0}
Fits o s_sequence_end = Unit {0}
Fits o s_set = Unit {0}
Fits o s_set_end = Unit {0}
Fits o s_last = Unit {0}
Fits o (s_opened k) = length o < deepest
Fits o (s_closed k) = Unit {0}

-- a line of the row machine does what its sort says
record Right (o : Kinds) (j : Sort) (n : To) : Type 0 where
  right : (t : Await) (o' : Kinds) → n ≡ to t o' → (o' ≡ kinds_after o j) × Fits o j

data Good (o : Kinds) : List RowLine → Type 0 where
  none : Good o []
  more : {j : Sort} {n : To} {l : List RowLine} → Right o j n → Good o l → Good o (j ↝ n ∷ l)

plain : {t : Await} {o : Kinds} {j : Sort} → o ≡ kinds_after o j → Fits o j → Right o j (to t o)
plain e f = record { right = λ t o' h. (sym (to_same h).1 ∙ e, f) }

opens : (k : Kind) (o : Kinds) (d : Dec (length o < deepest)) → Right o (s_opened k) (chosen d (to t_statement (k ∷ o)) to_none)
opens k o (yes h) = record { right = λ t o' e. (sym (to_same e).1, h) }
opens k o (no h) = record { right = λ t o' e. absurd (none_to e) }

closes : (k : Kind) (o : Kinds) → Right (k ∷ o) (s_closed k) (to t_statement o)
closes k o = record { right = λ t o' e. (sym (to_same e).1, tt) }

opening : (o : Kinds) → Good o (s_opened object ↝ chosen (dec_lt (length o) deepest) (to t_statement (object ∷ o)) to_none ∷ s_opened group ↝ chosen (dec_lt (length o) deepest) (to t_statement (group ∷ o)) to_none ∷ [])
opening o = more (opens object o (dec_lt (length o) deepest)) (more (opens group o (dec_lt (length o) deepest)) none)

statement : (o : Kinds) → Good o (lines t_statement o)
statement [] = more (plain refl tt) (more (plain refl tt) (more (plain refl tt) (opening [])))
statement (k ∷ o) = more (closes k o) (more (plain refl tt) (more (plain refl tt) (opening (k ∷ o))))

member : (g : Group) (o : Kinds) → Good o (lines (t_member g) o)
member in_sequence o = more (plain refl tt) (more (plain refl tt) (more (plain refl tt) none))
member in_row o = more (plain refl tt) (more (plain refl tt) (more (plain refl tt) none))
member in_set o = more (plain refl tt) (more (plain refl tt) (more (plain refl tt) none))

all_good : (t : Await) (o : Kinds) → Good o (lines t o)
all_good t_statement o = statement o
all_good t_value o = more (plain refl tt) (more (plain refl tt) (more (plain refl tt) (more (plain refl tt) none)))
all_good t_first o = more (plain refl tt) (more (plain refl tt) (more (plain refl tt) none))
all_good t_set_first o = more (plain refl tt) (more (plain refl tt) (more (plain refl tt) none))
all_good t_in_row o = more (plain refl tt) (more (plain refl tt) none)
all_good t_row o = more (plain refl tt) (more (plain refl tt) none)
all_good t_end o = none
all_good (t_number alone) o = more (plain refl tt) (statement o)
all_good (t_number (within g)) o = more (plain refl tt) (member g o)
all_good (t_units alone) o = more (plain refl tt) (statement o)
all_good (t_units (within g)) o = more (plain refl tt) (member g o)
all_good (t_member g) o = member g o

looked : {o : Kinds} {l : List RowLine} → Good o l → (s : Sort) (t : Await) (o' : Kinds) → look l s ≡ to t o' → (o' ≡ kinds_after o s) × Fits o s
looked none s t o' e = absurd (none_to e)
looked {o} (more {j} {n} {l} r g) s t o' e = go (λ f. looked g s t o' f) (Sort-discrete Kind-discrete j s) e
  where
    go : (look l s ≡ to t o' → (o' ≡ kinds_after o s) × Fits o s) → (d : Dec (j ≡ s)) → chosen d n (look l s) ≡ to t o' → (o' ≡ kinds_after o s) × Fits o s
    go ih (yes q) e = subst (λ (x : Sort). (o' ≡ kinds_after o x) × Fits o x) q (r.right t o' e)
    go ih (no q) e = ih e

stepped : (t : Await) (o : Kinds) (s : Sort) (t' : Await) (o' : Kinds) → sort_step t o s ≡ to t' o' → (o' ≡ kinds_after o s) × Fits o s
stepped t o s t' o' e = looked (all_good t o) s t' o' e

-- ---- as many kinds as blocks, row by row

closer : (o : Kinds) (w : Opens) → length o ≡ depth w → length (less o) ≡ depth (after w (sense [] (closed object)))
closer [] outside h = refl
closer [] (inside k n w) h = absurd (omega arith)
closer (k ∷ o) outside h = absurd (omega arith)
closer (k ∷ o) (inside j n w) h = omega arith

units : (o : Kinds) (w : Opens) (op : Op) → length o ≡ depth w → length (kinds_after o (unit_sort op)) ≡ depth w
units o w first h = h
units o w times h = h
units o w divided h = h

row_depth : (given : List ℕ) (o : Kinds) (w : Opens) (r : Row) → length o ≡ depth w → length (kinds_after o (sort r)) ≡ depth (after w (sense given r))
row_depth given o w (attribute p) h = h
row_depth given o w (pointer p) h = h
row_depth given o w (opened k p) h = ap suc h
row_depth given o w (closed k) h = closer o w h
row_depth given o w (an_integer v) h = h
row_depth given o w (a_real x) h = h
row_depth given o w (a_moment t) h = h
row_depth given o w (a_text p) h = h
row_depth given o w (a_symbol p) h = h
row_depth given o w (a_unit op p v) h = units o w op h
row_depth given o w sequence h = h
row_depth given o w sequence_end h = h
row_depth given o w set h = h
row_depth given o w set_end h = h
row_depth given o w (last n) h = h

-- a run over rows, up to a row that opens a block
open_room : {t t' : Await} {o o' : Kinds} (rs qs : List Row) (k : Kind) (p : Span) → RowRun t o (rs ++ (opened k p ∷ qs)) t' o' → (given : List ℕ) (w : Opens) → length o ≡ depth w →
    depth (open_after w (meaning given rs)) < deepest
open_room {t} {o = o} [] qs k p (row_by {t' = t₁} {o' = o₁} e a) given w h = let f : length o < deepest = (stepped t o (s_opened k) t₁ o₁ e).1 in omega arith
open_room {t} {o = o} (r ∷ rs) qs k p (row_by {t' = t₁} {o' = o₁} e a) given w h =
    let q = stepped t o (sort r) t₁ o₁ e in
    open_room rs qs k p a given (after w (sense given r)) (ap length q.0 ∙ row_depth given o w r h)

pub room_to_open : {given : List ℕ} (rs qs : List Row) (k : Kind) (p : Span) → Proper given (rs ++ (opened k p ∷ qs)) → depth (open_after outside (meaning given rs)) < deepest
room_to_open {given} rs qs k p h = open_room rs qs k p (proper.0 h).run given outside refl
