-- The rows from an offset on and the lookup over them are as the rules say; and the rows of a proper table have an answer to every lookup.
use Prim.Native.Nat.{ℕ, suc, ◌+◌, ◌-◌, ◌<◌}
use native.Mathlib.Decide.{dec_lt}
use mathlib.Core.Path.{◌≡◌, refl, sym, ap, subst, ◌∙◌}
use mathlib.Core.Bool.{Bool, true, false, cond, false≢true, true≢false}
use mathlib.Core.List.{List, [], ◌∷◌, ◌++◌, append_assoc, nil≢cons}
use native.Mathlib.Omega.{arith}
use borrow.Author.Tests.{ne_eqb, le-leb, leb-true, eqb-true}
use lib.Dec.{leb, eqb}
use lib.ListN.{length, drop, length-append}
use lib.Seq.{drop-drop, drop-append_seam}
use Rattle.rules.specs.Data.{Span, Kind, Kind-discrete, object, group, Op, first, times, divided, Row, attribute, pointer, opened, closed, an_integer, a_real, a_moment, a_text, a_symbol, a_unit, sequence, sequence_end, set, set_end, last}
use Rattle.rules.specs.Table.{encode, table}
use Rattle.rules.specs.Proper.{Each, none, one, Proper}
use Rattle.rules.specs.Meaning.{fold_all}
use Rattle.rules.specs.Asked.{From, here, later, Flat, flat_attribute, flat_pointer, flat_integer, flat_real, flat_moment, flat_text, flat_symbol, flat_unit, flat_sequence, flat_sequence_end, flat_set, flat_set_end, Inner, no_row, and_flat, and_block, Called, Finding, stands, absent, Looks, found, passed, passed_whole, block_ends, table_ends}
use Rattle.rules.proofs.Machine.Statements.{Group, in_sequence, in_row, in_set, Place, alone, within, chosen}
use Rattle.rules.proofs.Machine.Rows.{Sort, Sort-discrete, unit_sort, s_attribute, s_pointer, s_number, s_other, s_unit_first, s_unit_more, s_sequence, s_sequence_end, s_set, s_set_end, s_last, s_opened, s_closed, sort, Await, t_statement, t_value, t_first, t_set_first, t_in_row, t_row, t_end, t_number, t_units, t_member, Kinds, To, to_none, to, RowLine, ◌↝◌, look, t_after, lines, opening_lines, statement_lines, end_lines, after_lines, sort_step, RowRun, row_here, row_by, is_at_end}
use Rattle.rules.proofs.Tables.RowRuns.{none_to}
use Rattle.rules.proofs.Tables.Tests.{same_true, true_same}
use Rattle.rules.proofs.Tables.Proper.{proper}
use Rattle.rules.proofs.Tables.Walk.{table_append}
use Rattle.rules.proofs.Tables.Judge.{encode_size}
use Rattle.rules.proofs.Machine.Lookup.{from_of, Way, names, plain, way, for_way, has_name, seeks}

-- ---- the rows from an offset on; none where no row starts there

pub from_later : (n : ℕ) (r : Row) (rs : List Row) → from_of (length (encode r) + n) (r ∷ rs) ≡ from_of n rs
unfolding from_of
from_later n r rs =
    let e : length (encode r) + n - length (encode r) ≡ n = omega arith in
    rw (ne_eqb (length (encode r) + n) 0 (λ q. omega (arith, encode_size r)), le-leb (length (encode r)) (length (encode r) + n) (omega arith), e)

pub from_is : {n : ℕ} {rs qs : List Row} → From n rs qs → from_of n rs ≡ qs
unfolding from_of
from_is {rs = []} here = refl
from_is {rs = r ∷ rs} here = refl
from_is (later {n = n} {r = r} {rs = rs} f) = from_later n r rs ∙ from_is f

pub from_there : (n : ℕ) (rs : List Row) {r : Row} {qs : List Row} → from_of n rs ≡ r ∷ qs → From n rs (r ∷ qs)
unfolding from_of
from_there n [] e = absurd (nil≢cons e)
from_there n (x ∷ rs) {r} {qs} e = go (λ e. from_there (n - length (encode x)) rs e) (eqb n 0) refl e
  where
    deeper : (from_of (n - length (encode x)) rs ≡ r ∷ qs → From (n - length (encode x)) rs (r ∷ qs)) → (c : Bool) → leb (length (encode x)) n ≡ c →
        cond c (from_of (n - length (encode x)) rs) [] ≡ r ∷ qs → From n (x ∷ rs) (r ∷ qs)
    deeper ih true h e =
        let m : length (encode x) + (n - length (encode x)) ≡ n = omega (arith, leb-true (length (encode x)) n h) in
        subst (λ (i : ℕ). From i (x ∷ rs) (r ∷ qs)) m (later (ih e))
    deeper ih false h e = absurd (nil≢cons e)

    go : (from_of (n - length (encode x)) rs ≡ r ∷ qs → From (n - length (encode x)) rs (r ∷ qs)) → (c : Bool) → eqb n 0 ≡ c →
        cond c (x ∷ rs) (cond (leb (length (encode x)) n) (from_of (n - length (encode x)) rs) []) ≡ r ∷ qs → From n (x ∷ rs) (r ∷ qs)
    go ih true h e = rw (eqb-true n 0 h, e) here
    go ih false h e = deeper ih (leb (length (encode x)) n) refl e

-- one row on
pub from_next : {n : ℕ} {rows qs : List Row} {r : Row} → From n rows (r ∷ qs) → From (n + length (encode r)) rows qs
from_next {qs = qs} {r = r} here = let e : length (encode r) + 0 ≡ 0 + length (encode r) = omega arith in subst (λ (i : ℕ). From i (r ∷ qs) qs) e (later here)
from_next {qs = qs} {r = r} (later {n = n} {r = x} {rs = rs} f) =
    let e : length (encode x) + (n + length (encode r)) ≡ length (encode x) + n + length (encode r) = omega arith in
    subst (λ (i : ℕ). From i (x ∷ rs) qs) e (later (from_next f))

-- their bytes are the table's from the offset on
pub from_bytes : {n : ℕ} {rows qs : List Row} → From n rows qs → drop n (table rows) ≡ table qs
from_bytes here = refl
from_bytes (later {n = n} {r = r} {rs = rs} f) =
    sym (drop-drop n (length (encode r)) (encode r ++ table rs)) ∙ ap (drop n) (drop-append_seam (encode r) (table rs)) ∙ from_bytes f

-- what holds of all rows holds of them
pub from_each : {P : Row → Type 0} {n : ℕ} {rows qs : List Row} → From n rows qs → Each P rows → Each P qs
from_each here e = e
from_each (later f) (one p e) = from_each f e

-- ---- the lookup

flat_case : {r : Row} (P : Way → Type 0) → Flat r → ((p : Span) → r ≡ attribute p → P (names p)) → P plain → P (way r)
flat_case P (flat_attribute {p = p}) f g = f p refl
flat_case P flat_pointer f g = g
flat_case P flat_integer f g = g
flat_case P flat_real f g = g
flat_case P flat_moment f g = g
flat_case P flat_text f g = g
flat_case P flat_symbol f g = g
flat_case P flat_unit f g = g
flat_case P flat_sequence f g = g
flat_case P flat_sequence_end f g = g
flat_case P flat_set f g = g
flat_case P flat_set_end f g = g

plain_names : {p : Span} → plain ≡ names p → ⊥
plain_names e = let w : ◌≡◌ {A = ℕ} 0 1 = cc in omega arith

same_span : {p q : Span} → ◌≡◌ {A = Row} (attribute p) (attribute q) → p ≡ q
same_span e = cc

module _ (label name : List ℕ) where
  isnt : {r : Row} {p : Span} → r ≡ attribute p → (Called label name r → ⊥) → has_name label name p ≡ false
  isnt {r} {p} e n = go (has_name label name p) refl
    where
      go : (c : Bool) → has_name label name p ≡ c → c ≡ false
      go true h = absurd (n (p, e, same_true _ _ h))
      go false h = refl

  named_not : (r : Row) (p : Span) → r ≡ attribute p → has_name label name p ≡ false → Called label name r → ⊥
  named_not r p e h (p', e', f) = let q : p ≡ p' = same_span (sym e ∙ e') in true≢false (sym (rw (q, f) (true_same (fold_all name))) ∙ h)

  plain_not : (r : Row) → way r ≡ plain → Called label name r → ⊥
  plain_not r h (p, e, f) = plain_names (sym h ∙ ap way e)

  seeks_found : (at : ℕ) (r : Row) (rs : List Row) → Called label name r → seeks label name 0 at (r ∷ rs) ≡ stands at
  unfolding seeks
  seeks_found at r rs (p, e, f) = rw (e, f, true_same (fold_all name))

  seeks_passed : (at : ℕ) (r : Row) (rs : List Row) → Flat r → (Called label name r → ⊥) → seeks label name 0 at (r ∷ rs) ≡ seeks label name 0 (at + length (encode r)) rs
  unfolding seeks
  seeks_passed at r rs h n =
      let z : Finding = seeks label name 0 (at + length (encode r)) rs in
      flat_case (λ (w : Way). for_way w (λ p. cond (has_name label name p) (stands at) z) z (seeks label name 1 (at + length (encode r)) rs) absent absent ≡ z) h
      (λ p e. rw (isnt e n)) refl

  seeks_flat : (d at : ℕ) (r : Row) (rs : List Row) → Flat r → seeks label name (suc d) at (r ∷ rs) ≡ seeks label name (suc d) (at + length (encode r)) rs
  unfolding seeks
  seeks_flat d at r rs h =
      let z : Finding = seeks label name (suc d) (at + length (encode r)) rs in
      flat_case (λ (w : Way). for_way w (λ p. z) z (seeks label name (suc (suc d)) (at + length (encode r)) rs) (seeks label name d (at + length (encode r)) rs) absent ≡ z) h
      (λ p e. refl) refl

  -- the rows of a block are passed
  seeks_inner : (d at : ℕ) {qs : List Row} (rest : List Row) → Inner qs → seeks label name (suc d) at (qs ++ rest) ≡ seeks label name (suc d) (at + length (table qs)) rest
  unfolding seeks
  seeks_inner d at rest no_row = ap (λ (i : ℕ). seeks label name (suc d) i rest) (omega arith)
  seeks_inner d at rest (and_flat {r = r} {rs = rs} f i) =
      let e : at + length (encode r) + length (table rs) ≡ at + length (encode r ++ table rs) = omega (arith, length-append (encode r) (table rs)) in
      seeks_flat d at r (rs ++ rest) f ∙ seeks_inner d (at + length (encode r)) rest i ∙ ap (λ (i : ℕ). seeks label name (suc d) i rest) e
  seeks_inner d at rest (and_block {k = k} {p = p} qs {rs = rs} i j) =
      let e : at + 5 + length (table qs) + 1 + length (table rs) ≡ at + length (table (opened k p ∷ (qs ++ (closed k ∷ rs)))) =
      omega (arith, ap length (table_append qs (closed k ∷ rs)), length-append (table qs) (table (closed k ∷ rs))) in
      ap (λ (l : List Row). seeks label name (suc (suc d)) (at + 5) l) (append_assoc qs (closed k ∷ rs) rest) ∙ seeks_inner (suc d) (at + 5) (closed k ∷ (rs ++ rest)) i ∙ seeks_inner d (at + 5 + length (table qs) + 1) rest j ∙ ap (λ (i : ℕ). seeks label name (suc d) i rest) e

  pub looks_is : {at : ℕ} {rs : List Row} {z : Finding} → Looks label name at rs z → seeks label name 0 at rs ≡ z
  unfolding seeks
  looks_is (found {at = at} {r = r} {rs = rs} c) = seeks_found at r rs c
  looks_is (passed {at = at} {r = r} {rs = rs} f c l) = seeks_passed at r rs f c ∙ looks_is l
  looks_is (passed_whole {at = at} {k = k} {p = p} qs {rs = rs} i l) =
      let e : at + 5 + length (table qs) + 1 ≡ at + length (table (opened k p ∷ (qs ++ (closed k ∷ [])))) =
      omega (arith, ap length (table_append qs (closed k ∷ [])), length-append (table qs) (table (closed k ∷ []))) in
      seeks_inner 0 (at + 5) (closed k ∷ rs) i ∙ ap (λ (i : ℕ). seeks label name 0 i rs) e ∙ looks_is l
  looks_is block_ends = refl
  looks_is table_ends = refl

-- ---- the blocks of rows, and that each is closed

-- these kinds of blocks are open, the innermost first, and the rows close them all before the last row
pub data ClosesAll : Kinds → List Row → Type 0 where
  the_last : {n : ℕ} {rs : List Row} → ClosesAll [] (last n ∷ rs)
  flat : {o : Kinds} {r : Row} {rs : List Row} → Flat r → ClosesAll o rs → ClosesAll o (r ∷ rs)
  opening : {o : Kinds} {k : Kind} {p : Span} {rs : List Row} → ClosesAll (k ∷ o) rs → ClosesAll o (opened k p ∷ rs)
  closing : {o : Kinds} {k : Kind} {rs : List Row} → ClosesAll o rs → ClosesAll (k ∷ o) (closed k ∷ rs)

-- how a row's sort changes the open blocks; only the last row ends
abbrev is_flat : Sort → Bool
is_flat s_attribute = true
is_flat s_pointer = true
is_flat s_number = true
is_flat s_other = true
is_flat s_unit_first = true
is_flat s_unit_more = true
is_flat s_sequence = true
is_flat s_sequence_end = true
is_flat s_set = true
is_flat s_set_end = true
is_flat s_last = false
is_flat (s_opened k) = false
is_flat (s_closed k) = false

data Fit : Sort → Kinds → To → Type 0 where
  no_fit : {s : Sort} {o : Kinds} → Fit s o to_none
  fit_flat : {s : Sort} {o : Kinds} {t : Await} → is_flat s ≡ true → is_at_end t ≡ false → Fit s o (to t o)
  fit_open : {k : Kind} {o : Kinds} {t : Await} → is_at_end t ≡ false → Fit (s_opened k) o (to t (k ∷ o))
  fit_close : {k : Kind} {o : Kinds} {t : Await} → is_at_end t ≡ false → Fit (s_closed k) (k ∷ o) (to t o)
  fit_last : {o : Kinds} → Fit s_last [] (to t_end o)

abbrev Fits : Kinds → RowLine → Type 0
Fits o (s ↝ n) = Fit s o n

fit_look : (o : Kinds) (ls : List RowLine) (s : Sort) → Each (Fits o) ls → Fit s o (look ls s)
fit_look o [] s none = no_fit
fit_look o (j ↝ n ∷ ls) s (one f fs) = go (Sort-discrete Kind-discrete j s) (fit_look o ls s fs)
  where
    go : (d : Dec (j ≡ s)) → Fit s o (look ls s) → Fit s o (chosen d n (look ls s))
    go (yes h) g = subst (λ (i : Sort). Fit i o n) h f
    go (no h) g = g

after_goes : (c : Place) → is_at_end (t_after c) ≡ false
after_goes alone = refl
after_goes (within g) = refl

fit_opening : (o : Kinds) → Each (Fits o) (opening_lines o)
fit_opening o = one (fit_flat refl refl) (one (fit_flat refl refl) (one (go object (dec_lt (length o) 80)) (one (go group (dec_lt (length o) 80)) none)))
  where
    go : (k : Kind) (d : Dec (length o < 80)) → Fit (s_opened k) o (chosen d (to t_statement (k ∷ o)) to_none)
    go k (yes h) = fit_open refl
    go k (no h) = no_fit

fit_statement : (o : Kinds) → Each (Fits o) (statement_lines o)
fit_statement [] = one fit_last (fit_opening [])
fit_statement (k ∷ o) = one (fit_close refl) (fit_opening (k ∷ o))

fit_scalar : (c : Place) (o : Kinds) {ls : List RowLine} → Each (Fits o) ls → Each (Fits o) (s_number ↝ to (t_number c) o ∷ s_other ↝ to (t_after c) o ∷ ls)
fit_scalar c o f = one (fit_flat refl refl) (one (fit_flat refl (after_goes c)) f)

fit_end : (g : Group) (o : Kinds) → Each (Fits o) (end_lines g o)
fit_end in_sequence o = one (fit_flat refl refl) none
fit_end in_row o = one (fit_flat refl refl) none
fit_end in_set o = one (fit_flat refl refl) none

fit_after : (c : Place) (o : Kinds) → Each (Fits o) (after_lines c o)
fit_after alone o = fit_statement o
fit_after (within g) o = fit_scalar (within g) o (fit_end g o)

fit_lines : (t : Await) (o : Kinds) → Each (Fits o) (lines t o)
fit_lines t_statement o = fit_statement o
fit_lines t_value o = fit_scalar alone o (one (fit_flat refl refl) (one (fit_flat refl refl) none))
fit_lines t_first o = fit_scalar (within in_sequence) o (one (fit_flat refl refl) none)
fit_lines t_set_first o = fit_scalar (within in_set) o (one (fit_flat refl refl) none)
fit_lines t_in_row o = fit_scalar (within in_row) o none
fit_lines t_row o = one (fit_flat refl refl) (one (fit_flat refl refl) none)
fit_lines t_end o = none
fit_lines (t_number c) o = one (fit_flat refl refl) (fit_after c o)
fit_lines (t_units c) o = one (fit_flat refl refl) (fit_after c o)
fit_lines (t_member g) o = fit_after (within g) o

unit_flat : (op : Op) → is_flat (unit_sort op) ≡ true
unit_flat first = refl
unit_flat times = refl
unit_flat divided = refl

fit_same : {s : Sort} {o o' : Kinds} {t : Await} → is_flat s ≡ true → Fit s o (to t o') → (o' ≡ o) × (is_at_end t ≡ false)
fit_same h (fit_flat f e) = (refl, e)
fit_same h (fit_open e) = absurd (false≢true h)
fit_same h (fit_close e) = absurd (false≢true h)
fit_same h fit_last = absurd (false≢true h)

abbrev Rest : Await → Kinds → List Row → Type 0
Rest t o rs = is_at_end t ≡ false → ClosesAll o rs

flat_step : {t : Await} {o o' : Kinds} {r : Row} {rs : List Row} → Flat r → is_flat (sort r) ≡ true → Fit (sort r) o (to t o') → Rest t o' rs → ClosesAll o (r ∷ rs)
flat_step {rs = rs} h e f rest = let g = fit_same e f in flat h (subst (λ (i : Kinds). ClosesAll i rs) g.0 (rest g.1))

open_step : {t : Await} {o o' : Kinds} {k : Kind} {p : Span} {rs : List Row} → Fit (s_opened k) o (to t o') → Rest t o' rs → ClosesAll o (opened k p ∷ rs)
open_step (fit_flat f e) rest = absurd (false≢true f)
open_step (fit_open e) rest = opening (rest e)

close_step : {t : Await} {o o' : Kinds} {k : Kind} {rs : List Row} → Fit (s_closed k) o (to t o') → Rest t o' rs → ClosesAll o (closed k ∷ rs)
close_step (fit_flat f e) rest = absurd (false≢true f)
close_step (fit_close e) rest = closing (rest e)

last_step : {t : Await} {o o' : Kinds} {n : ℕ} {rs : List Row} → Fit s_last o (to t o') → ClosesAll o (last n ∷ rs)
last_step (fit_flat f e) = absurd (false≢true f)
last_step fit_last = the_last

closing_step : (r : Row) {t : Await} {o o' : Kinds} {rs : List Row} → Fit (sort r) o (to t o') → Rest t o' rs → ClosesAll o (r ∷ rs)
closing_step (attribute p) f g = flat_step flat_attribute refl f g
closing_step (pointer p) f g = flat_step flat_pointer refl f g
closing_step (opened k p) f g = open_step f g
closing_step (closed k) f g = close_step f g
closing_step (an_integer w) f g = flat_step flat_integer refl f g
closing_step (a_real x) f g = flat_step flat_real refl f g
closing_step (a_moment x) f g = flat_step flat_moment refl f g
closing_step (a_text p) f g = flat_step flat_text refl f g
closing_step (a_symbol p) f g = flat_step flat_symbol refl f g
closing_step (a_unit op p w) f g = flat_step flat_unit (unit_flat op) f g
closing_step sequence f g = flat_step flat_sequence refl f g
closing_step sequence_end f g = flat_step flat_sequence_end refl f g
closing_step set f g = flat_step flat_set refl f g
closing_step set_end f g = flat_step flat_set_end refl f g
closing_step (last n) f g = last_step f

run_closing : (rs : List Row) {t : Await} {o : Kinds} → RowRun t o rs t_end [] → is_at_end t ≡ false → ClosesAll o rs
run_closing [] row_here h = absurd (true≢false h)
run_closing (r ∷ rs) {t} {o} (row_by e a) h =
    closing_step r (subst (Fit (sort r) o) e (fit_look o (lines t o) (sort r) (fit_lines t o))) (run_closing rs a)

-- where a row may come, the table has not ended
goes_on : (t : Await) (o : Kinds) (s : Sort) {o' : Kinds} {t' : Await} → sort_step t o s ≡ to t' o' → is_at_end t ≡ false
goes_on t_statement o s e = refl
goes_on t_value o s e = refl
goes_on t_first o s e = refl
goes_on t_set_first o s e = refl
goes_on t_in_row o s e = refl
goes_on t_row o s e = refl
goes_on t_end o s e = absurd (none_to e)
goes_on (t_number c) o s e = refl
goes_on (t_units c) o s e = refl
goes_on (t_member g) o s e = refl

from_closing : {n : ℕ} {rows : List Row} {r : Row} {qs : List Row} {t : Await} {o : Kinds} → From n rows (r ∷ qs) → RowRun t o rows t_end [] → (o' : Kinds) × ClosesAll o' (r ∷ qs)
from_closing {rows = r ∷ qs} {t = t} {o = o} here (row_by e a) = (o, run_closing (r ∷ qs) {t = t} (row_by e a) (goes_on t o (sort r) e))
from_closing (later f) (row_by e a) = from_closing f a

-- ---- an answer to every lookup

module _ (label name : List ℕ) where
  abbrev Answer : List Row → Type 0
  Answer rs = (at : ℕ) → (z : Finding) × Looks label name at rs z

  -- from these rows on, and from where each open block is closed
  abbrev Answers : Kinds → List Row → Type 0
  Answers [] rs = Answer rs
  Answers (k ∷ o) rs = Answer rs × (qs : List Row) × (rs' : List Row) × (rs ≡ qs ++ (closed k ∷ rs')) × Inner qs × Answers o rs'

  answer : (o : Kinds) (rs : List Row) → Answers o rs → Answer rs
  answer [] rs a = a
  answer (k ∷ o) rs a = a.0

  flat_answer : {r : Row} {rs : List Row} → Flat r → Answer rs → Answer (r ∷ rs)
  flat_answer {r} {rs} h a at = flat_case (λ (w : Way). way r ≡ w → (z : Finding) × Looks label name at (r ∷ rs) z) h (λ p e q. named p e (has_name label name p) refl) (λ q. on (plain_not label name r q)) refl
    where
      on : (Called label name r → ⊥) → (z : Finding) × Looks label name at (r ∷ rs) z
      on n = let b = a (at + length (encode r)) in (b.0, passed h n b.1)

      named : (p : Span) → r ≡ attribute p → (c : Bool) → has_name label name p ≡ c → (z : Finding) × Looks label name at (r ∷ rs) z
      named p e true q = (stands at, found (p, e, same_true _ _ q))
      named p e false q = on (named_not label name r p e q)

  flat_answers : (o : Kinds) (r : Row) (rs : List Row) → Flat r → Answers o rs → Answers o (r ∷ rs)
  flat_answers [] r rs h a = flat_answer h a
  flat_answers (k ∷ o) r rs h a = (flat_answer h a.0, r ∷ a.1, a.2, ap (λ (l : List Row). r ∷ l) a.3, and_flat h a.4, a.5)

  block_answer : {k : Kind} {p : Span} {rs : List Row} (qs rs' : List Row) → rs ≡ qs ++ (closed k ∷ rs') → Inner qs → Answer rs' → Answer (opened k p ∷ rs)
  block_answer {k} {p} {rs} qs rs' e i a at =
      let b = a (at + length (table (opened k p ∷ (qs ++ (closed k ∷ []))))) in
      (b.0, subst (λ (l : List Row). Looks label name at (opened k p ∷ l) b.0) (sym e) (passed_whole qs i b.1))

  open_answers : (o : Kinds) (k : Kind) (p : Span) (rs : List Row) → Answers (k ∷ o) rs → Answers o (opened k p ∷ rs)
  open_answers [] k p rs a = block_answer a.1 a.2 a.3 a.4 a.5
  open_answers (j ∷ o) k p rs a =
      let b = a.5 in (
        block_answer a.1 a.2 a.3 a.4 b.0,
        opened k p ∷ (a.1 ++ (closed k ∷ b.1)),
        b.2,
        ap (λ (l : List Row). opened k p ∷ l) (a.3 ∙ ap (λ (l : List Row). a.1 ++ (closed k ∷ l)) b.3 ∙ sym (append_assoc a.1 (closed k ∷ b.1) (closed j ∷ b.2))),
        and_block a.1 a.4 b.4,
        b.5,
      )

  answers : {o : Kinds} {rs : List Row} → ClosesAll o rs → Answers o rs
  answers the_last = λ at. (absent, table_ends)
  answers {o = o} (flat {r = r} {rs = rs} h c) = flat_answers o r rs h (answers c)
  answers {o = o} (opening {k = k} {p = p} {rs = rs} c) = open_answers o k p rs (answers c)
  answers (closing {rs = rs} c) = (λ at. (absent, block_ends), [], rs, refl, no_row, answers c)

  -- from every row of a proper table on there is an answer
  pub looks_there : {given : List ℕ} {rows qs : List Row} {n : ℕ} {r : Row} → Proper given rows → From n rows (r ∷ qs) → Looks label name n (r ∷ qs) (seeks label name 0 n (r ∷ qs))
  looks_there {qs = qs} {n = n} {r = r} p f =
      let c = from_closing f (proper.0 p).run in
      let l = answer c.0 (r ∷ qs) (answers c.1) n in
      subst (Looks label name n (r ∷ qs)) (sym (looks_is label name l.1)) l.1
