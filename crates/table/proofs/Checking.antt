-- The walk over a table's rows: one row on, and the two ends.
use Prim.Native.Nat.{ℕ, ◌+◌, ◌≤◌, ◌<◌}
use mathlib.Core.Bool.{Bool, true, false, ◌&&◌, ◌||◌, true≢false, false≢true}
use mathlib.Core.Path.{◌≡◌, refl, sym, ap, subst, ◌∙◌}
use mathlib.Core.List.{List, [], ◌∷◌, ◌++◌, append-nil}
use native.Mathlib.Omega.{arith}
use Rattle.std.specs.Prelude.{Option, Some, None, Ok, Err}
use borrow.Author.Tests.{ltb-true}
use lib.Dec.{leb, ltb}
use lib.ListN.{length, drop, length-append, length-drop, drop_of_length-le}
use Rattle.rules.specs.Data as rule
use Rattle.rules.specs.Table.{table}
use Rattle.rules.specs.Reading.{longest}
use Rattle.rules.specs.Proper.{is_proper, is_improper}
use Rattle.rules.proofs.Tables.Tests.{and_true, and_left, and_right, or_case}
use Rattle.rules.proofs.Machine.Rows.{sort, t_end, Kinds, to_none, to, is_at_end}
use Rattle.rules.proofs.Tables.RowRuns.{none_to}
use Rattle.rules.proofs.Machine.Rows as machine
use Rattle.rules.proofs.Tables.Proper.{Going, going_end}
use Rattle.rules.proofs.Machine.Decoding.{got, decode}
use Rattle.rules.proofs.Tables.DecodeComplete.{got_same, nothing_got}
use Rattle.rules.proofs.Tables.Walk.{Fine, going_start, going_on, going_done, step_at, stop_at}
use Rattle.rules.proofs.Machine.Checks.{value_test, span_test}
use Rattle.rules.proofs.Tables.Decided.{value_decides, span_decides}
use Rattle.rows.specs.Rows.{row_of, deepest}
use Rattle.blocks.specs.Stack.{blocks_of, top_of}
use Rattle.blocks.specs.declared.Blocks.{Blocks}
use Rattle.rows.specs.declared.Kind.{Kind}
use Rattle.rows.specs.declared.Kind.TheVariants as kinds
use Rattle.rows.specs.Decoding.{Decodes}
use Rattle.rows.specs.declared.Row.{Row}
use Rattle.rows.specs.declared.Nest.TheVariants as nests
use Rattle.rows.proofs.Decoding.{RowAt, row_there, none_there}
use Rattle.table.specs.Ordering.{sort_code, await_of, kinds_in, kinds_of, Nesting, next_of, to_of}
use Rattle.table.specs.Judging.{Judges, proper, improper}
use Rattle.table.specs.declared.Await.{Await}
use Rattle.table.specs.declared.Await.TheVariants.{After, Number, Units, Value, First, SetFirst, InRow, Rows, End}
use Rattle.table.specs.declared.Improper.{Improper}
use Rattle.table.proofs.Awaited.{opens_none, step_law}

pub both_good : (label : List ℕ) (r : rule.Row) (v s : Bool) → v ≡ value_test r → s ≡ span_test label r → (v && s) ≡ (value_test r && span_test label r)
both_good label r v s e f = rw (e, f)

-- what the walk keeps up: the rows done are the bytes before the place, and the state and the blocks are the machine's after them
pub record Walks (label lent : List ℕ) (t : Await) (b : Blocks) (x : (Option Kind)) (at : ℕ) : Type 0 where
  pub done : List rule.Row
  pub split : lent ≡ table done ++ drop at lent
  pub going : Going label done (await_of t) (kinds_of b)
  pub within : at ≤ length lent
  pub room : b.depth ≤ deepest
  pub seen : x ≡ top_of (blocks_of b)

pub starts : (label lent : List ℕ) (b : Blocks) → blocks_of b ≡ [] → b.depth ≡ 0 → Walks label lent (After nests.Alone) b None 0
starts label lent b e d = record {
  done = [];
  split = refl;
  going = subst (Going label [] machine.t_statement) (ap kinds_in (sym e)) (going_start label);
  within = omega arith;
  room = omega arith;
  seen = rw e;
}

module _ (label lent : List ℕ) (l : length label ≤ longest) where
  short : length label < 65536
  short = omega arith

  place : {t : Await} {b : Blocks} {x : (Option Kind)} {at : ℕ} (w : Walks label lent t b x at) → length (table w.done) ≡ at
  place {at = at} w =
      let e : length lent ≡ length (table w.done) + length (drop at lent) = ap length w.split ∙ length-append (table w.done) (drop at lent) in
      omega (arith, length-drop at lent, w.within)

  -- the walk stops: no row that is read there is fine, or the rows end early
  stops : (t : Await) (b : Blocks) (x : (Option Kind)) (at : ℕ) → Walks label lent t b x at →
      ((r : rule.Row) (s : List ℕ) → decode (drop at lent) ≡ got r s → (t' : machine.Await) (o' : Kinds) → Fine label (await_of t) (kinds_of b) r t' o' → ⊥) →
      (drop at lent ≡ [] → await_of t ≡ t_end → ⊥) → Judges label lent (Err (record { 0 = at }))
  stops t b x at w n u =
      improper (is_improper (subst (λ (i : ℕ). Rattle.rules.specs.Proper.Improper label lent i) (place w) (stop_at label short lent w.done (drop at lent) w.split w.going n u)))

  some_left : (at : ℕ) → at < length lent → drop at lent ≡ [] → ⊥
  some_left at h e = let q : length (drop at lent) ≡ 0 = ap length e in omega (arith, length-drop at lent)

  pub stops_none : (t : Await) (b : Blocks) (x : (Option Kind)) (at : ℕ) (g : Option (Row × ℕ)) → Walks label lent t b x at → at < length lent → Decodes lent at g → g ≡ None → Judges label lent (Err (record { 0 = at }))
  stops_none t b x at g w h d e = stops t b x at w (λ r s q t' o' f. nothing_got (sym (none_there d e) ∙ q)) (λ q _. some_left at h q)

  -- a row that is read is the one that the code found
  the_row : {at next : ℕ} {row : Row} {r : rule.Row} {s : List ℕ} → RowAt lent at row next → decode (drop at lent) ≡ got r s → row_of row ≡ r
  the_row d q = (got_same (sym d.is ∙ q)).0

  module _ (at : ℕ) (g : Option (Row × ℕ)) (row : Row) (next : ℕ) (d : Decodes lent at g) (e : g ≡ Some (row, next)) where
    pub stops_bad : (t : Await) (b : Blocks) (x : (Option Kind)) (v : Bool) → Walks label lent t b x at → at < length lent →
        v ≡ (value_test (row_of row) && span_test label (row_of row)) → v ≡ false → Judges label lent (Err (record { 0 = at }))
    stops_bad t b x v w h i n =
        stops t b x at w (λ r s q t' o' f.
        let z : (value_test r && span_test label r) ≡ false = ap (λ (y : rule.Row). value_test y && span_test label y) (sym (the_row (row_there d e) q)) ∙ sym i ∙ n in
        false≢true (sym z ∙ and_true ((value_decides r).0 f.value) ((span_decides label r).0 f.holds)))
        (λ q _. some_left at h q)

    pub stops_order : (t : Await) (u : Option Await) (b : Blocks) (n : ℕ) (x : (Option Kind)) → Walks label lent t b x at → at < length lent →
        n ≡ sort_code (sort (row_of row)) → u ≡ next_of t n x (leb deepest b.depth) → u ≡ None → Judges label lent (Err (record { 0 = at }))
    stops_order t u b n x w h i k j =
        stops t b x at w (λ r s q t' o' fine.
        let m : n ≡ sort_code (sort r) = i ∙ ap (λ (y : rule.Row). sort_code (sort y)) (the_row (row_there d e) q) in
        none_to (sym (step_law t b (sort r) n x (leb deepest b.depth) m w.seen refl ∙ none) ∙ fine.step))
        (λ q _. some_left at h q)
      where
        none : to_of (kinds_of b) n (next_of t n x (leb deepest b.depth)) ≡ to_none
        none = ap (to_of (kinds_of b) n) (sym k ∙ j)

  -- the end of the bytes
  pub ends : (t : Await) (b : Blocks) (x : (Option Kind)) (at : ℕ) → Walks label lent t b x at → length lent ≤ at → t ≡ End → Judges label lent (Ok tt)
  ends t b x at w h e =
      let a : await_of t ≡ t_end = ap await_of e in
      let g : Going label w.done t_end (kinds_of b) = subst (λ (x : machine.Await). Going label w.done x (kinds_of b)) a w.going in
      proper w.done (is_proper (w.split ∙ ap (λ (s : List ℕ). table w.done ++ s) (drop_of_length-le lent h) ∙ append-nil (table w.done))
      (going_done label (subst (Going label w.done t_end) (going_end g) g)))

  not_end : (t : Await) → (t ≡ End → ⊥) → is_at_end (await_of t) ≡ false
  not_end (After nests.Alone) n = refl
  not_end (After nests.Sequence) n = refl
  not_end (After nests.Row) n = refl
  not_end (After nests.Set) n = refl
  not_end (Number c) n = refl
  not_end (Units c) n = refl
  not_end Value n = refl
  not_end First n = refl
  not_end SetFirst n = refl
  not_end InRow n = refl
  not_end Rows n = refl
  not_end End n = absurd (n refl)

  pub ends_early : (t : Await) (b : Blocks) (x : (Option Kind)) (at : ℕ) → Walks label lent t b x at → length lent ≤ at → (t ≡ End → ⊥) → Judges label lent (Err (record { 0 = at }))
  unfolding decode
  ends_early t b x at w h n =
      stops t b x at w (λ r s q t' o' f. nothing_got (sym (ap decode (drop_of_length-le lent h)) ∙ q))
      (λ _ c. true≢false (sym (ap is_at_end c) ∙ not_end t n))

  -- ---- one row on

  module _ (at : ℕ) (g : Option (Row × ℕ)) (row : Row) (next : ℕ) (d : Decodes lent at g) (e : g ≡ Some (row, next)) where
    pub turn : (t u : Await) (o : Option Await) (b b' : Blocks) (n : ℕ) (x y : (Option Kind)) (v : Bool) → Walks label lent t b x at →
        v ≡ (value_test (row_of row) && span_test label (row_of row)) → v ≡ true → n ≡ sort_code (sort (row_of row)) → o ≡ next_of t n x (leb deepest b.depth) → o ≡ Some u →
        Nesting n b b' → y ≡ top_of (blocks_of b') → Walks label lent u b' y next
    turn t u o b b' n x y v w i j f k h m l =
        let here : RowAt lent at row next = row_there d e in
        let good : (value_test (row_of row) && span_test label (row_of row)) ≡ true = sym i ∙ j in
        let to_u : to_of (kinds_of b) n (next_of t n x (leb deepest b.depth)) ≡ to (await_of u) (kinds_of b') =
        ap (to_of (kinds_of b) n) (sym k ∙ h) ∙ ap (to (await_of u)) (sym m.is) in
        let fine : Fine label (await_of t) (kinds_of b) (row_of row) (await_of u) (kinds_of b') = record {
          value = (value_decides (row_of row)).1 (and_left (value_test (row_of row)) (span_test label (row_of row)) good);
          holds = (span_decides label (row_of row)).1 (and_right (value_test (row_of row)) (span_test label (row_of row)) good);
          step = step_law t b (sort (row_of row)) n x (leb deepest b.depth) f w.seen refl ∙ to_u;
        } in
        record {
          done = w.done ++ (row_of row ∷ []);
          split = step_at label lent w.done (drop at lent) (row_of row) (drop next lent) w.split here.is;
          going = going_on label (row_of row) w.going fine;
          within = here.within;
          room = m.within;
          seen = l;
        }

    -- a row that neither opens nor closes a block
    pub stays : (t u : Await) (o : Option Await) (b : Blocks) (n : ℕ) (x : (Option Kind)) (v : Bool) → Walks label lent t b x at →
        v ≡ (value_test (row_of row) && span_test label (row_of row)) → v ≡ true → n ≡ sort_code (sort (row_of row)) → o ≡ next_of t n x (leb deepest b.depth) → o ≡ Some u →
        (ltb n 3 || ltb 6 n) ≡ true → Walks label lent u b x next
    stays t u o b n x v w i j f k h l =
        turn t u o b b n x x v w i j f k h
        (opens_none n b (other 3 (omega arith) (omega arith)) (other 5 (omega arith) (omega arith)) (other 4 (omega arith) (omega arith)) (other 6 (omega arith) (omega arith)) w.room) w.seen
      where
        other : (j : ℕ) → 3 ≤ j → j ≤ 6 → n ≡ j → ⊥
        other j p q r = or_case (ltb n 3) (ltb 6 n) ⊥ l (λ y. omega (arith, ltb-true n 3 y)) (λ y. omega (arith, ltb-true 6 n y))
