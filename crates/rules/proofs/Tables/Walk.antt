-- A walk over a table's rows: one row more, the table done, and the place of code 12.
use Prim.Native.Nat.{ℕ, ◌<◌}
use mathlib.Core.Path.{◌≡◌, refl, sym, ap, ◌∙◌, subst₂}
use mathlib.Core.List.{List, [], ◌∷◌, ◌++◌, append_assoc, append-nil}
use lib.ListN.{length}
use Rattle.rules.specs.Proper.{Each, none, one, Holds, Proper, Begins, Improper}
use Rattle.rules.specs.Data.{Row}
use Rattle.rules.specs.Table.{encode, table}
use Rattle.rules.proofs.Machine.Limits.{Valued}
use Rattle.rules.proofs.Machine.Rows.{sort, Await, t_statement, t_end, Kinds, to, sort_step, RowRun, row_here, row_by}
use Rattle.rules.proofs.Tables.RowRuns.{to_same, run→function}
use Rattle.rules.proofs.Tables.Tests.{each_append, each_right}
use Rattle.rules.proofs.Tables.Proper.{proper, Going, run_append, going→begins, begins→going}
use Rattle.rules.proofs.Machine.Decoding.{got, decode}
use Rattle.rules.proofs.Tables.DecodeComplete.{decode_encode}
use Rattle.rules.proofs.Tables.Once.{codes}
use Rattle.rules.proofs.Tables.DecodeSound.{decode_sound}

after_run : {t t' t'' : Await} {o o' o'' : Kinds} {rs qs : List Row} → RowRun t o rs t' o' → RowRun t o (rs ++ qs) t'' o'' → RowRun t' o' qs t'' o''
after_run row_here a = a
after_run {t'' = t''} {o'' = o''} {qs = qs} (row_by {rs = rs} e b) (row_by e' a) =
    let h = to_same (sym e' ∙ e) in
    after_run b (subst₂ (λ (t : Await) (o : Kinds). RowRun t o (rs ++ qs) t'' o'') h.0 h.1 a)

one_row : {t t' : Await} {o o' : Kinds} {r : Row} → RowRun t o (r ∷ []) t' o' → sort_step t o (sort r) ≡ to t' o'
one_row (row_by e row_here) = e

run_end : {t t' t'' : Await} {o o' o'' : Kinds} {rs : List Row} → RowRun t o rs t' o' → RowRun t o rs t'' o'' → t' ≡ t''
run_end a b = (to_same (sym (run→function a) ∙ run→function b)).0

-- a row in its place: its value, its span, its order
pub record Fine (given : List ℕ) (t : Await) (o : Kinds) (r : Row) (t' : Await) (o' : Kinds) : Type 0 where
  pub value : Valued r
  pub holds : Holds given r
  pub step : sort_step t o (sort r) ≡ to t' o'

last_each : {P : Row → Type 0} (rs : List Row) (r : Row) → Each P (rs ++ (r ∷ [])) → P r
last_each rs r h = head (each_right rs (r ∷ []) h)
  where
    head : {P : Row → Type 0} {x : Row} {xs : List Row} → Each P (x ∷ xs) → P x
    head (one p ps) = p

pub table_append : (rs qs : List Row) → table (rs ++ qs) ≡ table rs ++ table qs
table_append [] qs = refl
table_append (r ∷ rs) qs = ap (λ (l : List ℕ). encode r ++ l) (table_append rs qs) ∙ sym (append_assoc (encode r) (table rs) (table qs))

module _ (given : List ℕ) where
  pub going_start : Going given [] t_statement []
  going_start = record { run = row_here; values = none; spans = none }

  pub going_on : {rs : List Row} {t t' : Await} {o o' : Kinds} (r : Row) → Going given rs t o → Fine given t o r t' o' → Going given (rs ++ (r ∷ [])) t' o'
  going_on r g f = record {
    run = run_append g.run (row_by f.step row_here);
    values = each_append g.values (one f.value none);
    spans = each_append g.spans (one f.holds none);
  }

  pub going_done : {rs : List Row} → Going given rs t_end [] → Proper given rs
  going_done g = proper.1 (record { run = g.run; values = g.values; spans = g.spans })

  -- what begins a proper table with one row more has a fine row there
  next_fine : {rs : List Row} {t : Await} {o : Kinds} (r : Row) → Going given rs t o → Begins given (rs ++ (r ∷ [])) → (t' : Await) × (o' : Kinds) × Fine given t o r t' o'
  next_fine {rs} r g b =
      let h = begins→going (rs ++ (r ∷ [])) b in
      (h.0, h.1, record { value = last_each rs r h.2.values; holds = last_each rs r h.2.spans; step = one_row (after_run g.run h.2.run) })

  -- one row on
  pub step_at : (lent : List ℕ) (rs : List Row) (rest : List ℕ) (r : Row) (s : List ℕ) → lent ≡ table rs ++ rest → decode rest ≡ got r s → lent ≡ table (rs ++ (r ∷ [])) ++ s
  step_at lent rs rest r s e d =
      e ∙ ap (λ (l : List ℕ). table rs ++ l) (decode_sound rest r s d)
      ∙ sym (ap (λ (l : List ℕ). l ++ s) (table_append rs (r ∷ [])) ∙ append_assoc (table rs) (encode r ++ []) s ∙ ap (λ (l : List ℕ). table rs ++ (l ++ s)) (append-nil (encode r)))

  -- the place of code 12: no row is read there, or none that is fine; or the small-bytes end before the rows do
  pub stop_at : length given < 65536 → (lent : List ℕ) (rs : List Row) (rest : List ℕ) {t : Await} {o : Kinds} → lent ≡ table rs ++ rest → Going given rs t o →
      ((r : Row) (s : List ℕ) → decode rest ≡ got r s → (t' : Await) (o' : Kinds) → Fine given t o r t' o' → ⊥) → (rest ≡ [] → t ≡ t_end → ⊥) →
      Improper given lent (length (table rs))
  stop_at l lent rs rest e g n u = record {
    rows = rs;
    rest = rest;
    split = e;
    place = refl;
    until = going→begins g;
    none_there = λ r s f b. let h = next_fine r g b in
        n r s (ap decode f ∙ decode_encode r s (codes given l r h.2.value h.2.holds)) h.0 h.1 h.2;
    unfinished = λ f p. u f (run_end g.run (proper.0 p).run);
  }
