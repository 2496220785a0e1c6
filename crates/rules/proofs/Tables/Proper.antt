-- Proper tables are what the row machine accepts, with values and spans in order; what begins one is what it has not refused.
use Prim.Native.Nat.{ℕ}
use mathlib.Core.Path.{◌≡◌, sym, ◌∙◌}
use mathlib.Core.Logic.{◌↔◌}
use mathlib.Core.List.{List, [], ◌∷◌, ◌++◌, map}
use Rattle.rules.specs.Proper.{Each, the_rules, aside, Holds, Proper, Begins}
use Rattle.rules.specs.Written.{start}
use Rattle.rules.specs.Data.{outside, Row}
use Rattle.rules.proofs.Written.Marks.{wordings}
use Rattle.rules.proofs.Written.Pieces.{written_pieces, given_label}
use Rattle.rules.proofs.Machine.Rows.{Await, t_statement, t_end, Kinds, RowRun, row_here, row_by, RowAccepts}
use Rattle.rules.proofs.Machine.Limits.{Valued}
use Rattle.rules.proofs.Tables.RowOrder.{rows_complete}
use Rattle.rules.proofs.Tables.Tests.{each_left, each_append}
use Rattle.rules.proofs.Tables.RowLimits.{rows_valued}
use Rattle.rules.proofs.Written.Place.{place, skip, laid}
use Rattle.rules.proofs.Written.Aside.{aside_wordings, aside_laid, alike_values, alike_run}
use Rattle.rules.proofs.Written.Clean.{clean_wordings}
use Rattle.rules.proofs.Written.Writing.{written_label}
use Rattle.rules.proofs.Tables.ElementLimits.{cut_possible}
use Rattle.rules.proofs.Written.Spelling.{written_cut}
use Rattle.rules.proofs.Tables.Endings.{ending, okay_run, ending_runs, ending_sits}

-- ---- proper tables

pub record Accepted (given : List ℕ) (rs : List Row) : Type 0 where
  pub run : RowAccepts t_statement [] rs
  pub values : Each Valued rs
  pub spans : Each (Holds given) rs

proper→accepted : {given : List ℕ} {rs : List Row} → Proper given rs → Accepted given rs
proper→accepted {given} {rs} p =
    let t = p.tabled in
    record {
      run = alike_run t.given_rows rs t.alike (rows_complete the_rules t.follows);
      values = alike_values t.given_rows rs t.alike (rows_valued the_rules t.follows (cut_possible the_rules t.cut));
      spans = p.spans;
    }

accepted→proper : {given : List ℕ} {rs : List Row} → Accepted given rs → Proper given rs
accepted→proper {given} {rs} a =
    let m = wordings given rs in
    let e : map aside rs ≡ map aside m = sym (aside_wordings given rs) in
    let v : Each Valued m = alike_values rs m e a.values in
    let run : RowAccepts t_statement [] m = alike_run rs m e a.run in
    record {
      tabled = record {
        label = given_label m;
        elements = place 0 (written_pieces m);
        past = skip 0 (written_pieces m);
        rest = 13 ∷ 10 ∷ [];
        given_rows = laid 0 start outside m;
        cut = written_cut m (clean_wordings given rs a.spans) v run;
        follows = written_label m run v;
        alike = aside_laid 0 start outside m ∙ aside_wordings given rs;
      };
      spans = a.spans;
    }

pub proper : {given : List ℕ} {rs : List Row} → Proper given rs ↔ Accepted given rs
proper = (proper→accepted, accepted→proper)

-- ---- what begins a proper table: the machine has not refused these rows, and their values and spans are in order

pub record Going (given : List ℕ) (rs : List Row) (t : Await) (o : Kinds) : Type 0 where
  pub run : RowRun t_statement [] rs t o
  pub values : Each Valued rs
  pub spans : Each (Holds given) rs

pub run_append : {t t' t'' : Await} {o o' o'' : Kinds} {rs qs : List Row} → RowRun t o rs t' o' → RowRun t' o' qs t'' o'' → RowRun t o (rs ++ qs) t'' o''
run_append row_here b = b
run_append (row_by e a) b = row_by e (run_append a b)

pub going→begins : {given : List ℕ} {rs : List Row} {t : Await} {o : Kinds} → Going given rs t o → Begins given rs
going→begins {given} {rs} {t} {o} g = (
  ending t o,
  accepted→proper (record {
    run = run_append g.run (ending_runs t o (okay_run g.run tt));
    values = each_append g.values (ending_sits given t o).0;
    spans = each_append g.spans (ending_sits given t o).1;
  }),
)

-- a run over rows in front
front : (rs qs : List Row) {t t'' : Await} {o o'' : Kinds} → RowRun t o (rs ++ qs) t'' o'' → (t' : Await) × (o' : Kinds) × RowRun t o rs t' o'
front [] qs {t} {t''} {o} a = (t, o, row_here)
front (r ∷ rs) qs (row_by e a) = let f = front rs qs a in (f.0, f.1, row_by e f.2)

pub begins→going : {given : List ℕ} (rs : List Row) → Begins given rs → (t : Await) × (o : Kinds) × Going given rs t o
begins→going rs b =
    let a = proper→accepted b.1 in
    let f = front rs b.0 a.run in
    (f.0, f.1, record { run = f.2; values = each_left rs b.0 a.values; spans = each_left rs b.0 a.spans })

-- at the end no block is open
pub going_end : {given : List ℕ} {rs : List Row} {o : Kinds} → Going given rs t_end o → o ≡ []
going_end g = okay_run g.run tt
