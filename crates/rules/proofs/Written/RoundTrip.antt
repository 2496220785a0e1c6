-- What is written is read back: the canonical label of a proper table follows the rules, and its table has the same meaning, and the marks of
-- what is written.
use Prim.Native.Nat.{ℕ, ◌≤◌}
use mathlib.Core.Path.{◌≡◌, sym, ap, subst, subst₂, ◌∙◌}
use mathlib.Core.List.{List, [], ◌∷◌, ◌++◌, map}
use lib.ListN.{length}
use Rattle.rules.specs.Data.{Moment, outside, Row, a_moment}
use Rattle.rules.specs.Reading.{longest, accepted, Judged, follows, Reads, read}
use Rattle.rules.specs.Proper.{the_rules, Each, aside, Proper}
use Rattle.rules.specs.Modes.{Mode}
use Rattle.rules.specs.Meaning.{Sense, meaning}
use Rattle.rules.specs.Written.{start, written_mark, canonical}
use Rattle.rules.proofs.Written.Marks.{on_moment, unmark, as_written, Wording, wordings, meaning_unmark, marks_mean_nothing}
use Rattle.rules.proofs.Written.MarksWritten.{marks_aside, unmark_written, clean_written, valued_written, sorts_written, written_twice, mark_at}
use Rattle.rules.proofs.Written.Pieces.{written_pieces, given_label, written_bytes}
use Rattle.rules.proofs.Machine.Rows.{t_statement, RowAccepts}
use Rattle.rules.proofs.Machine.Limits.{Valued}
use Rattle.rules.proofs.Tables.Proper.{proper}
use Rattle.rules.proofs.Tables.RowRuns.{sorted_run}
use Rattle.rules.proofs.Written.Place.{skip, laid}
use Rattle.rules.proofs.Written.Clean.{Clean, clean_wordings}
use Rattle.rules.proofs.Written.Aside.{aside_wordings, aside_laid, alike_values, alike_run}
use Rattle.rules.proofs.Written.Writing.{written_label}
use Rattle.rules.proofs.Written.Spans.{written_wordings}
use Rattle.rules.proofs.Written.Spelling.{written_cut}
use Rattle.rules.proofs.Reading.Reader.{judge_complete}
use Rattle.rules.proofs.Reading.Outcomes.{accepted_same}
use Rattle.rules.proofs.Tables.OwnTable.{read_proper}

-- what is wanted of a label that is written: it follows the rules, its table means `m`, and has the marks of what is written
pub record ReadBack (label : List ℕ) (m : List Sense) : Type 0 where
  pub rows : List Row
  pub past : ℕ
  pub judged : Judged the_rules label (accepted rows past)
  pub means : meaning label rows ≡ m
  pub marks : (before behind : List Row) (t : Moment) → rows ≡ before ++ (a_moment t ∷ behind) → t.mark ≡ written_mark t

accepted_back : (m : List Wording) → Each Clean m → Each Valued m → RowAccepts t_statement [] m → map (on_moment as_written) m ≡ m → ReadBack (given_label m) (map unmark m)
accepted_back m c v a k = record {
  rows = laid 0 start outside m;
  past = skip 0 (written_pieces m);
  judged = follows (written_cut m c v a) (written_label m a v);
  means = meaning_unmark (given_label m) (laid 0 start outside m) ∙ ap (map unmark) (written_wordings m c);
  marks = λ before behind t e. mark_at before behind t (marks_aside (before ++ (a_moment t ∷ behind)) m (ap (map aside) (sym e) ∙ aside_laid 0 start outside m) k);
}

-- at any length
pub judged_back : (given : List ℕ) (rows : List Row) → Proper given rows → ReadBack (canonical (meaning given rows)) (meaning given rows)
judged_back given rows p =
    let a = proper.0 p in
    let m = wordings given rows in
    let e = sym (aside_wordings given rows) in
    let w = map (on_moment as_written) m in
    subst₂ ReadBack (written_bytes m ∙ ap canonical (sym (meaning_unmark given rows))) (unmark_written m ∙ sym (meaning_unmark given rows))
    (accepted_back w (clean_written m (clean_wordings given rows a.spans)) (valued_written m (alike_values rows m e a.values)) (sorted_run w (sorts_written m) (alike_run rows m e a.run)) (written_twice m))

module _ (given : List ℕ) (rows : List Row) (p : Proper given rows) where
  -- the reader takes it, and its table has the same meaning
  pub reads_back : length (canonical (meaning given rows)) ≤ longest →
      (rows' : List Row) × (i : ℕ) × Reads the_rules (canonical (meaning given rows)) (accepted rows' i) × (meaning (canonical (meaning given rows)) rows' ≡ meaning given rows)
  reads_back short = let b = judged_back given rows p in (b.rows, b.past, read short b.judged, b.means)

  -- whatever a reading of it gives, it is that
  pub read_means : {rows' : List Row} {i : ℕ} → Reads the_rules (canonical (meaning given rows)) (accepted rows' i) → meaning (canonical (meaning given rows)) rows' ≡ meaning given rows
  read_means {rows'} (read short j) =
      let b = judged_back given rows p in
      let e : b.rows ≡ rows' = accepted_same (sym (judge_complete the_rules b.judged) ∙ judge_complete the_rules j) in
      subst (λ (rs : List Row). meaning (canonical (meaning given rows)) rs ≡ meaning given rows) e b.means

  -- and every date or time has the mark of what is written
  pub read_marks : {rows' : List Row} {i : ℕ} → Reads the_rules (canonical (meaning given rows)) (accepted rows' i) →
      (before behind : List Row) (t : Moment) → rows' ≡ before ++ (a_moment t ∷ behind) → t.mark ≡ written_mark t
  read_marks {rows'} (read short j) before behind t f =
      let b = judged_back given rows p in
      let e : b.rows ≡ rows' = accepted_same (sym (judge_complete the_rules b.judged) ∙ judge_complete the_rules j) in
      b.marks before behind t (e ∙ f)

  -- the written label of a written label's table is itself
  pub written_again : {rows' : List Row} {i : ℕ} → Reads the_rules (canonical (meaning given rows)) (accepted rows' i) →
      canonical (meaning (canonical (meaning given rows)) rows') ≡ canonical (meaning given rows)
  written_again r = ap canonical (read_means r)

-- tables of equal meaning give equal bytes
pub equal_bytes : (given given' : List ℕ) (rows rows' : List Row) → meaning given rows ≡ meaning given' rows' → canonical (meaning given rows) ≡ canonical (meaning given' rows')
equal_bytes given given' rows rows' e = ap canonical e

-- and so do tables that differ in marks alone
pub marks_alone : (given : List ℕ) (rows rows' : List Row) → map unmark rows ≡ map unmark rows' → canonical (meaning given rows) ≡ canonical (meaning given rows')
marks_alone given rows rows' e = equal_bytes given given rows rows' (marks_mean_nothing given rows rows' e)

-- a label that is read in any mode, written, and read again
pub relabelled : (m : Mode) (label : List ℕ) {rows : List Row} {i : ℕ} → Reads m label (accepted rows i) → length (canonical (meaning label rows)) ≤ longest →
    (rows' : List Row) × (j : ℕ) × Reads the_rules (canonical (meaning label rows)) (accepted rows' j) × (meaning (canonical (meaning label rows)) rows' ≡ meaning label rows)
relabelled m label {rows} r short = reads_back label rows (read_proper m label r) short
