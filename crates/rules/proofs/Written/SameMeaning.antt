-- Whether two labels mean the same is told by writing both: the bytes are equal exactly when the meanings are.
use Prim.Native.Nat.{ℕ, ◌≤◌}
use native.Mathlib.Omega.{arith}
use mathlib.Core.Logic.{◌↔◌}
use mathlib.Core.Path.{◌≡◌, refl, sym, ap, ap₂, subst, ◌∙◌}
use mathlib.Core.List.{List}
use lib.ListN.{length, take, drop}
use lib.Seq.{take-append_seam}
use Rattle.rules.specs.Data.{Row}
use Rattle.rules.specs.Modes.{Mode}
use Rattle.rules.specs.Table.{table}
use Rattle.rules.specs.Reading.{longest, Outcome, accepted, Judged, Reads, read, Said, says, filled, Answered}
use Rattle.rules.specs.Reading as Reading
use Rattle.rules.specs.Proper.{the_rules, Proper, proper_rows, Ruled, is_proper}
use Rattle.rules.specs.Meaning.{meaning}
use Rattle.rules.specs.Writing.{label_of, Writes, long_label, no_table, long_written, short_room, stored}
use Rattle.rules.specs.SameElements.{SameElements, AlikeRead, both_accepted, both_refused, both_at_the_end}
use Rattle.rules.proofs.Reading.Reader.{judge_complete, reading_unique}
use Rattle.rules.proofs.Reading.Outcomes.{accepted_same, accepted_refused}
use Rattle.rules.proofs.Reading.SameElements.{alike_read}
use Rattle.rules.proofs.Rooms.{table_made}
use Rattle.rules.proofs.Tables.Judge.{same_rows, verdict_once}
use Rattle.rules.proofs.Tables.OwnTable.{read_proper, read_ruled}
use Rattle.rules.proofs.Written.Calls.{equal_writings}
use Rattle.rules.proofs.Written.RoundTrip.{judged_back, equal_bytes}

-- ---- of tables

-- tables whose written labels are equal have equal meaning
pub equal_meaning : (given given' : List ℕ) (rows rows' : List Row) → Proper given rows → Proper given' rows' → label_of given rows ≡ label_of given' rows' → meaning given rows ≡ meaning given' rows'
equal_meaning given given' rows rows' p p' e =
    let b = judged_back given rows p in
    let b' = judged_back given' rows' p' in
    let j : Judged the_rules (label_of given' rows') (accepted b.rows b.past) = subst (λ (l : List ℕ). Judged the_rules l (accepted b.rows b.past)) e b.judged in
    let r : b.rows ≡ b'.rows = accepted_same (sym (judge_complete the_rules j) ∙ judge_complete the_rules b'.judged) in
    sym b.means ∙ ap₂ meaning e r ∙ b'.means

-- ---- of calls

-- The bytes that came of a label which was read, and whose table was written, with code 0 both times, into rooms of any length.
pub record Rewritten (m : Mode) (l bytes : List ℕ) : Type 0 where
  pub room : List ℕ
  pub after : List ℕ
  pub said : Said
  pub reads : Answered m l room said after
  pub was_read : said.code ≡ 0
  pub out : List ℕ
  pub done : List ℕ
  pub wrote : Said
  pub writes : Writes l (take said.size after) out wrote done
  pub was_written : wrote.code ≡ 0
  pub are : bytes ≡ take wrote.size done

-- what a writing with code 0 leaves, of the table that has these rows
record Left (l bytes : List ℕ) (rows : List Row) : Type 0 where
  short : length (label_of l rows) ≤ longest
  is : bytes ≡ label_of l rows

left : {l lent out done : List ℕ} {s : Said} {rows : List Row} → length l ≤ longest → Ruled l lent (proper_rows rows) → Writes l lent out s done → s.code ≡ 0 → Left l (take s.size done) rows
left short p (long_label h) z = absurd (omega arith)
left short p (no_table h v) z = absurd (omega arith)
left short p (long_written h v a) z = absurd (omega arith)
left short p (short_room h v a b) z = absurd (omega arith)
left {l} {lent} {out} short p (stored {rows = qs} h v a b) z =
    let e = same_rows (verdict_once l short lent v p) in
    record {
      short = subst (λ (rs : List Row). length (label_of l rs) ≤ longest) e a;
      is = take-append_seam (label_of l qs) (drop (length (label_of l qs)) out) ∙ ap (label_of l) e;
    }

accepted_short : {m : Mode} {l : List ℕ} {rows : List Row} {i : ℕ} → Reads m l (accepted rows i) → length l ≤ longest
accepted_short (read h j) = h

-- Such a label is accepted, its written label is no longer than any may be, and the bytes are that label.
pub record Canonical (m : Mode) (l bytes : List ℕ) : Type 0 where
  pub rows : List Row
  pub past : ℕ
  pub reads : Reads m l (accepted rows past)
  pub short : length (label_of l rows) ≤ longest
  pub are : bytes ≡ label_of l rows

pub rewritten_canonical : {m : Mode} {l bytes : List ℕ} → Rewritten m l bytes → Canonical m l bytes
rewritten_canonical {m} {l} w =
    let t = table_made w.reads w.was_read in
    let k = left (accepted_short t.1) (is_proper t.2 (read_proper m l t.1)) w.writes w.was_written in
    record { rows = t.0; past = w.said.place; reads = t.1; short = k.short; are = w.are ∙ k.is }

-- and every such label is one, whatever the rooms are, if they are long enough
pub rewritten : {m : Mode} {l bytes : List ℕ} (c : Canonical m l bytes) (room out : List ℕ) → length (table c.rows) ≤ length room → length (label_of l c.rows) ≤ length out → Rewritten m l bytes
rewritten {m} {l} c room out h k =
    let t = table c.rows in
    let w = label_of l c.rows in
    record {
      room = room;
      after = filled t room;
      said = says 0 c.past (length t);
      reads = Reading.stored c.reads h;
      was_read = refl;
      out = out;
      done = filled w out;
      wrote = says 0 (length w) (length w);
      writes = stored (accepted_short c.reads) (is_proper (take-append_seam t (drop (length t) room)) (read_proper m l c.reads)) c.short k;
      was_written = refl;
      are = c.are ∙ sym (take-append_seam w (drop (length w) out));
    }

-- the bytes are the label of any rows that the reading gives
rewritten_label : {m : Mode} {l bytes : List ℕ} {rows : List Row} {i : ℕ} → Rewritten m l bytes → Reads m l (accepted rows i) → bytes ≡ label_of l rows
rewritten_label {m} {l} w r =
    let c = rewritten_canonical w in
    c.are ∙ ap (label_of l) (accepted_same (reading_unique m c.reads r))

-- Did the data change? The bytes are equal exactly when the meanings are.
pub same_meaning : {m m' : Mode} {l l' bytes bytes' : List ℕ} {rows rows' : List Row} {i i' : ℕ} → Rewritten m l bytes → Rewritten m' l' bytes' →
    Reads m l (accepted rows i) → Reads m' l' (accepted rows' i') → (bytes ≡ bytes') ↔ (meaning l rows ≡ meaning l' rows')
same_meaning {m} {m'} {l} {l'} {rows = rows} {rows' = rows'} w w' r r' =
    let a = rewritten_label w r in
    let b = rewritten_label w' r' in (
      λ e. equal_meaning l l' rows rows' (read_proper m l r) (read_proper m' l' r') (sym a ∙ e ∙ b),
      λ e. a ∙ equal_bytes l l' rows rows' e ∙ sym b,
    )

-- ---- of labels that differ in layout alone

-- labels with the same elements mean the same, if they are accepted
pub relaid_means : {m : Mode} {l l' ps ps' : List ℕ} {rows rows' : List Row} {i i' : ℕ} → SameElements m l l' ps ps' → Reads m l (accepted rows i) → Reads m l' (accepted rows' i') →
    meaning l rows ≡ meaning l' rows'
relaid_means {m} {l} {l'} {ps} {ps'} a r r' = go (alike_read m l l' a (accepted_short r) (accepted_short r') r r') refl refl
  where
    go : {z z' : Outcome} {rows rows' : List Row} {i i' : ℕ} → AlikeRead l l' ps ps' z z' → z ≡ accepted rows i → z' ≡ accepted rows' i' → meaning l rows ≡ meaning l' rows'
    go (both_accepted x y s) e e' = ap (meaning l) (sym (accepted_same e)) ∙ x ∙ ap (meaning l') (accepted_same e')
    go (both_refused s) e e' = absurd (accepted_refused (sym e))
    go both_at_the_end e e' = absurd (accepted_refused (sym e))

-- and are written alike: the same answer, and equal rooms
pub relaid_written : {m : Mode} {l l' ps ps' : List ℕ} {rows rows' : List Row} {i i' : ℕ} {out done done' : List ℕ} {s s' : Said} → SameElements m l l' ps ps' →
    Reads m l (accepted rows i) → Reads m l' (accepted rows' i') → Writes l (table rows) out s done → Writes l' (table rows') out s' done' → (s ≡ s') × (done ≡ done')
relaid_written {m} {l} {l'} a r r' w w' =
    equal_writings (accepted_short r) (accepted_short r') (read_ruled m l r) (read_ruled m l' r') (relaid_means a r r') w w'
