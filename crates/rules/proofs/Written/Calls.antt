-- What two calls promise together: what a writing left in the room is read back, and writings of equal meaning, so of tables that differ in
-- marks alone, cannot be told apart.
use Prim.Native.Nat.{ℕ, ◌*◌, ◌≤◌}
use native.Mathlib.Omega.{arith}
use mathlib.Core.Path.{◌≡◌, sym, ap, subst, ◌∙◌}
use mathlib.Core.List.{List, ◌∷◌, ◌++◌, map}
use lib.ListN.{length, take, drop}
use lib.Seq.{take-append_seam}
use Rattle.rules.specs.Data.{Moment, Row, a_moment}
use Rattle.rules.specs.Table.{table}
use Rattle.rules.specs.Reading.{longest, accepted, Reads, Said, Answered}
use Rattle.rules.specs.Reading as Reading
use Rattle.rules.specs.Proper.{the_rules, proper_rows, Ruled}
use Rattle.rules.specs.Meaning.{meaning}
use Rattle.rules.specs.Written.{written_mark, canonical}
use Rattle.rules.specs.Writing.{Writes, long_label, no_table, long_written, short_room, stored}
use Rattle.rules.proofs.Tables.Bound.{enough_room}
use Rattle.rules.proofs.Tables.Asked.{is_rows}
use Rattle.rules.proofs.Tables.Judge.{same_rows, not_both, verdict_once}
use Rattle.rules.proofs.Written.Marks.{unmark, marks_mean_nothing}
use Rattle.rules.proofs.Written.RoundTrip.{reads_back, read_marks}
use Rattle.rules.proofs.Written.Outcome.{writes_once}

-- ---- what a writing left in the room is read back

-- A writing of a label and a table left `n` bytes at the front of the room `after`: they are a label, and its table means what the written table means.
pub record LeftInRoom (label lent after : List ℕ) (n : ℕ) : Type 0 where
  -- the rows of the table that was written
  pub rows : List Row
  pub proper : Ruled label lent (proper_rows rows)
  -- the rows that a reading of the bytes left gives, and the place past END
  pub rows_back : List Row
  pub past : ℕ
  pub reads : Reads the_rules (take n after) (accepted rows_back past)
  pub means : meaning (take n after) rows_back ≡ meaning label rows
  -- with the marks of what is written
  pub marks : (before behind : List Row) (t : Moment) → rows_back ≡ before ++ (a_moment t ∷ behind) → t.mark ≡ written_mark t

-- a writing with code 0 left such bytes
pub left_in_room : {label lent room after : List ℕ} {said : Said} → Writes label lent room said after → said.code ≡ 0 → LeftInRoom label lent after said.size
left_in_room (long_label h) z = absurd (omega arith)
left_in_room (no_table h v) z = absurd (omega arith)
left_in_room (long_written h v a) z = absurd (omega arith)
left_in_room (short_room h v a b) z = absurd (omega arith)
left_in_room {label} {room = room} (stored {rows} h v a b) z =
    let c = canonical (meaning label rows) in
    let t = reads_back label rows (is_rows v) a in
    let e : c ≡ take (length c) (c ++ drop (length c) room) = sym (take-append_seam c (drop (length c) room)) in
    record {
      rows = rows;
      proper = v;
      rows_back = t.0;
      past = t.1;
      reads = subst (λ (l : List ℕ). Reads the_rules l (accepted t.0 t.1)) e t.2;
      means = subst (λ (l : List ℕ). meaning l t.0 ≡ meaning label rows) e t.3;
      marks = read_marks label rows (is_rows v) t.2;
    }

-- as a call: the bytes that a writing left are read with code 0 into any room that their table fits into
pub left_stored : {label lent after : List ℕ} {n : ℕ} (b : LeftInRoom label lent after n) (room : List ℕ) → length (table b.rows_back) ≤ length room →
    Answered the_rules (take n after) room (record { code = 0; place = b.past; size = length (table b.rows_back) }) (table b.rows_back ++ drop (length (table b.rows_back)) room)
left_stored b room h = Reading.stored b.reads h

-- and five times their number is room enough
pub left_fits : {label lent after : List ℕ} {n : ℕ} (b : LeftInRoom label lent after n) (room : List ℕ) → 5 * length (take n after) ≤ length room → length (table b.rows_back) ≤ length room
left_fits {after = after} {n = n} b room h = enough_room (take n after) room h b.reads

-- ---- equal meaning

module _ {label lent label' lent' : List ℕ} {rows rows' : List Row} (short : length label ≤ longest) (short' : length label' ≤ longest)
    (proper : Ruled label lent (proper_rows rows)) (proper' : Ruled label' lent' (proper_rows rows')) (alike : meaning label rows ≡ meaning label' rows') where
  -- the rows that were written have the other's meaning
  also : {qs : List Row} → Ruled label lent (proper_rows qs) → meaning label' rows' ≡ meaning label qs
  also v = sym alike ∙ ap (meaning label) (same_rows (verdict_once label short lent proper v))

  -- an outcome of the one writing is an outcome of the other
  pub written_alike : {room after : List ℕ} {said : Said} → Writes label lent room said after → Writes label' lent' room said after
  written_alike (long_label h) = absurd (omega arith)
  written_alike (no_table h v) = absurd (not_both (verdict_once label short lent proper v))
  written_alike (long_written h v a) = long_written short' proper' (rw (also v) a)
  written_alike (short_room h v a b) = rw (sym (also v)) (short_room short' proper' (rw (also v) a) (rw (also v) b))
  written_alike (stored h v a b) = rw (sym (also v)) (stored short' proper' (rw (also v) a) (rw (also v) b))

  -- two writings of equal meaning into equal rooms give equal answers and leave equal rooms
  pub equal_writings : {room after after' : List ℕ} {said said' : Said} → Writes label lent room said after → Writes label' lent' room said' after' → (said ≡ said') × (after ≡ after')
  equal_writings {room} w w' = writes_once label' lent' room (written_alike w) w'

-- ---- marks alone

-- two tables over one label that differ in marks alone are written alike: the same answer, and equal rooms
pub marks_alone_written : {label lent lent' room after after' : List ℕ} {rows rows' : List Row} {said said' : Said} → length label ≤ longest →
    Ruled label lent (proper_rows rows) → Ruled label lent' (proper_rows rows') → map unmark rows ≡ map unmark rows' →
    Writes label lent room said after → Writes label lent' room said' after' → (said ≡ said') × (after ≡ after')
marks_alone_written {label} {rows = rows} {rows' = rows'} short v v' e w w' = equal_writings short short v v' (marks_mean_nothing label rows rows' e) w w'
