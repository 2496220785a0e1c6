-- A reading and a writing, one after the other.
use Prim.Native.Nat.{ℕ, ◌-◌, ◌≤◌}
use native.Mathlib.Omega.{arith}
use mathlib.Core.Path.{◌≡◌, refl, sym, ap, subst, ◌∙◌}
use mathlib.Core.List.{List}
use lib.ListN.{length, take, drop}
use lib.Seq.{take_at}
use Rattle.rules.specs.Data.{Row}
use Rattle.rules.specs.Modes.{base}
use Rattle.rules.specs.Table.{table}
use Rattle.rules.specs.Proper.{proper_rows, Ruled}
use Rattle.rules.specs.Reading.{longest, Said, accepted, Reads, read, Answered, stored, no_room, not_read}
use Rattle.rules.specs.Writing.{Writes, long_label, no_table, long_written, short_room, stored as put}
use Rattle.rules.proofs.Tables.Judge.{same_rows, not_both, verdict_once}
use Rattle.rules.proofs.Tables.OwnTable.{read_ruled}
use Rattle.rules.proofs.Rooms.{refusal_some}
use Rattle.classes.specs.Places.{part}
use Rattle.relabel.specs.Relabels.{Relabels}
use Rattle.relabel.specs.Relabels as relabel
use Rattle.statements.specs.Answer.{accepted_said, refusal_said}
use Rattle.statements.specs.declared.outcome.Accepted.{Accepted}
use Rattle.statements.specs.declared.outcome.Refusal.{Refusal}
use Rattle.statements.specs.declared.outcome.Refusal.TheVariants.{TooLong, ForeignByte, LeftOpen, NoForm, PastLimit, Misplaced, OtherName, TooDeep, EndNotSetOff, EndsEarly, NoRoom}

-- ---- the reading

-- the table that was read, where the code is 0
pub record ReadTable (label lent : List ℕ) : Type 0 where
  pub rows : List Row
  pub past : ℕ
  pub reads : Reads base label (accepted rows past)
  pub fits : length (table rows) ≤ longest
  pub is : lent ≡ table rows

pub read_table : {label room last lent : List ℕ} {s : Said} → length room ≡ longest → Answered base label room s last → s.code ≡ 0 → lent ≡ take s.size last → ReadTable label lent
read_table {room = room} k (stored {rows} r h) e q =
    record { rows = rows; past = _; reads = r; fits = omega arith; is = q ∙ take_at (table rows) (drop (length (table rows)) room) (length (table rows)) refl }
read_table k (no_room r h) e q = absurd (omega arith)
read_table k (not_read r) e q = absurd (omega (arith, refusal_some r))

pub refuses : {label room last : List ℕ} (out : List ℕ) {s : Said} → length room ≡ longest → Answered base label room s last → (s.code ≡ 0 → ⊥) → Relabels label out s out
refuses out k (stored r h) n = absurd (n refl)
refuses out k (no_room r h) n = relabel.long_table r (omega arith)
refuses out k (not_read r) n = relabel.not_read r

-- no refusal has code 0
refused_code : (r : Refusal) → (refusal_said r).code ≡ 0 → ⊥
refused_code TooLong e = omega (arith, e)
refused_code (ForeignByte p) e = omega (arith, e)
refused_code (LeftOpen p) e = omega (arith, e)
refused_code (NoForm p) e = omega (arith, e)
refused_code (PastLimit p) e = omega (arith, e)
refused_code (Misplaced p) e = omega (arith, e)
refused_code (OtherName p) e = omega (arith, e)
refused_code (TooDeep p) e = omega (arith, e)
refused_code (EndNotSetOff p) e = omega (arith, e)
refused_code (EndsEarly p) e = omega (arith, e)
refused_code (NoRoom a) e = omega (arith, e)

-- ---- the writing

short : {label : List ℕ} {rows : List Row} {i : ℕ} → Reads base label (accepted rows i) → length label ≤ longest
short (read h j) = h

pub anew : {label lent out last : List ℕ} {s : Said} → ReadTable label lent → Writes label lent out s last → Relabels label out s last
anew {label} {lent} g w = go w
  where
    ruled : Ruled label lent (proper_rows g.rows)
    ruled = subst (λ (l : List ℕ). Ruled label l (proper_rows g.rows)) (sym g.is) (read_ruled base label g.reads)

    same : {rows : List Row} → Ruled label lent (proper_rows rows) → g.rows ≡ rows
    same v = same_rows (verdict_once label (short g.reads) lent ruled v)

    reads : {rows : List Row} → Ruled label lent (proper_rows rows) → Reads base label (accepted rows g.past)
    reads v = subst (λ (l : List Row). Reads base label (accepted l g.past)) (same v) g.reads

    fits : {rows : List Row} → Ruled label lent (proper_rows rows) → length (table rows) ≤ longest
    fits v = subst (λ (l : List Row). length (table l) ≤ longest) (same v) g.fits

    go : {out last : List ℕ} {s : Said} → Writes label lent out s last → Relabels label out s last
    go (long_label h) = absurd (omega (arith, short g.reads))
    go (no_table h v) = absurd (not_both (verdict_once label (short g.reads) lent ruled v))
    go (long_written h v l) = relabel.long_written (reads v) (fits v) l
    go (short_room h v l m) = relabel.short_room (reads v) (fits v) l m
    go (put h v l m) = relabel.written (reads v) (fits v) l m

-- ---- the same of the answers

pub refused_reading : {label room last : List ℕ} (out : List ℕ) (r : Refusal) → length room ≡ longest → Answered base label room (refusal_said r) last → Relabels label out (refusal_said r) out
refused_reading out r k a = refuses out k a (refused_code r)

pub written_anew : {label room kept lent out last : List ℕ} {s : Said} {t : Accepted} → length room ≡ longest → Answered base label room (accepted_said t) kept → lent ≡ part kept 0 t.length →
    Writes label lent out s last → Relabels label out s last
written_anew {kept = kept} {t = t} k a q w = anew (read_table k a refl (q ∙ ap (λ (i : ℕ). take i kept) (let h : t.length - 0 ≡ t.length = omega arith in h))) w
