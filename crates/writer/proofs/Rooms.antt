-- What a pass into one room or another comes to: each answer of a writing.
use Prim.Native.Nat.{ℕ, ◌-◌, ◌≤◌, ◌<◌}
use native.Mathlib.Omega.{arith}
use mathlib.Core.Path.{◌≡◌, sym, ap, subst, ◌∙◌}
use mathlib.Core.List.{List, ◌++◌}
use lib.ListN.{length, take, drop}
use lib.Seq.{take_at}
use Rattle.rules.specs.Data as rule
use Rattle.rules.specs.Reading.{longest}
use Rattle.rules.specs.Meaning.{meaning}
use Rattle.rules.specs.Written.{start, canonical}
use Rattle.rules.specs.Writing.{Writes, long_label, no_table, long_written, short_room, stored}
use Rattle.rules.proofs.Tables.Judge.{same_rows, verdict_once}
use Rattle.table.specs.Judging.{Judges}
use Rattle.table.specs.Judging as judging
use Rattle.std.specs.Prelude.{Err}
use Rattle.table.specs.declared.Improper.{Improper}
use Rattle.output.specs.Puts.{Puts}
use Rattle.output.proofs.Laws.{fits, same_part}
use Rattle.writer.specs.Passing.{passing, PassWrites}
use Rattle.writer.proofs.Bounded.{within_all, no_more}
use Rattle.writer.specs.Answer.{written_said, refusal_said}
use Rattle.writer.specs.declared.outcome.Refusal.TheVariants as refusals

-- a count within the bound is the canonical label's length
within : {label lent before after : List ℕ} {n : ℕ} (p : PassWrites label lent before after n) → n ≤ longest → Puts (canonical (meaning label p.rows)) before after n
within {label} p h = same_part (within_all 0 start rule.outside (meaning label p.rows) (omega (arith, p.written.count))) p.written

size : {label lent before after : List ℕ} {n : ℕ} (p : PassWrites label lent before after n) → longest < n → longest < length (canonical (meaning label p.rows))
size {label} p h = omega (arith, p.written.count, no_more 0 start rule.outside (meaning label p.rows))

pub too_long : {label lent own own' : List ℕ} {n : ℕ} (out : List ℕ) → length label ≤ longest → PassWrites label lent own own' n → longest < n → Writes label lent out (refusal_said refusals.TooLongWritten) out
too_long out short p h = long_written short p.proper (size p h)

pub no_room : {label lent own own' : List ℕ} {n : ℕ} (out : List ℕ) → length label ≤ longest → PassWrites label lent own own' n → n ≤ longest → length out < n → Writes label lent out (refusal_said (refusals.NoRoom n)) out
no_room {label} {lent} out short p small h =
    let P = within p small in
    subst (λ (k : ℕ). Writes label lent out (refusal_said (refusals.NoRoom k)) out) (sym P.count) (short_room short p.proper (omega (arith, P.count)) (omega (arith, P.count)))

-- copied from an array of its own
pub copied : {label lent own own' : List ℕ} {n : ℕ} (out : List ℕ) {out' w : List ℕ} {r : ℕ} → length label ≤ longest → PassWrites label lent own own' n → n ≤ longest → w ≡ take (n - 0) (drop 0 own') → n ≤ length own → n ≤ length out →
    Puts w out out' r → Writes label lent out (written_said (record { length = n })) out'
copied {label} {lent} {own} {own'} {n} out {out'} {w} short p small e f h q =
    let P = within p small in
    let o : own' ≡ canonical (meaning label p.rows) ++ drop (length (canonical (meaning label p.rows))) own = fits P (omega (arith, P.count)) in
    let i : length (canonical (meaning label p.rows)) ≡ n - 0 = omega (arith, P.count) in
    let j : w ≡ canonical (meaning label p.rows) = e ∙ ap (take (n - 0)) o ∙ take_at (canonical (meaning label p.rows)) (drop (length (canonical (meaning label p.rows))) own) (n - 0) i in
    let k : length w ≤ length out = omega (arith, ap length j, P.count) in
    let b : out' ≡ canonical (meaning label p.rows) ++ drop (length (canonical (meaning label p.rows))) out = fits q k ∙ ap (λ (l : List ℕ). l ++ drop (length l) out) j in
    subst (λ (l : List ℕ). Writes label lent out (written_said (record { length = n })) l) (sym b)
    (subst (λ (z : ℕ). Writes label lent out (written_said (record { length = z })) (canonical (meaning label p.rows) ++ drop (length (canonical (meaning label p.rows))) out)) (sym P.count)
    (stored short p.proper (omega (arith, P.count)) (omega (arith, P.count))))

-- passed a second time, straight into the room
pub passed_again : {label lent own own' : List ℕ} {n : ℕ} (out : List ℕ) {out' : List ℕ} {m : ℕ} → length label ≤ longest → PassWrites label lent own own' n → n ≤ longest → n ≤ length out → PassWrites label lent out out' m →
    Writes label lent out (written_said (record { length = m })) out'
passed_again {label} {lent} {n = n} out {out'} {m} short p small h q =
    let s : p.rows ≡ q.rows = same_rows (verdict_once label short lent p.proper q.proper) in
    let e : m ≡ n = q.written.count ∙ ap (λ (l : List rule.Row). length (passing 0 start rule.outside (meaning label l))) (sym s) ∙ sym p.written.count in
    let u : Puts (canonical (meaning label q.rows)) out out' m = within q (omega arith) in
    subst (λ (l : List ℕ). Writes label lent out (written_said (record { length = m })) l) (sym (fits u (omega (arith, u.count))))
    (subst (λ (z : ℕ). Writes label lent out (written_said (record { length = z })) (canonical (meaning label q.rows) ++ drop (length (canonical (meaning label q.rows))) out)) (sym u.count)
    (stored short q.proper (omega (arith, u.count)) (omega (arith, u.count))))

-- ---- before any pass

pub over : (label lent out : List ℕ) → longest < length label → Writes label lent out (refusal_said refusals.TooLong) out
over label lent out h = long_label h

pub not_proper : {label lent : List ℕ} (out : List ℕ) {at : Improper} → length label ≤ longest → Judges label lent (Err at) → Writes label lent out (refusal_said (refusals.Improper at.0)) out
not_proper out h (judging.improper v) = no_table h v
