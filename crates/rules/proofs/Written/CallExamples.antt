-- The examples of the calls hold of the rules, by computation of the reading, of the verdict on a table, and of the written label.
use Prim.Native.Nat.{ℕ, ◌≤◌}
use native.Mathlib.Omega.{arith}
use native.Mathlib.Decide.{dec_le, dec_lt, ℕ_discrete}
use mathlib.Core.Path.{◌≡◌, refl, sym, subst}
use mathlib.Core.List.{List, [], ◌∷◌, ◌++◌}
use lib.ListN.{length, drop}
use Rattle.rules.specs.Data.{Row}
use Rattle.rules.specs.Modes.{base}
use Rattle.rules.specs.Table.{table}
use Rattle.rules.specs.Reading.{longest, accepted, Reads, Answered}
use Rattle.rules.specs.Proper.{proper_rows, Ruled}
use Rattle.rules.specs.Meaning.{keep, breaks, join, reassemble, meaning}
use Rattle.rules.specs.Written.{is_name, unpadded, digits, wide, indent, canonical}
use Rattle.rules.specs.Writing.{Writes, stored}
use Rattle.rules.specs.Asked.{says, Texted, Viewed, Sought}
use Rattle.rules.specs.Bytes.{ascii}
use Rattle.rules.specs.Calendar.{days_of_years, days_of_months}
use Rattle.rules.specs.Book.{Takes, Under}
use Rattle.rules.specs.Examples.{Call, reads, writes, takes_text, looks_up, views, takes, counts, relabels, calls, CallHolds, CallsHold}
use Rattle.rules.proofs.Machine.Statements.{name_discrete}
use Rattle.rules.proofs.Machine.Returns.{Return, returns}
use Rattle.rules.proofs.Machine.Labels.{reader, answer}
use Rattle.rules.proofs.Reading.Reader.{reads_sound, answered}
use Rattle.rules.proofs.Tables.Numbers.{value_onto}
use Rattle.rules.proofs.Machine.Decoding.{field, decode}
use Rattle.rules.proofs.Machine.Checks.{is_text, is_symbol}
use Rattle.rules.proofs.Machine.Verdicts.{judge_table}
use Rattle.rules.proofs.Tables.OwnTable.{read_ruled}
use Rattle.rules.proofs.Machine.Lookup.{from_of, seeks}
use Rattle.rules.proofs.Machine.Queries.{texted_of, sought_of, viewed_of}
use Rattle.rules.proofs.Tables.Asked.{texted_there, viewed_there, sought_there}
use Rattle.rules.proofs.Written.Outcome.{written_of, writes_there}
use Rattle.rules.proofs.Book.Counting.{under_of, under_there}
use Rattle.rules.proofs.Book.Takings.{Left, leaves, taken_of, taken_by}

-- a reading accepts, and the written label of its rows is these bytes
record Rewritten (label after : List ℕ) : Type 0 where
  rows : List Row
  past : ℕ
  reading : reader base label ≡ accepted rows past
  writing : canonical (meaning label rows) ≡ after
  short : length label ≤ longest
  short_after : length after ≤ longest

-- a reading accepts, and its rows go under this counter
record Counted (label : List ℕ) (n : ℕ) : Type 0 where
  rows : List Row
  past : ℕ
  reading : reader base label ≡ accepted rows past
  counting : under_of label rows ≡ n

-- the functions give the results
abbrev Computed : Call → Type 0
Computed (reads label room s after) = answer base label room ≡ returns s after
Computed (writes label lent room s after) = written_of label lent room ≡ returns s after
Computed (takes_text label lent row room s after) = texted_of label lent row room ≡ returns s after
Computed (looks_up label lent name row s) = sought_of label lent name row ≡ s
Computed (views label lent row p) = viewed_of label lent row ≡ p
Computed (takes b label room s b' after) = taken_of b label room ≡ leaves s b' after
Computed (counts label n) = Counted (ascii label) n
Computed (relabels label after) = Rewritten label after

infixr 80 ◌and◌
data AllComputed : List Call → Type 0 where
  no_more : AllComputed []
  ◌and◌ : {x : Call} {xs : List Call} → Computed x → AllComputed xs → AllComputed (x ∷ xs)

rewrites : (label after : List ℕ) (rows : List Row) → canonical (meaning label rows) ≡ after → length label ≤ longest → length after ≤ longest → Ruled label (table rows) (proper_rows rows) →
    (room : List ℕ) → length after ≤ length room → Writes label (table rows) room (says 0 (length after) (length after)) (after ++ drop (length after) room)
rewrites label after rows e h k v room f = rw (sym e) (stored h v (rw e k) (rw e f))

holds : (x : Call) → Computed x → CallHolds x
holds (reads label room s after) e = subst (λ (o : Return). Answered base label room o.said o.room) e (answered base label room)
holds (writes label lent room s after) e = subst (λ (o : Return). Writes label lent room o.said o.room) e (writes_there label lent room)
holds (takes_text label lent row room s after) e = subst (λ (o : Return). Texted label lent row room o.said o.room) e (texted_there label lent row room)
holds (looks_up label lent name row s) e = subst (Sought label lent name row) e (sought_there label lent row name)
holds (views label lent row p) e = subst (Viewed label lent row) e (viewed_there label lent row)
holds (takes b label room s b' after) e = subst (λ (o : Left). Takes b label room o.said o.kept o.room) e (taken_by b label room)
holds (counts label n) e =
    let r : Reads base (ascii label) (accepted e.rows e.past) = subst (Reads base (ascii label)) e.reading (reads_sound base (ascii label)) in
    record { rows = e.rows; past = e.past; reads = r; under = subst (Under (ascii label) e.rows) e.counting (under_there r) }
holds (relabels label after) e =
    let r : Reads base label (accepted e.rows e.past) = subst (Reads base label) e.reading (reads_sound base label) in
    record { rows = e.rows; past = e.past; read = r; written = λ room h. rewrites label after e.rows e.writing e.short e.short_after (read_ruled base label r) room h }

all_hold : {xs : List Call} → AllComputed xs → CallsHold xs
all_hold no_more = tt
all_hold (◌and◌ {x} e h) = (holds x e, all_hold h)

pub calls_hold : CallsHold calls
unfolding name_discrete ℕ_discrete dec_lt dec_le unpadded digits wide indent is_name reassemble keep join breaks judge_table decode field value_onto is_text is_symbol from_of seeks texted_of sought_of viewed_of written_of days_of_years days_of_months under_of taken_of
calls_hold =
    all_hold {xs = calls}
    (refl and refl and refl and refl and refl and refl and refl and refl and refl and refl and refl and refl and refl and refl and refl and refl and refl and refl
    and refl and refl and refl and refl and refl
    and (record { rows = _; past = _; reading = refl; writing = refl; short = omega arith; short_after = omega arith })
    and (record { rows = _; past = _; reading = refl; writing = refl; short = omega arith; short_after = omega arith })
    and refl and refl and refl and refl and refl and refl and refl and refl and refl
    and (record { rows = _; past = _; reading = refl; writing = refl; short = omega arith; short_after = omega arith })
    and refl and refl and refl and refl and refl and refl and refl and refl and refl and refl and refl
    and (record { rows = _; past = _; reading = refl; counting = refl })
    and (record { rows = _; past = _; reading = refl; counting = refl })
    and (record { rows = _; past = _; reading = refl; counting = refl })
    and (record { rows = _; past = _; reading = refl; counting = refl })
    and (record { rows = _; past = _; reading = refl; counting = refl })
    and (record { rows = _; past = _; reading = refl; counting = refl })
    and (record { rows = _; past = _; reading = refl; counting = refl })
    and (record { rows = _; past = _; reading = refl; counting = refl })
    and (record { rows = _; past = _; reading = refl; counting = refl })
    and (record { rows = _; past = _; reading = refl; counting = refl })
    and (record { rows = _; past = _; reading = refl; counting = refl })
    and (record { rows = _; past = _; reading = refl; counting = refl })
    and (record { rows = _; past = _; reading = refl; counting = refl })
    and (record { rows = _; past = _; reading = refl; counting = refl })
    and (record { rows = _; past = _; reading = refl; counting = refl })
    and (record { rows = _; past = _; reading = refl; writing = refl; short = omega arith; short_after = omega arith }) and no_more)
