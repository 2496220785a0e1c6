-- Two labels that are both written anew: what is printed is equal exactly when they mean the same.
use Prim.Native.Nat.{ℕ}
use native.Mathlib.Omega.{arith}
use mathlib.Core.Logic.{◌↔◌}
use mathlib.Core.Path.{◌≡◌, sym, ap, ◌∙◌}
use mathlib.Core.List.{List}
use lib.ListN.{length, take, drop}
use lib.Seq.{take-append_seam}
use Rattle.rules.specs.Data.{Row}
use Rattle.rules.specs.Modes.{base}
use Rattle.rules.specs.Meaning.{meaning}
use Rattle.rules.specs.Reading.{Said, accepted, Reads}
use Rattle.rules.specs.Writing.{label_of}
use Rattle.rules.proofs.Reading.Reader.{reading_unique}
use Rattle.rules.proofs.Rooms.{refusal_some}
use Rattle.rules.proofs.Tables.OwnTable.{read_proper}
use Rattle.rules.proofs.Reading.Outcomes.{accepted_same}
use Rattle.rules.proofs.Written.RoundTrip.{equal_bytes}
use Rattle.rules.proofs.Written.SameMeaning.{equal_meaning}
use Rattle.relabel.specs.Relabels.{Relabels, written, short_room, long_written, long_table, not_read}

-- with code 0, the canonical label
printed : {l room after : List ℕ} {s : Said} {rows : List Row} {i : ℕ} → Relabels l room s after → s.code ≡ 0 → Reads base l (accepted rows i) → take s.size after ≡ label_of l rows
printed {l} {room} (written {rows = qs} r t w h) z r' =
    take-append_seam (label_of l qs) (drop (length (label_of l qs)) room) ∙ ap (label_of l) (accepted_same (reading_unique base r r'))
printed (short_room r t w h) z r' = absurd (omega arith)
printed (long_written r t w) z r' = absurd (omega arith)
printed (long_table r t) z r' = absurd (omega arith)
printed (not_read r) z r' = absurd (omega (arith, refusal_some r))

-- did the data change?
pub same_printed : {l l' room room' after after' : List ℕ} {s s' : Said} {rows rows' : List Row} {i i' : ℕ} →
    Relabels l room s after → s.code ≡ 0 → Relabels l' room' s' after' → s'.code ≡ 0 → Reads base l (accepted rows i) → Reads base l' (accepted rows' i') →
    (take s.size after ≡ take s'.size after') ↔ (meaning l rows ≡ meaning l' rows')
same_printed {l} {l'} {rows = rows} {rows' = rows'} w z w' z' r r' =
    let a = printed w z r in
    let b = printed w' z' r' in (
      λ e. equal_meaning l l' rows rows' (read_proper base l r) (read_proper base l' r') (sym a ∙ e ∙ b),
      λ e. a ∙ equal_bytes l l' rows rows' e ∙ sym b,
    )
