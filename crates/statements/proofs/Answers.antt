-- The answer of a reading, from a pass into a room of the reader's own, and a second one where that room was too short.
use Prim.Native.Nat.{ℕ, ◌-◌, ◌≤◌, ◌<◌}
use native.Mathlib.Omega.{arith}
use mathlib.Core.Path.{◌≡◌, refl, sym, ap, ◌∙◌}
use mathlib.Core.List.{List, ◌++◌}
use lib.ListN.{length, take, drop, length-append, length-take, length-drop}
use lib.Seq.{take_at, length-take-le}
use Rattle.std.specs.Prelude.{Result, Ok, Err}
use Rattle.rules.specs.Data.{Row}
use Rattle.rules.specs.Modes.{base}
use Rattle.rules.specs.Table.{table}
use Rattle.rules.specs.Reading.{longest, accepted, Reads, too_long, read, Answered, stored, no_room, not_read}
use Rattle.rules.proofs.Reading.Outcomes.{accepted_same, accepted_refused}
use Rattle.rules.proofs.Reading.Reader.{reading_unique}
use Rattle.output.specs.Puts.{Puts}
use Rattle.statements.specs.Answer.{accepted_said, refusal_said, said}
use Rattle.statements.specs.Passes.{Reached, Passed, Refused, Concluded}
use Rattle.statements.specs.declared.outcome.Accepted.{Accepted}
use Rattle.statements.specs.declared.outcome.Refusal.{Refusal}
use Rattle.statements.specs.declared.outcome.Refusal.TheVariants.{TooLong, NoRoom}
use Rattle.statements.specs.declared.cursor.Cursor.{Cursor}
use Rattle.statements.proofs.Rooms.{copied_front, past}
use Rattle.statements.proofs.Running.{elsewhere}

front : (t own : List ℕ) (n : ℕ) → n ≡ length t → take n (t ++ drop n own) ≡ t
front t own n h = rw h (take_at t (drop (length t) own) (length t) refl)

stored_as : {label room end : List ℕ} {rows : List Row} {a : Accepted} → Reads base label (accepted rows a.place) → a.length ≡ length (table rows) → a.length ≤ length room → end ≡ table rows ++ drop a.length room →
    Answered base label room (accepted_said a) end
stored_as r c h q = rw (q, c) (stored r (omega (arith, c)))

pub not_read_long : (label room : List ℕ) → longest < length label → Answered base label room (refusal_said TooLong) room
not_read_long label room h = not_read (too_long h)

-- a reading may go on in the lent room, once what is behind is copied there
pub carried : (room : List ℕ) {label own mid : List ℕ} {c : Cursor} → Reached label own c → c.n ≤ length room → mid ≡ take c.n own ++ drop c.n room → Reached label mid c
carried room {own = own} {c = c} s h q =
    elsewhere s (rw q (simp (length-append, length-take, length-drop) (omega (arith, s.fits)))) (rw q (take_at (take c.n own) (drop c.n room) c.n (length-take-le c.n own s.fits)))

module _ {label : List ℕ} (room : List ℕ) (s : length label ≤ longest) where
  pub refusal_stands : {e : Refusal} → Refused label e → Answered base label room (refusal_said e) room
  refusal_stands f = rw f.is (not_read (read s f.judged))

  module _ {own last : List ℕ} {a : Accepted} (f : Passed label own last a) where
    pub short : length room < a.length → Answered base label room (refusal_said (NoRoom a)) room
    short h = rw f.count (no_room (read s f.judged) (omega (arith, f.count)))

    pub copied : {end : List ℕ} {m : ℕ} → a.length ≤ length room → a.length ≤ length own → length last ≡ length own → Puts (take (a.length - 0) last) room end m →
        Answered base label room (accepted_said a) end
    copied {end} h g i x =
        let n = a.length in
        let q : end ≡ take n last ++ drop n room = copied_front last room n x (omega arith) h in
        let w : last ≡ table f.rows ++ drop n own = f.bytes g in
        let t : take n last ≡ table f.rows = ap (take n) w ∙ front (table f.rows) own n f.count in
        stored_as (read s f.judged) f.count h (q ∙ ap (λ (l : List ℕ). l ++ drop n room) t)

    -- the room once k bytes are copied, and a second pass from there
    pub resumed : {mid end : List ℕ} {k : ℕ} (r : Result Accepted Refusal) → mid ≡ take k last ++ drop k room → a.length ≤ length room → k ≤ length last → k ≤ a.length → Concluded label mid end r →
        Answered base label room (said r) end
    resumed {mid} {k = k} (Ok a') q h g i f' =
        let n = a'.length in
        let u = accepted_same (reading_unique base (read s f.judged) (read s f'.judged)) in
        let w : n ≡ a.length = f'.count ∙ sym (f.count ∙ ap (λ (x : List Row). length (table x)) u) in
        let o : length mid ≡ length room = ap length q ∙ simp (length-append, length-take, length-drop) (omega arith) in
        stored_as (read s f'.judged) f'.count (omega arith) (f'.bytes (omega arith) ∙ ap (λ (l : List ℕ). table f'.rows ++ l) (ap (drop n) q ∙ past last room k n g (omega arith)))
    resumed (Err e) q h g i f' = absurd (accepted_refused (reading_unique base (read s f.judged) (read s f'.judged)))
