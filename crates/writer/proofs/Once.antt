-- No second outcome meets the contract of a writing, or of a pass: over one label, one table and one room, the answer and the room's last bytes are decided.
use Prim.Native.Nat.{ℕ, ◌≤◌}
use mathlib.Core.Path.{◌≡◌, refl, sym, ap, ◌∙◌}
use mathlib.Core.Bool.{cond}
use mathlib.Core.List.{List}
use Rattle.std.specs.Prelude.{Result, Ok, Err}
use lib.Dec.{eqb}
use lib.ListN.{length}
use Rattle.rules.specs.Data as rule
use Rattle.rules.specs.Meaning.{meaning}
use Rattle.rules.specs.Written.{start}
use Rattle.rules.specs.Reading.{longest, Said}
use Rattle.rules.specs.Writing.{Writes}
use Rattle.rules.proofs.Tables.Judge.{same_rows, verdict_once}
use Rattle.rules.proofs.Written.Outcome.{writes_once}
use Rattle.output.proofs.Laws.{same_part}
use Rattle.output.proofs.Once.{puts_once}
use Rattle.writer.specs.Passing.{passing, PassWrites}
use Rattle.writer.specs.Answer.{said}
use Rattle.writer.specs.declared.outcome.Written.{Written}
use Rattle.writer.specs.declared.outcome.Refusal.{Refusal}
use Rattle.writer.specs.declared.outcome.Refusal.TheVariants.{TooLong, Improper, TooLongWritten, NoRoom}

-- the answer of a code and a place
abbrev answer : ℕ → ℕ → Result Written Refusal
answer c p = cond (eqb c 0) (Ok (record { length = p })) (Err (cond (eqb c 1) TooLong (cond (eqb c 12) (Improper p) (cond (eqb c 13) TooLongWritten (NoRoom p)))))

again : (w : Result Written Refusal) → answer (said w).code (said w).place ≡ w
again (Ok w) = refl
again (Err TooLong) = refl
again (Err (Improper at)) = refl
again (Err TooLongWritten) = refl
again (Err (NoRoom n)) = refl

-- what is said of an answer tells which it is
pub said_once : {w w' : Result Written Refusal} → said w ≡ said w' → w ≡ w'
said_once {w} {w'} e = sym (again w) ∙ ap (λ (s : Said). answer s.code s.place) e ∙ again w'

pub write_once : {label lent room last last' : List ℕ} {w w' : Result Written Refusal} → Writes label lent room (said w) last → Writes label lent room (said w') last' →
    (w ≡ w') × (said w ≡ said w') × (last ≡ last')
write_once {label} {lent} {room} a b = let u = writes_once label lent room a b in (said_once u.0, u.0, u.1)

-- a pass: the count and the room's last bytes, whether or not the label fits
pub pass_once : {label lent room last last' : List ℕ} {n n' : ℕ} → length label ≤ longest → PassWrites label lent room last n → PassWrites label lent room last' n' → (n ≡ n') × (last ≡ last')
pass_once {label} {lent} h a b =
    let s : a.rows ≡ b.rows = same_rows (verdict_once label h lent a.proper b.proper) in
    puts_once (same_part (ap (λ (l : List rule.Row). passing 0 start rule.outside (meaning label l)) s) a.written) b.written
