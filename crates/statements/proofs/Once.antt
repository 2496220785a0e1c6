-- No second outcome meets the contract of a reading: over one label and one room, the answer and the room's last bytes are decided. Of a pass the answer
-- is, and the room where the table fits it. A reading starts at one place.
use Prim.Native.Nat.{ℕ, ◌≤◌}
use native.Mathlib.Omega.{arith}
use mathlib.Core.Path.{◌≡◌, refl, sym, ap, ap₂, ◌∙◌}
use mathlib.Core.Bool.{cond}
use mathlib.Core.List.{List, ◌++◌}
use Rattle.std.specs.Prelude.{Result, Ok, Err}
use lib.Dec.{eqb}
use lib.ListN.{length, drop}
use Rattle.rules.specs.Data.{Row}
use Rattle.rules.specs.Modes.{base}
use Rattle.rules.specs.Table.{table}
use Rattle.rules.specs.Reading.{longest, Said, says, read, Answered}
use Rattle.rules.proofs.Reading.Outcomes.{accepted_refused}
use Rattle.rules.proofs.Reading.Reader.{reading_unique, answered_unique}
use Rattle.statements.specs.Answer.{said}
use Rattle.statements.specs.Passes.{AtStart, Concluded, OnePass}
use Rattle.statements.specs.declared.cursor.Cursor.{Cursor}
use Rattle.statements.specs.declared.passes.Run.{Run}
use Rattle.statements.specs.declared.outcome.Accepted.{Accepted}
use Rattle.statements.specs.declared.outcome.Refusal.{Refusal}
use Rattle.statements.specs.declared.outcome.Refusal.TheVariants.{TooLong, ForeignByte, LeftOpen, NoForm, PastLimit, Misplaced, OtherName, TooDeep, EndNotSetOff, EndsEarly, NoRoom}

abbrev accepted : ℕ → ℕ → Accepted
accepted p n = record { place = p; length = n }

-- the answer of a code, a place and a length
abbrev answer : ℕ → ℕ → ℕ → Result Accepted Refusal
answer c p n =
    cond (eqb c 0) (Ok (accepted p n)) (Err (cond (eqb c 1) TooLong (cond (eqb c 2) (ForeignByte p) (cond (eqb c 3) (LeftOpen p) (cond (eqb c 4) (NoForm p) (cond (eqb c 5) (PastLimit p)
    (cond (eqb c 6) (Misplaced p) (cond (eqb c 7) (OtherName p) (cond (eqb c 8) (TooDeep p) (cond (eqb c 9) (EndNotSetOff p) (cond (eqb c 10) (EndsEarly p) (NoRoom (accepted p n)))))))))))))

again : (r : Result Accepted Refusal) → answer (said r).code (said r).place (said r).size ≡ r
again (Ok a) = refl
again (Err TooLong) = refl
again (Err (ForeignByte p)) = refl
again (Err (LeftOpen p)) = refl
again (Err (NoForm p)) = refl
again (Err (PastLimit p)) = refl
again (Err (Misplaced p)) = refl
again (Err (OtherName p)) = refl
again (Err (TooDeep p)) = refl
again (Err (EndNotSetOff p)) = refl
again (Err (EndsEarly p)) = refl
again (Err (NoRoom a)) = refl

-- what is said of an answer tells which it is
pub said_once : {r r' : Result Accepted Refusal} → said r ≡ said r' → r ≡ r'
said_once {r} {r'} e = sym (again r) ∙ ap (λ (s : Said). answer s.code s.place s.size) e ∙ again r'

pub read_once : {label room last last' : List ℕ} {r r' : Result Accepted Refusal} → Answered base label room (said r) last → Answered base label room (said r') last' →
    (r ≡ r') × (said r ≡ said r') × (last ≡ last')
read_once {label} {room} a b = let u = answered_unique base label room a b in (said_once u.0, u.0, u.1)

-- ---- one pass

same_accepted : {a b : Accepted} → ◌≡◌ {A = Result Accepted Refusal} (Ok a) (Ok b) → a ≡ b
same_accepted e = cc

no_refusal : {a : Accepted} {r : Refusal} → ◌≡◌ {A = Result Accepted Refusal} (Err r) (Ok a) → ⊥
no_refusal e = let z : ◌≡◌ {A = ℕ} 0 1 = cc in omega arith

-- where the table fits the room, the room after is decided
record Same (before after after' : List ℕ) (r r' : Result Accepted Refusal) : Type 0 where
  pub answer : r ≡ r'
  pub room : (a : Accepted) → r ≡ Ok a → a.length ≤ length before → after ≡ after'

concluded_once : (label before : List ℕ) {after after' : List ℕ} → length label ≤ longest → (r r' : Result Accepted Refusal) → Concluded label before after r → Concluded label before after' r' →
    Same before after after' r r'
concluded_once label before s (Ok a) (Ok a') x y =
    let u = reading_unique base (read s x.judged) (read s y.judged) in
    let q : x.rows ≡ y.rows = cc in
    let p : a.place ≡ a'.place = cc in
    let n : a.length ≡ a'.length = x.count ∙ ap (λ (l : List Row). length (table l)) q ∙ sym y.count in
    record {
      answer = ap₂ (λ (i j : ℕ). Ok (accepted i j)) p n;
      room = λ b e i.
          let g : a.length ≤ length before = omega (arith, ap (λ (z : Accepted). z.length) (same_accepted e)) in
          x.bytes g ∙ ap₂ (λ (l : List Row) (k : ℕ). table l ++ drop k before) q n ∙ sym (y.bytes (omega arith));
    }
concluded_once label before s (Ok a) (Err e) x y = absurd (accepted_refused (reading_unique base (read s x.judged) (read s y.judged)))
concluded_once label before s (Err e) (Ok a) x y = absurd (accepted_refused (reading_unique base (read s y.judged) (read s x.judged)))
concluded_once label before s (Err e) (Err e') x y =
    let u = reading_unique base (read s x.judged) (read s y.judged) in
    let a : x.code ≡ y.code = cc in
    let b : x.place ≡ y.place = cc in
    record { answer = said_once (x.is ∙ ap₂ (λ (i j : ℕ). says i j 0) a b ∙ sym y.is); room = λ p q f. absurd (no_refusal q) }

pub pass_once : {label before after after' : List ℕ} {r r' : Run} → length label ≤ longest → OnePass label before after r → OnePass label before after' r' →
    (r.answer ≡ r'.answer) × ((a : Accepted) → r.answer ≡ Ok a → a.length ≤ length before → after ≡ after')
pass_once {label} {before} {r = r} {r'} s a b = let u = concluded_once label before s r.answer r'.answer a.concluded b.concluded in (u.answer, u.room)

pub start_once : {c c' : Cursor} → AtStart c → AtStart c' → c ≡ c'
start_once {c} {c'} a b =
    let s : c.state ≡ c'.state = a.state ∙ sym b.state in
    let o : c.blocks ≡ c'.blocks = a.blocks ∙ sym b.blocks in
    let i : c.at ≡ c'.at = a.at ∙ sym b.at in
    let n : c.n ≡ c'.n = a.n ∙ sym b.n in
    λ k. record { state = s k; blocks = o k; at = i k; n = n k }
