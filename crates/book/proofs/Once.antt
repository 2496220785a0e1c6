-- No second outcome meets the contract of taking: the answer, every counter, and the room's last bytes are decided.
use mathlib.Core.Path.{◌≡◌, refl, sym, ap, ◌∙◌, ap₂}
use mathlib.Core.Bool.{cond}
use lib.Dec.{eqb}
use Prim.Native.Nat.{ℕ}
use mathlib.Core.List.{List}
use Rattle.std.specs.Prelude.{Result, Ok, Err}
use Rattle.rules.specs.Reading.{Said}
use Rattle.rules.specs.Book as rule
use Rattle.rules.specs.Book.{Takes}
use Rattle.rules.proofs.Book.Takings.{taken_once}
use Rattle.statements.specs.declared.outcome.Accepted.{Accepted}
use Rattle.statements.specs.declared.outcome.Refusal.TheVariants.{TooLong, ForeignByte, LeftOpen, NoForm, PastLimit, Misplaced, OtherName, TooDeep, EndNotSetOff, EndsEarly, NoRoom}
use Rattle.book.specs.declared.Book.{Book}
use Rattle.book.specs.declared.Taken.{Taken}
use Rattle.book.specs.declared.outcome.Untaken.{Untaken}
use Rattle.book.specs.declared.outcome.Untaken.TheVariants.{Unread, BookFull}
use Rattle.book.specs.Answers.{book_of, said}

abbrev accepted : ℕ → ℕ → Accepted
accepted p n = record { place = p; length = n }

-- the answer of a code, a place and a length
abbrev answer : ℕ → ℕ → ℕ → Result Accepted Untaken
answer c p n =
    cond (eqb c 0) (Ok (accepted p n)) (Err (cond (eqb c 16) BookFull (Unread (cond (eqb c 1) TooLong (cond (eqb c 2) (ForeignByte p) (cond (eqb c 3) (LeftOpen p) (cond (eqb c 4) (NoForm p)
    (cond (eqb c 5) (PastLimit p) (cond (eqb c 6) (Misplaced p) (cond (eqb c 7) (OtherName p) (cond (eqb c 8) (TooDeep p) (cond (eqb c 9) (EndNotSetOff p) (cond (eqb c 10) (EndsEarly p)
    (NoRoom (accepted p n)))))))))))))))

again : (r : Result Accepted Untaken) → answer (said r).code (said r).place (said r).size ≡ r
again (Ok a) = refl
again (Err BookFull) = refl
again (Err (Unread TooLong)) = refl
again (Err (Unread (ForeignByte p))) = refl
again (Err (Unread (LeftOpen p))) = refl
again (Err (Unread (NoForm p))) = refl
again (Err (Unread (PastLimit p))) = refl
again (Err (Unread (Misplaced p))) = refl
again (Err (Unread (OtherName p))) = refl
again (Err (Unread (TooDeep p))) = refl
again (Err (Unread (EndNotSetOff p))) = refl
again (Err (Unread (EndsEarly p))) = refl
again (Err (Unread (NoRoom a))) = refl

-- what is said of an answer tells which it is
pub said_once : {r r' : Result Accepted Untaken} → said r ≡ said r' → r ≡ r'
said_once {r} {r'} e = sym (again r) ∙ ap (λ (s : Said). answer s.code s.place s.size) e ∙ again r'

pub take_once : {b : Book} {label room last last' : List ℕ} {t t' : Taken} → Takes (book_of b) label room (said t.answer) (book_of t.book) last →
    Takes (book_of b) label room (said t'.answer) (book_of t'.book) last' → (t ≡ t') × (last ≡ last')
take_once {b} {label = label} {room = room} {t = t} {t' = t'} x y =
    let u = taken_once (book_of b) label room x y in
    (ap₂ (λ (k : rule.Book) (r : Result Accepted Untaken). record { book = record { counts = k.counts }; answer = r }) u.1 (said_once u.0), u.2)
