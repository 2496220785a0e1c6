-- No second outcome meets the contracts of the C face: each number that is handed back, and the room's last bytes, are decided.
use Prim.Native.Nat.{ℕ}
use mathlib.Core.Path.{◌≡◌, ap}
use mathlib.Core.List.{List}
use Rattle.rules.specs.Data as rule
use Rattle.rules.specs.Modes.{base}
use Rattle.rules.specs.Reading.{Said, Answered}
use Rattle.rules.specs.Writing.{Writes}
use Rattle.rules.specs.Asked.{says, Texted, Sought, Viewed}
use Rattle.rules.specs.Book.{Book, book, Takes}
use Rattle.rules.proofs.Reading.Reader.{answered_unique}
use Rattle.rules.proofs.Written.Outcome.{writes_once}
use Rattle.rules.proofs.Tables.Asked.{texted_once, viewed_once, sought_once}
use Rattle.rules.proofs.Book.Takings.{taken_once}
use Rattle.classes.specs.Places.{as_span}

numbers : {c p n c' p' n' : ℕ} → says c p n ≡ says c' p' n' → (c ≡ c') × (p ≡ p') × (n ≡ n')
numbers e = (ap (λ (s : Said). s.code) e, ap (λ (s : Said). s.place) e, ap (λ (s : Said). s.size) e)

module _ {c p n c' p' n' : ℕ} where
  pub read_once : {label room last last' : List ℕ} → Answered base label room (says c p n) last → Answered base label room (says c' p' n') last' →
      ((c ≡ c') × (p ≡ p') × (n ≡ n')) × (last ≡ last')
  read_once {label} {room} a b = let u = answered_unique base label room a b in (numbers u.0, u.1)

  pub write_once : {label lent room last last' : List ℕ} → Writes label lent room (says c p n) last → Writes label lent room (says c' p' n') last' →
      ((c ≡ c') × (p ≡ p') × (n ≡ n')) × (last ≡ last')
  write_once {label} {lent} {room} a b = let u = writes_once label lent room a b in (numbers u.0, u.1)

  pub text_once : {label lent room last last' : List ℕ} {row : ℕ} → Texted label lent row room (says c p n) last → Texted label lent row room (says c' p' n') last' →
      ((c ≡ c') × (p ≡ p') × (n ≡ n')) × (last ≡ last')
  text_once {label} {lent} {room} {row = row} a b = let u = texted_once label lent row room a b in (numbers u.0, u.1)

  pub find_once : {label lent name : List ℕ} {row : ℕ} → Sought label lent name row (says c p n) → Sought label lent name row (says c' p' n') →
      (c ≡ c') × (p ≡ p') × (n ≡ n')
  find_once {label} {lent} {name} {row} a b = numbers (sought_once label lent row name a b)

pub name_once : {label lent : List ℕ} {row x y x' y' : ℕ} → Viewed label lent row (as_span x y) → Viewed label lent row (as_span x' y') → (x ≡ x') × (y ≡ y')
name_once {label} {lent} {row} a b =
    let u = viewed_once label lent row a b in
    (ap (λ (s : rule.Span). s.from) u, ap (λ (s : rule.Span). s.upto) u)

module _ {c p n c' p' n' : ℕ} where
  pub take_once : {before after after' label room last last' : List ℕ} → Takes (book before) label room (says c p n) (book after) last →
      Takes (book before) label room (says c' p' n') (book after') last' → ((c ≡ c') × (p ≡ p') × (n ≡ n')) × (after ≡ after') × (last ≡ last')
  take_once {before} {label = label} {room = room} a b =
      let u = taken_once (book before) label room a b in
      (numbers u.0, ap (λ (x : Book). x.counts) u.1, u.2)
