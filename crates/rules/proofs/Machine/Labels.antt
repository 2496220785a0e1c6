-- The reading of a label: the next element, and the step over it, until END or a fault; and what the call returns.
use Prim.Native.Nat.{ℕ, zero, suc, ◌+◌}
use mathlib.Core.Bool.{Bool, true, false, cond}
use mathlib.Core.Path.{◌≡◌}
use mathlib.Core.List.{List, [], ◌++◌}
use lib.Dec.{leb}
use lib.ListN.{length}
use Rattle.rules.specs.Data.{Elem, Row, Opens, outside}
use Rattle.rules.specs.Grammar.{strict}
use Rattle.rules.specs.Modes.{Mode}
use Rattle.rules.specs.Elements.{Gap, Spells, placed, Fault}
use Rattle.rules.specs.Reading.{says, filled, longest, Outcome, accepted, refused}
use Rattle.rules.specs.Table.{table}
use Rattle.rules.proofs.Machine.Statements.{State, at_statement, Answer, refuses, goes, step, is_end}
use Rattle.rules.proofs.Machine.Elements.{Ahead, comes, faulty, none_left, next_element}
use Rattle.rules.proofs.Machine.Returns.{Return, returns}

-- an outcome behind these rows
abbrev pub behind_rows : List Row → Outcome → Outcome
behind_rows rs (accepted qs i) = accepted (rs ++ qs) i
behind_rows rs (refused c i) = refused c i

-- by what the step gives, at this place
abbrev pub stepped : ℕ → Answer → (State → Opens → Outcome) → Outcome
stepped i (refuses c) f = refused c i
stepped i (goes q o rs) f = behind_rows rs (f q o)

-- by what comes next
abbrev pub taken : Mode → State → Opens → ℕ → List ℕ → Ahead → (State → Opens → ℕ → List ℕ → Outcome) → Outcome
taken m q o i l (comes e n g w r) f = stepped (i + length g) (step m strict q o (placed i g w e n)) (λ q' o'. f q' o' (i + length g + length w) r)
taken m q o i l (faulty c g) f = refused c (i + length g)
taken m q o i l none_left f = refused 10 (i + length l)

-- over at most so many elements
abbrev pub loop : Mode → ℕ → State → Opens → ℕ → List ℕ → Outcome
loop m zero q o i l = refused 10 i
loop m (suc k) q o i l =
    let z = taken m q o i l (next_element m l) (loop m k) in
    cond (is_end q) (accepted [] i) z

-- of a label that is not too long; of every label
abbrev pub judge_label : Mode → List ℕ → Outcome
judge_label m l = loop m (suc (length l)) at_statement outside 0 l

abbrev pub reader : Mode → List ℕ → Outcome
reader m l = let z = judge_label m l in cond (leb (length l) longest) z (refused 1 longest)

-- ---- the loop as a relation

module _ (m : Mode) where
  -- where it stops
  pub data Stop : State → Opens → ℕ → List ℕ → Outcome → Type 0 where
    at_the_end : {q : State} {o : Opens} {i : ℕ} {l : List ℕ} → is_end q ≡ true → Stop q o i l (accepted [] i)
    at_a_fault : {q : State} {o : Opens} {i c : ℕ} {g r : List ℕ} → is_end q ≡ false → Gap m g r → Fault m r c → Stop q o i (g ++ r) (refused c (i + length g))
    at_an_element : {q : State} {o : Opens} {i c n : ℕ} {g w r : List ℕ} {e : Elem} → is_end q ≡ false → Gap m g (w ++ r) → Spells m w e n r →
        step m strict q o (placed i g w e n) ≡ refuses c → Stop q o i (g ++ (w ++ r)) (refused c (i + length g))
    at_no_more : {q : State} {o : Opens} {i : ℕ} {l : List ℕ} → is_end q ≡ false → Gap m l [] → Stop q o i l (refused 10 (i + length l))

  -- how it goes on until then
  pub data Goes : State → Opens → ℕ → List ℕ → Outcome → Type 0 where
    now : {q : State} {o : Opens} {i : ℕ} {l : List ℕ} {z : Outcome} → Stop q o i l z → Goes q o i l z
    later : {q q' : State} {o o' : Opens} {i n : ℕ} {g w r : List ℕ} {e : Elem} {rs : List Row} {z : Outcome} → is_end q ≡ false → Gap m g (w ++ r) → Spells m w e n r →
        step m strict q o (placed i g w e n) ≡ goes q' o' rs → Goes q' o' (i + length g + length w) r z → Goes q o i (g ++ (w ++ r)) (behind_rows rs z)

-- ---- the call

-- a table in the room, or no room for it
abbrev pub roomy : Bool → List ℕ → List ℕ → ℕ → Return
roomy true room t i = returns (says 0 i (length t)) (filled t room)
roomy false room t i = returns (says 11 i (length t)) room

abbrev pub returned : List ℕ → Outcome → Return
returned room (accepted rows i) = roomy (leb (length (table rows)) (length room)) room (table rows) i
returned room (refused c i) = returns (says c i 0) room

abbrev pub answer : Mode → List ℕ → List ℕ → Return
answer m l room = returned room (reader m l)
