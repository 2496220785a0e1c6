-- Runs of the machine over lists of elements: as a relation, and as a function.
use Prim.Native.Nat.{ℕ}
use mathlib.Core.Path.{◌≡◌, refl, sym, ap, ◌∙◌}
use mathlib.Core.List.{List, [], ◌∷◌, ◌++◌, append_assoc}
use Rattle.rules.specs.Data.{Placed, Row, Opens, outside}
use Rattle.rules.specs.Grammar.{Strictness}
use Rattle.rules.specs.Modes.{Mode}
use Rattle.rules.proofs.Machine.Statements.{State, at_statement, at_end, Answer, refuses, goes, step}

module _ (m : Mode) (s : Strictness) where
  -- from a state, over these elements, to a state, with these rows
  pub data Reach : State → Opens → List Placed → State → Opens → List Row → Type 0 where
    here : {q : State} {o : Opens} → Reach q o [] q o []
    by_step : {q q' q'' : State} {o o' o'' : Opens} {x : Placed} {xs : List Placed} {r rs : List Row} →
        step m s q o x ≡ goes q' o' r → Reach q' o' xs q'' o'' rs → Reach q o (x ∷ xs) q'' o'' (r ++ rs)

  -- all of these elements are taken, and END last
  abbrev pub Accepts : State → Opens → List Placed → List Row → Type 0
  Accepts q o xs rs = Reach q o xs at_end outside rs

-- ---- the same as a function

-- how a run ends: all elements taken, or one refused, with its code
pub data RunOutcome : Type 0 where
  ended : State → Opens → List Row → RunOutcome
  refused : ℕ → Placed → RunOutcome

abbrev pub prepend : List Row → RunOutcome → RunOutcome
prepend r (ended q o rs) = ended q o (r ++ rs)
prepend r (refused c x) = refused c x

abbrev pub carry : Answer → Placed → (State → Opens → RunOutcome) → RunOutcome
carry (refuses c) x f = refused c x
carry (goes q o r) x f = prepend r (f q o)

module _ (m : Mode) (s : Strictness) where
  abbrev pub run : State → Opens → List Placed → RunOutcome
  run q o [] = ended q o []
  run q o (x ∷ xs) = carry (step m s q o x) x (λ q' o'. run q' o' xs)

  -- from the start
  abbrev pub reading : List Placed → RunOutcome
  reading xs = run at_statement outside xs

  prepend_nil : (z : RunOutcome) → prepend [] z ≡ z
  prepend_nil (ended q o qs) = refl
  prepend_nil (refused c x) = refl

  prepend_append : (r rs : List Row) (z : RunOutcome) → prepend r (prepend rs z) ≡ prepend (r ++ rs) z
  prepend_append r rs (ended q o qs) = ap (ended q o) (sym (append_assoc r rs qs))
  prepend_append r rs (refused c x) = refl

  pub reach_run : {q q' : State} {o o' : Opens} {xs : List Placed} {rs : List Row} → Reach m s q o xs q' o' rs →
      (ys : List Placed) → run q o (xs ++ ys) ≡ prepend rs (run q' o' ys)
  reach_run {q} {o} here ys = sym (prepend_nil (run q o ys))
  reach_run (by_step {q' = q₁} {q'' = q₂} {o' = o₁} {o'' = o₂} {x = x} {xs = xs} {r = r} {rs = rs} e t) ys =
      ap (λ (a : Answer). carry a x (λ q' o'. run q' o' (xs ++ ys))) e ∙ ap (prepend r) (reach_run t ys) ∙ prepend_append r rs (run q₂ o₂ ys)

  -- how a run went
  pub data Trace : State → Opens → List Placed → RunOutcome → Type 0 where
    all_taken : {q q' : State} {o o' : Opens} {xs : List Placed} {rs : List Row} → Reach m s q o xs q' o' rs → Trace q o xs (ended q' o' rs)
    some_refused : {q q' : State} {o o' : Opens} {xs : List Placed} {rs : List Row} {x : Placed} (ys : List Placed) {c : ℕ} →
        Reach m s q o xs q' o' rs → step m s q' o' x ≡ refuses c → Trace q o (xs ++ (x ∷ ys)) (refused c x)

  longer : {q q' : State} {o o' : Opens} {x : Placed} {xs : List Placed} {r : List Row} {z : RunOutcome} → step m s q o x ≡ goes q' o' r →
      Trace q' o' xs z → Trace q o (x ∷ xs) (prepend r z)
  longer e (all_taken t) = all_taken (by_step e t)
  longer e (some_refused ys t f) = some_refused ys (by_step e t) f

  one_more : (q : State) (o : Opens) (x : Placed) (xs : List Placed) → ((q' : State) (o' : Opens) → Trace q' o' xs (run q' o' xs)) →
      (a : Answer) → step m s q o x ≡ a → Trace q o (x ∷ xs) (carry a x (λ q' o'. run q' o' xs))
  one_more q o x xs t (refuses c) e = some_refused xs here e
  one_more q o x xs t (goes q' o' r) e = longer e (t q' o')

  pub trace : (q : State) (o : Opens) (xs : List Placed) → Trace q o xs (run q o xs)
  trace q o [] = all_taken here
  trace q o (x ∷ xs) = one_more q o x xs (λ q' o'. trace q' o' xs) (step m s q o x) refl
