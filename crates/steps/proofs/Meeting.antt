-- What an element is met as: what the state awaits, or what follows without the sign that might have come.
use Prim.Native.Nat.{ℕ}
use native.Mathlib.Omega.{arith}
use mathlib.Core.Path.{◌≡◌, refl, sym, subst}
use mathlib.Core.List.{List, [], ◌∷◌}
use borrow.Author.Rules.{rules}
use types.Run.{OneOf, hit, miss}
use denote.Enum.Declared.{tag_of, declared}
use Rattle.std.specs.Prelude.{Result}
use Rattle.rules.proofs.Machine.Statements as machine
use Rattle.elements.specs.declared.Element.{Element}
use Rattle.rows.specs.Rows.{place_in}
use Rattle.rows.specs.declared.Nest as nest
use Rattle.rows.specs.declared.Nest.TheVariants as nests
use Rattle.steps.specs.Signs.{sign_of}
use Rattle.steps.specs.States.{state_in, state_of, following_in}
use Rattle.steps.specs.Steps.{Does, Met, as_awaited, without_name, without_unit}
use Rattle.steps.specs.declared.Awaited.{Awaited}
use Rattle.steps.specs.declared.Awaited.TheVariants as await
use Rattle.steps.specs.declared.Misfit.{Misfit}
use Rattle.steps.specs.declared.State.{State}
use Rattle.steps.specs.declared.Stepped.{Stepped}
use Rattle.steps.specs.contracts.Awaited.{enum}
use Rattle.steps.proofs.Offers.{Isnt, is_it, is_not}
use Rattle.steps.proofs.Ways.{passes}

-- ---- what the code settles on

-- the numbers of what is awaited with a sign that cannot be left out
abbrev others : List ℕ
others = 0 ∷ 1 ∷ 2 ∷ 3 ∷ 4 ∷ 6 ∷ 7 ∷ 8 ∷ 9 ∷ 10 ∷ 12 ∷ 13 ∷ 14 ∷ 15 ∷ 16 ∷ 17 ∷ 18 ∷ 19 ∷ 20 ∷ 21 ∷ []

pub apart : {a : Awaited} → a ≡ await.Closed → a ≡ await.AfterNumber → ⊥
apart h k = let z : ◌≡◌ {A = ℕ} 0 1 = cc in omega arith

module _ {t : State} {e : Element} where
  pub met_equals : t.awaited ≡ await.Closed → sign_of e ≡ 61 → Met t e t.awaited
  met_equals h k = as_awaited (λ z. k) (λ z. absurd (apart h z))

  pub met_less : t.awaited ≡ await.AfterNumber → sign_of e ≡ 60 → Met t e t.awaited
  met_less h k = as_awaited (λ z. absurd (apart z h)) (λ z. k)

  pub met_other : OneOf others (tag_of (declared enum) t.awaited) → Met t e t.awaited
  met_other h = as_awaited (λ z. absurd (miss others 5 tt (rw z at h))) (λ z. absurd (miss others 11 tt (rw z at h)))

  pub met_no_name : t.awaited ≡ await.Closed → Isnt e 61 → Met t e await.Statement
  met_no_name h i = without_name h i.isnt

  pub met_no_unit : {m : Awaited} → t.awaited ≡ await.AfterNumber → Isnt e 60 → m ≡ following_in t.nest → Met t e m
  met_no_unit h i k = rw k (without_unit h i.isnt)

-- ---- what it is good for

-- The element e is met as m: a step that does what m asks does what the state t asks. If m opens a block, t awaits it; if its sign can be left
-- out, e is that sign.
record Serves (t : State) (e : Element) (m : Awaited) : Type 0 where
  pub stands : (label : List ℕ) (r : Result Stepped Misfit) → Does label t (state_in label m t) e r → Does label t (state_of label t) e r
  pub opener : m ≡ await.BlockEquals → t.awaited ≡ await.BlockEquals
  pub opened : m ≡ await.BlockName → t.awaited ≡ await.BlockName
  pub equals : m ≡ await.Closed → sign_of e ≡ 61
  pub less : m ≡ await.AfterNumber → sign_of e ≡ 60

-- a state of which it is known what it awaits
in_state : {label : List ℕ} {t : State} {m : Awaited} {e : Element} {r : Result Stepped Misfit} → t.awaited ≡ m → Does label t (state_in label m t) e r → Does label t (state_of label t) e r
in_state {label} {t} {e = e} {r = r} h d = subst (λ (x : Awaited). Does label t (state_in label x t) e r) (sym h) d

-- the numbers of what follows a scalar
abbrev followings : List ℕ
followings = 0 ∷ 12 ∷ 13 ∷ 14 ∷ []

following : (n : nest.Nest) → OneOf followings (tag_of (declared enum) (following_in n))
following nests.Alone = hit followings 0 tt
following nests.Sequence = hit followings 12 tt
following nests.Row = hit followings 13 tt
following nests.Set = hit followings 14 tt

-- an element that begins no unit
no_unit : {label : List ℕ} {t : State} {e : Element} {r : Result Stepped Misfit} (n : nest.Nest) → (sign_of e ≡ 60 → ⊥) → Does label t (state_in label (following_in n) t) e r → Does label t (machine.at_number (place_in n)) e r
no_unit nests.Alone h d = passes d (record { isnt = h }) (λ bs. refl) (λ bs. refl)
no_unit nests.Sequence h d = passes d (record { isnt = h }) (λ bs. refl) (λ bs. refl)
no_unit nests.Row h d = passes d (record { isnt = h }) (λ bs. refl) (λ bs. refl)
no_unit nests.Set h d = passes d (record { isnt = h }) (λ bs. refl) (λ bs. refl)

module _ {t : State} {e : Element} where
  -- what follows without the sign opens no block, nor is its own sign one that can be left out
  without : (n : nest.Nest) → ((label : List ℕ) (r : Result Stepped Misfit) → Does label t (state_in label (following_in n) t) e r → Does label t (state_of label t) e r) → Serves t e (following_in n)
  without n d =
      record {
        stands = d;
        opener = λ z. absurd (miss followings 3 tt (rw z at (following n)));
        opened = λ z. absurd (miss followings 4 tt (rw z at (following n)));
        equals = λ z. absurd (miss followings 5 tt (rw z at (following n)));
        less = λ z. absurd (miss followings 11 tt (rw z at (following n)));
      }

  serves : {m : Awaited} → Met t e m → Serves t e m
  serves (as_awaited h i) = record { stands = λ label r d. d; opener = λ z. z; opened = λ z. z; equals = h; less = i }
  serves (without_name h i) = without nests.Alone (λ label r d. in_state h (passes d (record { isnt = i }) (λ bs. refl) (λ bs. refl)))
  serves (without_unit h i) = without t.nest (λ label r d. in_state h (no_unit t.nest i d))

-- ---- what a step has of it

module _ {t : State} {e : Element} {m : Awaited} where
  pub by_awaited : {label : List ℕ} {r : Result Stepped Misfit} {k : Awaited} → Met t e m → m ≡ k → Does label t (state_in label k t) e r → Does label t (state_of label t) e r
  by_awaited {label} {r} a h d = (serves a).stands label r (rw h d)

  pub by_opener : Met t e m → m ≡ await.BlockEquals → t.awaited ≡ await.BlockEquals
  by_opener a h = (serves a).opener h

  pub by_opened : Met t e m → m ≡ await.BlockName → t.awaited ≡ await.BlockName
  by_opened a h = (serves a).opened h

  pub by_equals : Met t e m → m ≡ await.Closed → sign_of e ≡ 61
  by_equals a h = (serves a).equals h

  pub by_less : Met t e m → m ≡ await.AfterNumber → sign_of e ≡ 60
  by_less a h = (serves a).less h

pub ruleset met = (is_it, is_not, met_equals, met_less, met_other, met_no_name, met_no_unit, by_awaited, by_opener, by_opened, by_equals, by_less, rules)
