-- No second outcome meets the contract of a step, nor of what an element is met as: over one label, one state and one element, whatever the state holds,
-- what is given and every field of the state after it are decided.
use Prim.Native.Nat.{ℕ, zero, suc}
use native.Mathlib.Omega.{arith}
use mathlib.Core.Path.{◌≡◌, refl, sym, ap, ap₂, ◌∙◌, subst}
use mathlib.Core.Bool.{Bool, true, false, cond}
use mathlib.Core.List.{List, [], ◌∷◌}
use lib.Dec.{eqb, leb}
use Rattle.std.specs.Prelude.{Option, None, Some, Result, Ok, Err}
use Rattle.rules.specs.Data as rule
use Rattle.rules.proofs.Machine.Statements as machine
use Rattle.elements.specs.declared.Element.{Element}
use Rattle.rows.specs.Rows.{deepest, row_of}
use Rattle.rows.proofs.Once.{row_once}
use Rattle.rows.specs.declared.Kind as kind
use Rattle.rows.specs.declared.Kind.TheVariants as kinds
use Rattle.rows.specs.declared.Row.{Row}
use Rattle.rows.specs.declared.Row.TheVariants as rows
use Rattle.blocks.specs.Stack.{Block, block, many, top_of}
use Rattle.steps.specs.States.{led_to, full_in, Sees}
use Rattle.steps.specs.Steps.{Given, nothing, one_row, stop, number_of, row_given, given, after, giving, rows_of, Effect, stays, closes, ends, opens, halts, effect, answer_by, answer_of, Settles, Does, Met, as_awaited, without_name, without_unit}
use Rattle.steps.specs.declared.Awaited.{Awaited}
use Rattle.steps.specs.declared.Misfit.{Misfit}
use Rattle.steps.specs.declared.Misfit.TheVariants as misfits
use Rattle.steps.specs.declared.State.{State}
use Rattle.steps.specs.declared.Stepped.{Stepped}
use Rattle.steps.proofs.Meeting.{apart}

-- ---- every state sees some blocks

abbrev nested : kind.Kind → ℕ → List Block
nested k zero = []
nested k (suc n) = block k 0 0 ∷ nested k n

abbrev open_blocks : Option kind.Kind → Bool → List Block
open_blocks None full = []
open_blocks (Some kinds.Object) false = nested kinds.Object 1
open_blocks (Some kinds.Object) true = nested kinds.Object deepest
open_blocks (Some kinds.Group) false = nested kinds.Group 1
open_blocks (Some kinds.Group) true = nested kinds.Group deepest

seen_top : (u : Option kind.Kind) (full : Bool) → u ≡ top_of (open_blocks u full)
seen_top None full = refl
seen_top (Some kinds.Object) false = refl
seen_top (Some kinds.Object) true = refl
seen_top (Some kinds.Group) false = refl
seen_top (Some kinds.Group) true = refl

seen_full : (u : Option kind.Kind) (full : Bool) → full_in u full ≡ leb deepest (many (open_blocks u full))
seen_full None full = refl
seen_full (Some kinds.Object) false = refl
seen_full (Some kinds.Object) true = refl
seen_full (Some kinds.Group) false = refl
seen_full (Some kinds.Group) true = refl

pub some_seen : (t : State) → Sees t (open_blocks t.top t.full)
some_seen t = record { top = seen_top t.top t.full; full = seen_full t.top t.full }

-- ---- what is given

-- what the machine's answer tells of it: a refusal's code, or the rows
pub data Told : Type 0 where
  a_stop : ℕ → Told
  some_rows : List rule.Row → Told

abbrev told : machine.Answer → Told
told (machine.refuses c) = a_stop c
told (machine.goes q o rs) = some_rows rs

abbrev told_of : Given → Told
told_of nothing = some_rows []
told_of (one_row row) = some_rows (row_of row ∷ [])
told_of (stop m) = a_stop (number_of m)

row_told : (label : List ℕ) (bs : List Block) (s : State) (row : Row) → told (answer_of label bs s (one_row row)) ≡ some_rows (row_of row ∷ [])
row_told label bs s (rows.Attribute a b) = refl
row_told label bs s (rows.Pointer a b) = refl
row_told label bs s (rows.Open k a b) = refl
row_told label bs s (rows.Close k) = refl
row_told label bs s (rows.Integer m n) = refl
row_told label bs s (rows.Float x) = refl
row_told label bs s (rows.Time x) = refl
row_told label bs s (rows.Text a b) = refl
row_told label bs s (rows.Symbol a b) = refl
row_told label bs s (rows.Unit p a b m n) = refl
row_told label bs s rows.Sequence = refl
row_told label bs s rows.SequenceEnd = refl
row_told label bs s rows.Set = refl
row_told label bs s rows.SetEnd = refl
row_told label bs s (rows.Last a) = refl

told_again : (label : List ℕ) (bs : List Block) (s : State) (g : Given) → told (answer_of label bs s g) ≡ told_of g
told_again label bs s nothing = refl
told_again label bs s (one_row row) = row_told label bs s row
told_again label bs s (stop m) = refl

-- a refusal by its number
abbrev misfit_at : ℕ → Misfit
misfit_at c =
    cond (eqb c 5) misfits.PastLimit (cond (eqb c 6) misfits.Misplaced (cond (eqb c 7) misfits.OtherName (cond (eqb c 8) misfits.TooDeep misfits.EndNotSetOff)))

number_again : (m : Misfit) → misfit_at (number_of m) ≡ m
number_again misfits.PastLimit = refl
number_again misfits.Misplaced = refl
number_again misfits.OtherName = refl
number_again misfits.TooDeep = refl
number_again misfits.EndNotSetOff = refl

pub number_once : {m m' : Misfit} → number_of m ≡ number_of m' → m ≡ m'
number_once {m} {m'} h = sym (number_again m) ∙ ap misfit_at h ∙ number_again m'

told_once : (g g' : Given) → told_of g ≡ told_of g' → g ≡ g'
told_once nothing nothing e = refl
told_once nothing (one_row row) e = absurd (let z : ◌≡◌ {A = ℕ} 0 1 = cc in omega arith)
told_once nothing (stop m) e = absurd (let z : ◌≡◌ {A = ℕ} 0 1 = cc in omega arith)
told_once (one_row row) nothing e = absurd (let z : ◌≡◌ {A = ℕ} 0 1 = cc in omega arith)
told_once (one_row row) (one_row row') e = let h : row_of row ≡ row_of row' = cc in ap one_row (row_once h)
told_once (one_row row) (stop m) e = absurd (let z : ◌≡◌ {A = ℕ} 0 1 = cc in omega arith)
told_once (stop m) nothing e = absurd (let z : ◌≡◌ {A = ℕ} 0 1 = cc in omega arith)
told_once (stop m) (one_row row) e = absurd (let z : ◌≡◌ {A = ℕ} 0 1 = cc in omega arith)
told_once (stop m) (stop m') e = let h : number_of m ≡ number_of m' = cc in ap stop (number_once h)

-- ---- the state

abbrev state_after : machine.Answer → machine.State
state_after (machine.refuses c) = machine.at_end
state_after (machine.goes q o r) = q

by_effect : (label : List ℕ) (bs : List Block) (t : State) (e : Element) (s s' : State) (l : List rule.Row) (f : Effect) → Settles label t e s f → Settles label t e s' f →
    state_after (answer_by label bs s l f) ≡ state_after (answer_by label bs s' l f) → s ≡ s'
by_effect label bs t e s s' l stays h h' z = h.3 ∙ ap (led_to t) z ∙ sym h'.3
by_effect label bs t e s s' l (opens k a b) h h' z = h.2 ∙ sym h'.2
by_effect label bs t e s s' l closes h h' z = h ∙ sym h'
by_effect label bs t e s s' l ends h h' z = h.0 ∙ sym h'.0
by_effect label bs t e s s' l (halts c) h h' z = h ∙ sym h'

-- ---- the step

filled_by : (s : State) (o : Option Row) → Ok (record { state = s; row = o }) ≡ giving s (row_given o)
unfolding giving
filled_by s None = refl
filled_by s (Some row) = refl

filled : (t : State) (r : Result Stepped Misfit) → r ≡ giving (after t r) (given r)
unfolding giving
filled t (Ok r) = filled_by r.state r.row
filled t (Err m) = refl

pub step_once : {label : List ℕ} {t : State} {q : machine.State} {e : Element} {r r' : Result Stepped Misfit} → Does label t q e r → Does label t q e r' → r ≡ r'
step_once {label} {t} {e = e} {r = r} {r' = r'} d d' =
    let bs = open_blocks t.top t.full in
    let z : answer_of label bs (after t r) (given r) ≡ answer_of label bs (after t r') (given r') = d.does bs (some_seen t) ∙ sym (d'.does bs (some_seen t)) in
    let w : given r ≡ given r' = told_once (given r) (given r') (sym (told_again label bs (after t r) (given r)) ∙ ap told z ∙ told_again label bs (after t r') (given r')) in
    let h : Settles label t e (after t r') (effect (given r)) = subst (λ (x : Given). Settles label t e (after t r') (effect x)) (sym w) d'.leaves.settles in
    let s : after t r ≡ after t r' =
    by_effect label bs t e (after t r) (after t r') (rows_of (given r)) (effect (given r)) d.leaves.settles h
    (ap state_after z ∙ ap (λ (x : Given). state_after (answer_of label bs (after t r') x)) (sym w)) in
    filled t r ∙ ap₂ giving s w ∙ sym (filled t r')

-- ---- what an element is met as

pub met_once : {t : State} {e : Element} {m m' : Awaited} → Met t e m → Met t e m' → m ≡ m'
met_once (as_awaited h i) (as_awaited h' i') = refl
met_once (as_awaited h i) (without_name k n) = absurd (n (h k))
met_once (as_awaited h i) (without_unit k n) = absurd (n (i k))
met_once (without_name k n) (as_awaited h i) = absurd (n (h k))
met_once (without_unit k n) (as_awaited h i) = absurd (n (i k))
met_once (without_name k n) (without_name k' n') = refl
met_once (without_name k n) (without_unit k' n') = absurd (apart k k')
met_once (without_unit k n) (without_name k' n') = absurd (apart k' k)
met_once (without_unit k n) (without_unit k' n') = refl
