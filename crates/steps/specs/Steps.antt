-- What a step gives, and that it is the machine's step.
use Rattle.std.specs.Prelude.{ℕ, ◌≡◌, false, List, [], ◌∷◌, Option, None, Some, Result, Ok, Err}
use Rattle.rules.specs.Data as rule
use Rattle.rules.specs.Modes.{base}
use Rattle.rules.specs.Grammar.{strict}
use Rattle.rules.proofs.Machine.Statements as machine
use Rattle.rules.proofs.Machine.Statements.{is_end}
use Rattle.elements.specs.Next.{placed_of}
use Rattle.elements.specs.declared.Element.{Element}
use Rattle.elements.specs.declared.Element.TheVariants.{Name}
use Rattle.rows.specs.Rows.{row_of}
use Rattle.rows.specs.declared.Kind as kind
use Rattle.rows.specs.declared.Row.{Row}
use Rattle.rows.specs.declared.Row.TheVariants as rows
use Rattle.blocks.specs.Stack.{Block, block, rest, opens_of}
use Rattle.rows.specs.declared.Kind.TheVariants as kinds
use Rattle.steps.specs.Signs.{sign_of}
use Rattle.steps.specs.States.{state_of, following_in, awaiting, closing, led_to, is_full, Sees, Room}
use Rattle.steps.specs.declared.Awaited.{Awaited}
use Rattle.steps.specs.declared.Awaited.TheVariants as await
use Rattle.steps.specs.declared.Misfit.{Misfit}
use Rattle.steps.specs.declared.Misfit.TheVariants as misfits
use Rattle.steps.specs.declared.State.{State}
use Rattle.steps.specs.declared.Stepped.{Stepped}

-- ---- what a step gives

-- the number that the document has for a refusal
abbrev pub number_of : Misfit → ℕ
number_of misfits.PastLimit = 5
number_of misfits.Misplaced = 6
number_of misfits.OtherName = 7
number_of misfits.TooDeep = 8
number_of misfits.EndNotSetOff = 9

-- nothing, a row, or a stop
pub data Given : Type 0 where
  nothing : Given
  one_row : Row → Given
  stop : Misfit → Given

abbrev pub row_given : Option Row → Given
row_given None = nothing
row_given (Some row) = one_row row

abbrev pub given : Result Stepped Misfit → Given
given (Ok r) = row_given r.row
given (Err m) = stop m

-- the state after it: a refusal leaves it
abbrev pub after : State → Result Stepped Misfit → State
after t (Ok r) = r.state
after t (Err m) = t

-- the one outcome that gives this
unfoldable pub giving : State → Given → Result Stepped Misfit
giving s nothing = Ok (record { state = s; row = None })
giving s (one_row row) = Ok (record { state = s; row = Some row })
giving s (stop m) = Err m

abbrev pub rows_of : Given → List rule.Row
rows_of nothing = []
rows_of (one_row row) = row_of row ∷ []
rows_of (stop m) = []

-- what that asks of the loop: nothing, a block opened or closed, an end, or a refusal
pub data Effect : Type 0 where
  stays closes ends : Effect
  opens : kind.Kind → ℕ → ℕ → Effect
  halts : ℕ → Effect

abbrev pub row_effect : Row → Effect
row_effect (rows.Attribute a b) = stays
row_effect (rows.Pointer a b) = stays
row_effect (rows.Open k a b) = opens k a b
row_effect (rows.Close k) = closes
row_effect (rows.Integer m n) = stays
row_effect (rows.Float x) = stays
row_effect (rows.Time x) = stays
row_effect (rows.Text a b) = stays
row_effect (rows.Symbol a b) = stays
row_effect (rows.Unit p a b m n) = stays
row_effect rows.Sequence = stays
row_effect rows.SequenceEnd = stays
row_effect rows.Set = stays
row_effect rows.SetEnd = stays
row_effect (rows.Last a) = ends

abbrev pub effect : Given → Effect
effect nothing = stays
effect (one_row row) = row_effect row
effect (stop m) = halts (number_of m)

-- ---- the machine's answer that a step is

-- the step to the state t, before its effect is seen to: the blocks are still those before it
abbrev pub answer_by : List ℕ → List Block → State → List rule.Row → Effect → machine.Answer
answer_by label bs t l stays = machine.goes (state_of label t) (opens_of label bs) l
answer_by label bs t l (opens k a b) = machine.goes (state_of label t) (opens_of label (block k a b ∷ bs)) l
answer_by label bs t l closes = machine.goes (state_of label (closing bs t)) (opens_of label (rest bs)) l
answer_by label bs t l ends = machine.goes (state_of label t) (opens_of label bs) l
answer_by label bs t l (halts c) = machine.refuses c

abbrev pub answer_of : List ℕ → List Block → State → Given → machine.Answer
answer_of label bs t g = answer_by label bs t (rows_of g) (effect g)

-- ---- what it does

-- What the effect says of the states t before and s after. With none, t and the machine's state decide s, and what is known of the open
-- blocks is as it was: whoever opens or closes one sees to that. A block is opened by the name that is the element, where there is room,
-- and a statement follows it; the last row stands outside all blocks, and END comes with no other row; a refusal leaves the state.
abbrev pub Settles : List ℕ → State → Element → State → Effect → Type 0
Settles label t e s stays =
    (is_end (state_of label s) ≡ false) × (s.top ≡ t.top) × (s.full ≡ t.full) × (s ≡ led_to t (state_of label s))
Settles label t e s (opens k a b) = (e ≡ Name a b) × (Room t → is_full t ≡ false) × (s ≡ awaiting t await.Statement)
Settles label t e s closes = s ≡ awaiting t await.Closed
Settles label t e s ends = (s ≡ awaiting t await.Ended) × (t.top ≡ None)
Settles label t e s (halts c) = s ≡ t

-- what holds from element to element
pub record Leaves (label : List ℕ) (t : State) (e : Element) (s : State) (g : Given) : Type 0 where
  pub room : Room t → Room s
  pub settles : Settles label t e s (effect g)

-- The step that gave r, in the state t over the element e, is the machine's step in the state q, whatever the open blocks are that t sees.
pub record Does (label : List ℕ) (t : State) (q : machine.State) (e : Element) (r : Result Stepped Misfit) : Type 0 where
  pub leaves : Leaves label t e (after t r) (given r)
  pub does : (bs : List Block) → Sees t bs →
      answer_of label bs (after t r) (given r) ≡ machine.step base strict q (opens_of label bs) (placed_of label e)

-- What an element is met as: what the state awaits, or, where a number has no unit or the word that closes a block no name, what follows
-- without.
pub data Met (t : State) (e : Element) : Awaited → Type 0 where
  as_awaited : (t.awaited ≡ await.Closed → sign_of e ≡ 61) → (t.awaited ≡ await.AfterNumber → sign_of e ≡ 60) →
      Met t e t.awaited
  without_name : t.awaited ≡ await.Closed → (sign_of e ≡ 61 → ⊥) → Met t e await.Statement
  without_unit : t.awaited ≡ await.AfterNumber → (sign_of e ≡ 60 → ⊥) → Met t e (following_in t.nest)
