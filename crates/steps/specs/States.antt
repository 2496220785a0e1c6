-- What the code's states and open blocks mean in the rules' machine, and how states are made.
use Rattle.std.specs.Prelude.{ℕ, ◌≡◌, Bool, false, Option, None, Some, List, [], ◌∷◌, leb}
use Rattle.rules.proofs.Machine.Statements as machine
use Rattle.classes.specs.Places.{as_span, name_at}
use Rattle.rows.specs.Rows.{deepest, kind_of, op_of, place_in}
use Rattle.rows.specs.Decoding.{kind_back, op_back}
use Rattle.rows.specs.declared.Kind as kind
use Rattle.rows.specs.declared.Kind.TheVariants as kinds
use Rattle.rows.specs.declared.Op as op
use Rattle.rows.specs.declared.Op.TheVariants as ops
use Rattle.rows.specs.declared.Nest as nest
use Rattle.rows.specs.declared.Nest.TheVariants as nests
use Rattle.blocks.specs.Stack.{Block, block, many, top_of}
use Rattle.steps.specs.declared.Awaited.{Awaited}
use Rattle.steps.specs.declared.Awaited.TheVariants as await
use Rattle.steps.specs.declared.State.{State}

-- ---- the state

abbrev pub state_in : List ℕ → Awaited → State → machine.State
state_in label await.Statement t = machine.at_semicolon
state_in label await.Equals t = machine.at_equals
state_in label await.Pointer t = machine.at_pointer
state_in label await.BlockEquals t = machine.at_opener (kind_of t.kind)
state_in label await.BlockName t = machine.at_opened (kind_of t.kind)
state_in label await.Closed t = machine.at_closer (name_at label t.from t.upto)
state_in label await.ClosingName t = machine.at_closed (name_at label t.from t.upto)
state_in label await.Value t = machine.at_scalar (place_in t.nest) machine.any_value
state_in label await.Member t = machine.at_scalar (place_in t.nest) machine.no_else
state_in label await.FirstMember t = machine.at_scalar (place_in t.nest) machine.a_row
state_in label await.FirstOfSet t = machine.at_scalar (place_in t.nest) machine.a_set_end
state_in label await.AfterNumber t = machine.at_number (place_in t.nest)
state_in label await.InSequence t = machine.at_member machine.in_sequence
state_in label await.InRow t = machine.at_member machine.in_row
state_in label await.InSet t = machine.at_member machine.in_set
state_in label await.UnitName t = machine.at_unit (place_in t.nest) (op_of t.op)
state_in label await.AfterUnit t = machine.at_power (place_in t.nest) (op_of t.op) (as_span t.from t.upto)
state_in label await.Exponent t = machine.at_exponent (place_in t.nest) (op_of t.op) (as_span t.from t.upto)
state_in label await.AfterExponent t = machine.at_factor (place_in t.nest)
state_in label await.AfterRow t = machine.at_row
state_in label await.NextRow t = machine.at_next_row
state_in label await.Ended t = machine.at_end

abbrev pub state_of : List ℕ → State → machine.State
state_of label t = state_in label t.awaited t

-- what is awaited after a scalar, by what it is a member of
abbrev pub following_in : nest.Nest → Awaited
following_in nests.Alone = await.Statement
following_in nests.Sequence = await.InSequence
following_in nests.Row = await.InRow
following_in nests.Set = await.InSet

-- ---- states made from a state

-- what it knows of the open blocks, and the name in hand, are as they were
abbrev pub state_with : State → Awaited → nest.Nest → kind.Kind → op.Op → State
state_with t a n k o = record { awaited = a; nest = n; kind = k; op = o; top = t.top; full = t.full; from = t.from; upto = t.upto }

abbrev pub awaiting : State → Awaited → State
awaiting t a = state_with t a t.nest t.kind t.op

-- the name from a to b is in hand
abbrev pub named : State → ℕ → ℕ → State
named t a b = record { awaited = t.awaited; nest = t.nest; kind = t.kind; op = t.op; top = t.top; full = t.full; from = a; upto = b }

-- the innermost block's name is in hand
abbrev pub closing : List Block → State → State
closing [] t = t
closing (block k a b ∷ bs) t = named t a b

-- the state that a reading begins with
abbrev pub first_state : State
first_state =
    record {
      awaited = await.Statement;
      nest = nests.Alone;
      kind = kinds.Object;
      op = ops.First;
      top = None;
      full = false;
      from = 0;
      upto = 0;
    }

-- ---- the machine's state as the code's

abbrev pub nest_in : machine.Place → nest.Nest
nest_in machine.alone = nests.Alone
nest_in (machine.within machine.in_sequence) = nests.Sequence
nest_in (machine.within machine.in_row) = nests.Row
nest_in (machine.within machine.in_set) = nests.Set

-- The state after t that stands for the machine's: what a step on the way there sets is the machine's, and the rest is as in t. No state of
-- the code stands for two of the machine's.
abbrev pub led_to : State → machine.State → State
led_to t machine.at_statement = t
led_to t machine.at_semicolon = awaiting t await.Statement
led_to t machine.at_equals = awaiting t await.Equals
led_to t machine.at_pointer = awaiting t await.Pointer
led_to t (machine.at_opener k) = state_with t await.BlockEquals t.nest (kind_back k) t.op
led_to t (machine.at_opened k) = awaiting t await.BlockName
led_to t (machine.at_closer n) = awaiting t await.Closed
led_to t (machine.at_closed n) = awaiting t await.ClosingName
led_to t (machine.at_scalar c machine.any_value) = state_with t await.Value (nest_in c) t.kind t.op
led_to t (machine.at_scalar c machine.no_else) = state_with t await.Member (nest_in c) t.kind t.op
led_to t (machine.at_scalar c machine.a_row) = state_with t await.FirstMember (nest_in c) t.kind t.op
led_to t (machine.at_scalar c machine.a_set_end) = state_with t await.FirstOfSet (nest_in c) t.kind t.op
led_to t (machine.at_number c) = awaiting t await.AfterNumber
led_to t (machine.at_member machine.in_sequence) = awaiting t await.InSequence
led_to t (machine.at_member machine.in_row) = awaiting t await.InRow
led_to t (machine.at_member machine.in_set) = awaiting t await.InSet
led_to t machine.at_row = awaiting t await.AfterRow
led_to t machine.at_next_row = awaiting t await.NextRow
led_to t (machine.at_unit c o) = state_with t await.UnitName t.nest t.kind (op_back o)
led_to t (machine.at_power c o p) = named (awaiting t await.AfterUnit) p.from p.upto
led_to t (machine.at_exponent c o p) = awaiting t await.Exponent
led_to t (machine.at_factor c) = awaiting t await.AfterExponent
led_to t machine.at_end = awaiting t await.Ended

-- ---- the open blocks

-- whether as many are open as may be: outside all blocks none is, whatever `full` holds, so every state sees some blocks
abbrev pub full_in : Option kind.Kind → Bool → Bool
full_in None full = false
full_in (Some k) full = full

abbrev pub is_full : State → Bool
is_full t = full_in t.top t.full

-- what the state knows of them
pub record Sees (t : State) (bs : List Block) : Type 0 where
  pub top : t.top ≡ top_of bs
  pub full : is_full t ≡ leb deepest (many bs)

-- while a block is being opened there is room for it
abbrev pub room_in : Awaited → Bool → Type 0
room_in await.BlockEquals full = full ≡ false
room_in await.BlockName full = full ≡ false
room_in await.Statement full = Unit {0}
room_in await.Equals full = Unit {0}
room_in await.Pointer full = Unit {0}
room_in await.Closed full = Unit {0}
room_in await.ClosingName full = Unit {0}
room_in await.Value full = Unit {0}
room_in await.Member full = Unit {0}
room_in await.FirstMember full = Unit {0}
room_in await.FirstOfSet full = Unit {0}
room_in await.AfterNumber full = Unit {0}
room_in await.InSequence full = Unit {0}
room_in await.InRow full = Unit {0}
room_in await.InSet full = Unit {0}
room_in await.UnitName full = Unit {0}
room_in await.AfterUnit full = Unit {0}
room_in await.Exponent full = Unit {0}
room_in await.AfterExponent full = Unit {0}
room_in await.AfterRow full = Unit {0}
room_in await.NextRow full = Unit {0}
room_in await.Ended full = Unit {0}

abbrev pub Room : State → Type 0
Room t = room_in t.awaited (is_full t)
