-- The order of rows as the code has it, in terms of the rules' machine over rows. Terms of private contracts.
use Rattle.std.specs.Prelude.{ℕ, ◌≤◌, Bool, cond, ◌≡◌, List, [], ◌∷◌, eqb, Option, Some, None}
use Rattle.rules.specs.Data as rule
use Rattle.rules.specs.Table.{open_kind, close_kind}
use Rattle.rules.proofs.Machine.Rows.{Sort, s_attribute, s_pointer, s_opened, s_closed, s_number, s_other, s_unit_first, s_unit_more}
use Rattle.rules.proofs.Machine.Rows.{s_sequence, s_sequence_end, s_set, s_set_end, s_last, Kinds, To, to_none, to, Await, t_value, t_first}
use Rattle.rules.proofs.Machine.Rows.{t_set_first, t_in_row, t_row, t_end, t_number, t_units, t_after}
use Rattle.rows.specs.Rows.{kind_of, place_in, deepest}
use Rattle.rows.specs.declared.Kind.TheVariants as kinds
use Rattle.blocks.specs.Stack.{Block, block, blocks_of, push_on, pop_off}
use Rattle.blocks.specs.declared.Blocks.{Blocks}
use Rattle.rows.specs.declared.Kind as kind
use Rattle.rows.specs.declared.Kind.TheVariants as kinds
use Rattle.rows.specs.declared.Nest as nest
use Rattle.rows.specs.declared.Nest.TheVariants.{Alone, Sequence, Row, Set}
use Rattle.table.specs.declared.Await as code
use Rattle.table.specs.declared.Await.TheVariants.{After, Number, Units, Value, First, SetFirst, InRow, Rows, End}

-- ---- sorts of rows, as numbers

-- its kind, but one number for all numbers, one for all other scalars, and one for all units but the first
abbrev pub sort_code : Sort → ℕ
sort_code s_attribute = 1
sort_code s_pointer = 2
sort_code s_number = 10
sort_code s_other = 13
sort_code s_unit_first = 15
sort_code s_unit_more = 16
sort_code s_sequence = 20
sort_code s_sequence_end = 21
sort_code s_set = 22
sort_code s_set_end = 23
sort_code s_last = 99
sort_code (s_opened k) = open_kind k
sort_code (s_closed k) = close_kind k

-- ---- what is awaited

-- what the machine awaits
abbrev pub await_of : code.Await → Await
await_of (After c) = t_after (place_in c)
await_of (Number c) = t_number (place_in c)
await_of (Units c) = t_units (place_in c)
await_of Value = t_value
await_of First = t_first
await_of SetFirst = t_set_first
await_of InRow = t_in_row
await_of Rows = t_row
await_of End = t_end

-- ---- the open blocks: their kinds

-- of a list of blocks
abbrev pub kinds_in : List Block → Kinds
kinds_in [] = []
kinds_in (block k a b ∷ bs) = kind_of k ∷ kinds_in bs

-- of the arrays
abbrev pub kinds_of : Blocks → Kinds
kinds_of b = kinds_in (blocks_of b)

-- without the innermost
abbrev pub less : Kinds → Kinds
less [] = []
less (k ∷ o) = o

-- what is left open after a row of this sort
abbrev pub opens_after : ℕ → Kinds → Kinds
opens_after n o = cond (eqb n 3) (rule.object ∷ o) (cond (eqb n 5) (rule.group ∷ o) (cond (eqb n 4) (less o) (cond (eqb n 6) (less o) o)))

-- the same of the arrays; no name's place is kept
abbrev pub nested_on : ℕ → Blocks → Blocks
nested_on n b =
    cond (eqb n 3) (push_on b kinds.Object 0 0) (cond (eqb n 5) (push_on b kinds.Group 0 0)
    (cond (eqb n 4) (pop_off b) (cond (eqb n 6) (pop_off b) b)))

-- the arrays after a row of this sort
pub record Nesting (n : ℕ) (b r : Blocks) : Type 0 where
  pub on : r ≡ nested_on n b
  pub is : kinds_of r ≡ opens_after n (kinds_of b)
  pub within : r.depth ≤ deepest

-- ---- a row's sort and what is then awaited

-- after a row that opens a block, by whether there is no room for it
abbrev pub opened_to : Bool → Option code.Await
opened_to full = cond full None (Some (After Alone))

-- after a row that closes the innermost block, or the last row
abbrev pub closing_to : ℕ → Option kind.Kind → Option code.Await
closing_to n None = cond (eqb n 99) (Some End) None
closing_to n (Some k) = cond (eqb n (close_kind (kind_of k))) (Some (After Alone)) None

-- where a statement is awaited
abbrev pub statement_to : ℕ → Option kind.Kind → Bool → Option code.Await
statement_to n top full =
    cond (eqb n 1) (Some Value) (cond (eqb n 2) (Some Value) (cond (eqb n 3) (opened_to full) (cond (eqb n 5) (opened_to full) (closing_to n top))))

-- where a scalar is awaited
abbrev pub scalar_to : ℕ → nest.Nest → Option code.Await
scalar_to n c = cond (eqb n 10) (Some (Number c)) (cond (eqb n 13) (Some (After c)) None)

-- where a scalar is awaited, or the row of this sort
abbrev pub member_to : ℕ → nest.Nest → ℕ → code.Await → Option code.Await
member_to n c e t = cond (eqb n e) (Some t) (scalar_to n c)

-- after a value
abbrev pub after_to : ℕ → nest.Nest → Option kind.Kind → Bool → Option code.Await
after_to n Alone top full = statement_to n top full
after_to n Sequence top full = member_to n Sequence 21 (After Alone)
after_to n Row top full = member_to n Row 21 Rows
after_to n Set top full = member_to n Set 23 (After Alone)

-- where a value is awaited
abbrev pub value_to : ℕ → Option code.Await
value_to n = cond (eqb n 20) (Some First) (cond (eqb n 22) (Some SetFirst) (scalar_to n Alone))

-- between the rows of a sequence of sequences
abbrev pub sequences_to : ℕ → Option code.Await
sequences_to n = cond (eqb n 20) (Some InRow) (cond (eqb n 21) (Some (After Alone)) None)

-- where any of these is awaited
abbrev pub next_of : code.Await → ℕ → Option kind.Kind → Bool → Option code.Await
next_of (After c) n top full = after_to n c top full
next_of (Number c) n top full = cond (eqb n 15) (Some (Units c)) (after_to n c top full)
next_of (Units c) n top full = cond (eqb n 16) (Some (Units c)) (after_to n c top full)
next_of Value n top full = value_to n
next_of First n top full = member_to n Sequence 20 InRow
next_of SetFirst n top full = member_to n Set 23 (After Alone)
next_of InRow n top full = scalar_to n Row
next_of Rows n top full = sequences_to n
next_of End n top full = None

-- the machine's answer, with the blocks that are then open
abbrev pub to_with : Kinds → Option code.Await → To
to_with o None = to_none
to_with o (Some t) = to (await_of t) o

abbrev pub to_of : Kinds → ℕ → Option code.Await → To
to_of o n t = to_with (opens_after n o) t
