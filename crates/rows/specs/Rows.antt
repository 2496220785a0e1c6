-- The row of the rules that a row of the code stands for, and what a writing into lent room leaves there.
use Rattle.std.specs.Prelude.{ℕ, ◌≡◌, List, ◌++◌, length, drop}
use Rattle.rules.specs.Data as rule
use Rattle.rules.proofs.Machine.Statements as machine
use Rattle.classes.specs.Places.{as_span}
use Rattle.words.specs.Says.{whole, real_of, moment_of}
use Rattle.rows.specs.declared.Kind as kind
use Rattle.rows.specs.declared.Kind.TheVariants as kinds
use Rattle.rows.specs.declared.Op as op
use Rattle.rows.specs.declared.Op.TheVariants as ops
use Rattle.rows.specs.declared.Nest as nest
use Rattle.rows.specs.declared.Nest.TheVariants as nests
use Rattle.rows.specs.declared.Row.{Row}
use Rattle.rows.specs.declared.Row.TheVariants as rows

abbrev pub kind_of : kind.Kind → rule.Kind
kind_of kinds.Object = rule.object
kind_of kinds.Group = rule.group

abbrev pub op_of : op.Op → rule.Op
op_of ops.First = rule.first
op_of ops.Times = rule.times
op_of ops.Divided = rule.divided

-- the machine's place of a scalar
abbrev pub place_in : nest.Nest → machine.Place
place_in nests.Alone = machine.alone
place_in nests.Sequence = machine.within machine.in_sequence
place_in nests.Row = machine.within machine.in_row
place_in nests.Set = machine.within machine.in_set

-- the row that it is in the rules
abbrev pub row_of : Row → rule.Row
row_of (rows.Attribute a b) = rule.attribute (as_span a b)
row_of (rows.Pointer a b) = rule.pointer (as_span a b)
row_of (rows.Open k a b) = rule.opened (kind_of k) (as_span a b)
row_of (rows.Close k) = rule.closed (kind_of k)
row_of (rows.Integer m n) = rule.an_integer (whole m n)
row_of (rows.Float x) = rule.a_real (real_of x)
row_of (rows.Time x) = rule.a_moment (moment_of x)
row_of (rows.Text a b) = rule.a_text (as_span a b)
row_of (rows.Symbol a b) = rule.a_symbol (as_span a b)
row_of (rows.Unit p a b m n) = rule.a_unit (op_of p) (as_span a b) (whole m n)
row_of rows.Sequence = rule.sequence
row_of rows.SequenceEnd = rule.sequence_end
row_of rows.Set = rule.set
row_of rows.SetEnd = rule.set_end
row_of (rows.Last a) = rule.last a

-- how many blocks may be open
abbrev pub deepest : ℕ
deepest = 80

-- how many bytes a row has at most
abbrev pub longest_row : ℕ
longest_row = 16

-- the room after is w over the room before, and n is w's length
pub record Wrote (w before after : List ℕ) (n : ℕ) : Type 0 where
  pub count : n ≡ length w
  pub bytes : after ≡ w ++ drop (length w) before
