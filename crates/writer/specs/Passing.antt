-- What one pass over the rows of a proper table writes. Terms of private contracts.
use Rattle.std.specs.Prelude.{ℕ, ◌+◌, ◌≤◌, ◌<◌, Bool, false, cond, ◌≡◌, List, [], ◌∷◌, ◌++◌, leb, length}
use Rattle.rules.specs.Data as rule
use Rattle.rules.specs.Reading.{longest}
use Rattle.rules.specs.Proper.{proper_rows, Ruled}
use Rattle.rules.specs.Meaning.{Sense, meaning}
use Rattle.rules.specs.Written.{Prior, start, prior, after, writes}
use Rattle.rows.specs.Rows.{deepest}
use Rattle.rows.specs.declared.Row.{Row}
use Rattle.rows.specs.declared.Row.TheVariants as rows
use Rattle.blocks.specs.Stack.{Block, block, rest, blocks_of}
use Rattle.blocks.specs.declared.Blocks.{Blocks}
use Rattle.output.specs.Puts.{Puts}

-- the blocks that are open after a row, where there is room for one more and its name lies in a label that is not too long
abbrev pub stack_after : List Block → Row → List Block
stack_after bs (rows.Attribute a b) = bs
stack_after bs (rows.Pointer a b) = bs
stack_after bs (rows.Open k a b) = block k a b ∷ bs
stack_after bs (rows.Close k) = rest bs
stack_after bs (rows.Integer m n) = bs
stack_after bs (rows.Float x) = bs
stack_after bs (rows.Time t) = bs
stack_after bs (rows.Text a b) = bs
stack_after bs (rows.Symbol a b) = bs
stack_after bs (rows.Unit o a b m n) = bs
stack_after bs rows.Sequence = bs
stack_after bs rows.SequenceEnd = bs
stack_after bs rows.Set = bs
stack_after bs rows.SetEnd = bs
stack_after bs (rows.Last n) = bs

-- there is room for the block that a row opens
pub record RoomToOpen (b : Blocks) (row : Row) : Type 0 where
  pub room : (k : _) (x y : ℕ) → row ≡ rows.Open k x y → (b.depth < deepest) × (x ≤ longest) × (y ≤ longest)

-- the open blocks in arrays after a row
pub record BlocksAfter (b : Blocks) (row : Row) (r : Blocks) : Type 0 where
  pub deep : r.depth ≤ deepest
  pub is : RoomToOpen b row → blocks_of r ≡ stack_after (blocks_of b) row

-- a row that neither opens nor closes a block leaves the open ones as they are
pub record Nests (row : Row) (r : Bool) : Type 0 where
  pub still : r ≡ false → (bs : List Block) → stack_after bs row ≡ bs

-- what a pass writes of these rows after so many bytes: each up to the one that takes the count over 65,535, or all and the last line's end
abbrev pub passing : ℕ → Prior → rule.Opens → List Sense → List ℕ
passing n q o [] = 13 ∷ 10 ∷ []
passing n q o (r ∷ rs) =
    writes q o r
    ++ cond (leb (n + length (writes q o r)) longest) (passing (n + length (writes q o r)) (prior r) (after o r) rs) []

-- what a pass over a proper table writes into a room
pub record PassWrites (label lent before after : List ℕ) (n : ℕ) : Type 0 where
  pub rows : List rule.Row
  pub proper : Ruled label lent (proper_rows rows)
  pub written : Puts (passing 0 start rule.outside (meaning label rows)) before after n
