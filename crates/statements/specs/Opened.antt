-- What the state holds of the open blocks.
use Rattle.std.specs.Prelude.{◌≤◌, List, leb}
use Rattle.rows.specs.Rows.{deepest}
use Rattle.steps.specs.States.{Sees, Room}
use Rattle.blocks.specs.Stack.{Block, many, top_of, blocks_of}
use Rattle.steps.specs.declared.State.{State}
use Rattle.blocks.specs.declared.Blocks.{Blocks}

-- the state that sees these blocks
abbrev pub seeing : List Block → State → State
seeing bs t =
    record {
      awaited = t.awaited;
      nest = t.nest;
      kind = t.kind;
      op = t.op;
      top = top_of bs;
      full = leb deepest (many bs);
      from = t.from;
      upto = t.upto;
    }

-- what a reading keeps up from element to element
pub record Sound (t : State) (b : Blocks) : Type 0 where
  pub sees : Sees t (blocks_of b)
  pub room : Room t
  pub within : b.depth ≤ deepest
