-- The open blocks as a list, the innermost first: kind, start and end of the name. Terms of private contracts.
use Rattle.std.specs.Prelude.{ℕ, zero, suc, ◌+◌, ◌-◌, cond, Option, None, Some, List, [], ◌∷◌, eqb, get_or, set, replicate}
use Rattle.rules.specs.Data as rule
use Rattle.rules.specs.Table.{open_kind}
use Rattle.classes.specs.Places.{name_at}
use Rattle.rows.specs.Rows.{kind_of, deepest}
use Rattle.rows.specs.declared.Kind as kind
use Rattle.rows.specs.declared.Kind.TheVariants as kinds
use Rattle.blocks.specs.declared.Blocks.{Blocks}

-- kind, start and end of the name
pub data Block : Type 0 where
  block : kind.Kind → ℕ → ℕ → Block

-- how many are open
abbrev pub many : List Block → ℕ
many [] = 0
many (b ∷ bs) = suc (many bs)

-- the kind of the innermost block, if any
abbrev pub top_of : List Block → Option kind.Kind
top_of [] = None
top_of (block k a b ∷ bs) = Some k

-- where its name starts, and 0 outside all blocks
abbrev pub start_of : List Block → ℕ
start_of [] = 0
start_of (block k a b ∷ bs) = a

-- where it ends
abbrev pub end_of : List Block → ℕ
end_of [] = 0
end_of (block k a b ∷ bs) = b

-- what is left open once the innermost block is closed
abbrev pub rest : List Block → List Block
rest [] = []
rest (b ∷ bs) = bs

-- in the rules' terms, with their names as the label's bytes show them
abbrev pub opens_of : List ℕ → List Block → rule.Opens
opens_of label [] = rule.outside
opens_of label (block k a b ∷ bs) = rule.inside (kind_of k) (name_at label a b) (opens_of label bs)

-- ---- in arrays

-- the kind that a number stands for
abbrev pub kind_at : ℕ → kind.Kind
kind_at n = cond (eqb n 5) kinds.Group kinds.Object

-- the blocks that the first d places of the arrays hold
unfoldable pub blocks_in : List ℕ → List ℕ → List ℕ → ℕ → List Block
blocks_in s e k zero = []
blocks_in s e k (suc d) = block (kind_at (get_or k d 0)) (get_or s d 0) (get_or e d 0) ∷ blocks_in s e k d

abbrev pub blocks_of : Blocks → List Block
blocks_of b = blocks_in b.starts b.ends b.kinds b.depth

-- what each function makes of the arrays, the places past the depth included

abbrev pub no_blocks : Blocks
no_blocks = record { starts = replicate deepest 0; ends = replicate deepest 0; kinds = replicate deepest 0; depth = 0 }

abbrev pub push_on : Blocks → kind.Kind → ℕ → ℕ → Blocks
push_on b k x y = record {
  starts = set b.starts b.depth x;
  ends = set b.ends b.depth y;
  kinds = set b.kinds b.depth (open_kind (kind_of k));
  depth = b.depth + 1;
}

abbrev pub pop_off : Blocks → Blocks
pop_off b = record { starts = b.starts; ends = b.ends; kinds = b.kinds; depth = b.depth - 1 }
