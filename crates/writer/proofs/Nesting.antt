-- The blocks that are open after a row, as the code keeps them.
use Prim.Native.Nat.{ℕ, ◌+◌, ◌≤◌, ◌<◌}
use native.Mathlib.Omega.{arith}
use mathlib.Core.Path.{◌≡◌, refl, sym, ap, ◌∙◌}
use mathlib.Core.Bool.{Bool, true, false, not}
use mathlib.Core.List.{List, ◌∷◌}
use Rattle.rules.specs.Reading.{longest}
use Rattle.rows.specs.declared.Kind.{Kind}
use Rattle.rows.specs.declared.Row.{Row}
use Rattle.rows.specs.declared.Row.TheVariants as rows
use Rattle.blocks.specs.Stack.{Block, block, rest, blocks_of}
use Rattle.blocks.specs.declared.Blocks.{Blocks}
use Rattle.writer.specs.Passing.{stack_after, BlocksAfter, Nests}
use Rattle.rows.specs.Rows.{deepest}

-- an opening that there is no room for
none_there : (b : Blocks) (w : Row) (k : Kind) (x y : ℕ) → w ≡ rows.Open k x y → b.depth ≤ deepest → ((b.depth < deepest) × (x ≤ longest) × (y ≤ longest) → ⊥) → BlocksAfter b w b
none_there b w k x y e d n = record { deep = d; is = λ o. absurd (n (o.room k x y e)) }

pub full : (b : Blocks) (w : Row) (k : Kind) (x y : ℕ) → w ≡ rows.Open k x y → b.depth ≤ deepest → deepest ≤ b.depth → BlocksAfter b w b
full b w k x y e d h = none_there b w k x y e d (λ o. omega (arith, o.0))

pub far_start : (b : Blocks) (w : Row) (k : Kind) (x y : ℕ) → w ≡ rows.Open k x y → b.depth ≤ deepest → longest < x → BlocksAfter b w b
far_start b w k x y e d h = none_there b w k x y e d (λ o. omega (arith, o.1))

pub far_end : (b : Blocks) (w : Row) (k : Kind) (x y : ℕ) → w ≡ rows.Open k x y → b.depth ≤ deepest → longest < y → BlocksAfter b w b
far_end b w k x y e d h = none_there b w k x y e d (λ o. omega (arith, o.2))

pub pushes : (b r : Blocks) (w : Row) (k : Kind) (x y : ℕ) → w ≡ rows.Open k x y → b.depth < deepest → (blocks_of r ≡ block k x y ∷ blocks_of b) × (r.depth ≡ b.depth + 1) → BlocksAfter b w r
pushes b r w k x y e d h = record { deep = omega (arith, h.1); is = λ o. h.0 ∙ ap (stack_after (blocks_of b)) (sym e) }

pub pops : (b r : Blocks) (w : Row) (k : Kind) → w ≡ rows.Close k → b.depth ≤ deepest → (blocks_of r ≡ rest (blocks_of b)) × (r.depth ≤ b.depth) → BlocksAfter b w r
pops b r w k e d h = record { deep = omega (arith, h.1); is = λ o. h.0 ∙ ap (stack_after (blocks_of b)) (sym e) }

-- any other row leaves the open blocks as they are
unmoved : (w : Row) → ((k : Kind) (x y : ℕ) → w ≡ rows.Open k x y → ⊥) → ((k : Kind) → w ≡ rows.Close k → ⊥) → (bs : List Block) → stack_after bs w ≡ bs
unmoved (rows.Attribute x y) h i bs = refl
unmoved (rows.Pointer x y) h i bs = refl
unmoved (rows.Open k x y) h i bs = absurd (h k x y refl)
unmoved (rows.Close k) h i bs = absurd (i k refl)
unmoved (rows.Integer m n) h i bs = refl
unmoved (rows.Float x) h i bs = refl
unmoved (rows.Time t) h i bs = refl
unmoved (rows.Text x y) h i bs = refl
unmoved (rows.Symbol x y) h i bs = refl
unmoved (rows.Unit o x y m n) h i bs = refl
unmoved rows.Sequence h i bs = refl
unmoved rows.SequenceEnd h i bs = refl
unmoved rows.Set h i bs = refl
unmoved rows.SetEnd h i bs = refl
unmoved (rows.Last n) h i bs = refl

pub others : (b : Blocks) (w : Row) → b.depth ≤ deepest → ((k : Kind) (x y : ℕ) → w ≡ rows.Open k x y → ⊥) → ((k : Kind) → w ≡ rows.Close k → ⊥) → BlocksAfter b w b
others b w d h i = record { deep = d; is = λ o. sym (unmoved w h i (blocks_of b)) }

-- whether there is a block to open or close

no : (r : Bool) → not r ≡ true → r ≡ false
no true e = sym e
no false e = refl

pub not_nested : {b : Blocks} {w : Row} {r : Bool} → b.depth ≤ deepest → Nests w r → not r ≡ true → BlocksAfter b w b
not_nested {b} {r = r} d n e = record { deep = d; is = λ o. sym (n.still (no r e) (blocks_of b)) }
