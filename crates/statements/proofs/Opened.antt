-- What the state holds of the open blocks is true of the arrays.
use mathlib.Core.Path.{◌≡◌, refl}
use mathlib.Core.List.{List, [], ◌∷◌}
use Prim.Native.Nat.{ℕ}
use native.Mathlib.Omega.{arith}
use lib.Dec.{leb}
use borrow.Author.Rules.{rules}
use Rattle.rows.specs.Rows.{deepest}
use Rattle.blocks.specs.Stack.{Block, block, many, top_of, start_of, end_of, blocks_in}
use Rattle.std.specs.Prelude.{Option, None, Some}
use Rattle.rows.specs.declared.Kind as kind
use Rattle.blocks.proofs.Opened.{counted, nothing_open}
use Rattle.steps.specs.States.{named, closing}
use Rattle.steps.specs.declared.State.{State}
use Rattle.statements.specs.Opened.{seeing}

pub no_closing : (s e k : List ℕ) (d : ℕ) (t : State) → d ≡ 0 → t ≡ closing (blocks_in s e k d) t
no_closing s e k d t h = rw (nothing_open s e k d h)

by_name : (bs : List Block) (x y : ℕ) (t : State) → x ≡ start_of bs → y ≡ end_of bs → (many bs ≡ 0 → ⊥) →
    named t x y ≡ closing bs t
by_name [] x y t p q h = absurd (h refl)
by_name (block k a b ∷ bs) x y t p q h = rw (p, q)

pub some_closing : (s e k : List ℕ) (d x y : ℕ) (t : State) → x ≡ start_of (blocks_in s e k d) → y ≡ end_of (blocks_in s e k d) → (d ≡ 0 → ⊥) →
    named t x y ≡ closing (blocks_in s e k d) t
some_closing s e k d x y t p q h = by_name (blocks_in s e k d) x y t p q (λ z. h (omega (arith, counted s e k d)))

pub seen : (s e k : List ℕ) (d : ℕ) (t : State) (u : Option kind.Kind) → u ≡ top_of (blocks_in s e k d) →
    record { awaited = t.awaited; nest = t.nest; kind = t.kind; op = t.op; top = u; full = leb deepest d; from = t.from; upto = t.upto } ≡ seeing (blocks_in s e k d) t
seen s e k d t u g = rw (g, counted s e k d)

pub ruleset stack = (no_closing, some_closing, seen, rules)
