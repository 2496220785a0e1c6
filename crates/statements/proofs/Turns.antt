-- A step, and its effect seen to: what the machine's step gives, in the state and the blocks after it.
use mathlib.Core.Path.{◌≡◌, refl, sym, ap, ap₂, ◌∙◌, subst}
use mathlib.Core.Bool.{true, false}
use mathlib.Core.List.{List, [], ◌∷◌, append-nil}
use Prim.Native.Nat.{ℕ, ◌+◌, ◌<◌, ◌≤◌}
use native.Mathlib.Omega.{arith}
use lib.Dec.{leb}
use lib.ListN.{take-append-drop}
use borrow.Author.Tests.{leb-false}
use Rattle.std.specs.Prelude.{Option, None, Some, Result, Ok, Err}
use Rattle.rules.specs.Modes.{base}
use Rattle.rules.specs.Grammar.{strict}
use Rattle.rules.specs.Table.{encode, table}
use Rattle.rules.proofs.Machine.Statements as machine
use Rattle.rules.proofs.Machine.Statements.{is_end}
use Rattle.elements.specs.Next.{placed_of}
use Rattle.elements.specs.declared.Element.{Element}
use Rattle.elements.specs.declared.Element.TheVariants.{Name}
use Rattle.rows.specs.Rows.{deepest, row_of}
use Rattle.rows.specs.declared.Kind.{Kind}
use Rattle.rows.specs.declared.Row.{Row}
use Rattle.rows.specs.declared.Row.TheVariants as rows
use Rattle.rows.specs.declared.Kind as kind
use Rattle.rows.specs.declared.Kind.TheVariants as kinds
use Rattle.steps.specs.States.{closing, state_of, full_in, is_full, first_state}
use Rattle.steps.specs.Steps.{Given, nothing, one_row, number_of, row_given, rows_of, Effect, stays, opens, closes, ends, row_effect, effect, answer_by, answer_of, Settles, Does}
use Rattle.blocks.specs.Stack.{Block, block, rest, many, top_of, blocks_of, push_on, pop_off, opens_of}
use Rattle.statements.specs.Opened.{seeing, Sound}
use Rattle.statements.specs.Passes.{Added}
use Rattle.steps.specs.declared.Awaited.TheVariants as await
use Rattle.steps.specs.declared.Misfit.{Misfit}
use Rattle.steps.specs.declared.State.{State}
use Rattle.steps.specs.declared.Stepped.{Stepped}
use Rattle.blocks.specs.declared.Blocks.{Blocks}
use Rattle.blocks.proofs.Opened.{counted, no_top}

-- ---- rows that leave the blocks alone

plain_row : (w : Row) → ((k : ℕ) → w ≡ rows.Last k → ⊥) → ((k : Kind) (a b : ℕ) → w ≡ rows.Open k a b → ⊥) → ((k : Kind) → w ≡ rows.Close k → ⊥) → row_effect w ≡ stays
plain_row (rows.Attribute a b) h i j = refl
plain_row (rows.Pointer a b) h i j = refl
plain_row (rows.Open k a b) h i j = absurd (i k a b refl)
plain_row (rows.Close k) h i j = absurd (j k refl)
plain_row (rows.Integer m n) h i j = refl
plain_row (rows.Float x) h i j = refl
plain_row (rows.Time x) h i j = refl
plain_row (rows.Text a b) h i j = refl
plain_row (rows.Symbol a b) h i j = refl
plain_row (rows.Unit p a b m n) h i j = refl
plain_row rows.Sequence h i j = refl
plain_row rows.SequenceEnd h i j = refl
plain_row rows.Set h i j = refl
plain_row rows.SetEnd h i j = refl
plain_row (rows.Last a) h i j = absurd (h a refl)

-- ---- what a step gives, by its row

gives_nothing : {o : Option Row} → o ≡ None → row_given o ≡ nothing
gives_nothing h = ap row_given h

gives_row : {o : Option Row} {v u : Row} → o ≡ Some v → v ≡ u → row_given o ≡ one_row u
gives_row h k = ap row_given h ∙ ap one_row k

pub stepped : {label : List ℕ} {t : State} {q : machine.State} {e : Element} {r : Result Stepped Misfit} {w : Stepped} → Does label t q e r → r ≡ Ok w → Does label t q e (Ok w)
stepped {label} {t} {q} {e} d h = subst (λ (x : Result Stepped Misfit). Does label t q e x) h d

-- ---- what is seen of the blocks is no part of the machine's state

seen_open : (label : List ℕ) (bs : List Block) (t : State) → t.awaited ≡ await.Statement → state_of label (seeing bs t) ≡ state_of label t
seen_open label bs t h = rw h

seen_closed : (label : List ℕ) (bs : List Block) (t : State) → t.awaited ≡ await.Closed → state_of label (seeing bs t) ≡ state_of label t
seen_closed label bs t h = rw h

same_awaited : (bs : List Block) (t : State) → (closing bs t).awaited ≡ t.awaited
same_awaited [] t = refl
same_awaited (block k a b ∷ bs) t = refl

none_open : (bs : List Block) → top_of bs ≡ None → bs ≡ []
none_open [] h = refl
none_open (block kinds.Object a b ∷ bs) h = absurd (let z : ◌≡◌ {A = ℕ} 0 1 = cc in omega arith)
none_open (block kinds.Group a b ∷ bs) h = absurd (let z : ◌≡◌ {A = ℕ} 0 1 = cc in omega arith)

full_seen : (bs : List Block) → full_in (top_of bs) (leb deepest (many bs)) ≡ leb deepest (many bs)
full_seen [] = refl
full_seen (block kinds.Object a b ∷ bs) = refl
full_seen (block kinds.Group a b ∷ bs) = refl

-- ---- a turn

-- from the state t and the blocks b over e to t' and b', with what this gives
pub record Moves (label : List ℕ) (t : State) (b : Blocks) (e : Element) (g : Given) (t' : State) (b' : Blocks) : Type 0 where
  pub moves : machine.step base strict (state_of label t) (opens_of label (blocks_of b)) (placed_of label e) ≡ machine.goes (state_of label t') (opens_of label (blocks_of b')) (rows_of g)
  pub sound : Sound t' b'
  pub going : is_end (state_of label t') ≡ false

module _ {label : List ℕ} {t : State} {e : Element} {w : Stepped} where
  settled : {v : Given} → Does label t (state_of label t) e (Ok w) → row_given w.row ≡ v → Settles label t e w.state (effect v)
  settled d h = subst (λ (x : Given). Settles label t e w.state (effect x)) h d.leaves.settles

  pub last_state : {v : Row} {a : ℕ} → Does label t (state_of label t) e (Ok w) → w.row ≡ Some v → v ≡ rows.Last a → is_end (state_of label w.state) ≡ true
  last_state d h k = let z : Settles label t e w.state ends = settled d (gives_row h k) in rw z.0

module _ {label : List ℕ} {t : State} {b : Blocks} {e : Element} {w : Stepped} where
  says : {v : Given} → Does label t (state_of label t) e (Ok w) → Sound t b → row_given w.row ≡ v →
      machine.step base strict (state_of label t) (opens_of label (blocks_of b)) (placed_of label e) ≡ answer_of label (blocks_of b) w.state v
  says d s h = sym (d.does (blocks_of b) s.sees) ∙ ap (λ (x : Given). answer_of label (blocks_of b) w.state x) h

  still : Does label t (state_of label t) e (Ok w) → Sound t b → w.state.top ≡ t.top → w.state.full ≡ t.full → Sound w.state b
  still d s h k = record {
    sees = record { top = h ∙ s.sees.top; full = ap₂ full_in h k ∙ s.sees.full };
    room = d.leaves.room s.room;
    within = s.within;
  }

  -- a block that is opened finds room, and is opened by the element's own name
  pub may_push : {v : Row} {k : kind.Kind} {x y : ℕ} → Does label t (state_of label t) e (Ok w) → Sound t b → w.row ≡ Some v → v ≡ rows.Open k x y → (b.depth < deepest) × (e ≡ Name x y)
  may_push {k = k} {x} {y} d s g h =
      let z : Settles label t e w.state (opens k x y) = settled d (gives_row g h) in
      let f : is_full t ≡ false = z.1 s.room in
      (omega (arith, leb-false deepest (many (blocks_of b)) (sym s.sees.full ∙ f), counted b.starts b.ends b.kinds b.depth), z.0)

  pub turn_open : {v : Row} {k : kind.Kind} {x y : ℕ} {more : Blocks} {t' : State} → Does label t (state_of label t) e (Ok w) → Sound t b → w.row ≡ Some v → v ≡ rows.Open k x y →
      (blocks_of more ≡ block k x y ∷ blocks_of b) × (more.depth ≡ b.depth + 1) × (more ≡ push_on b k x y) → t' ≡ seeing (blocks_of more) w.state → Moves label t b e (row_given w.row) t' more
  turn_open {k = k} {x} {y} {more} d s g h p u =
      let i : row_given w.row ≡ one_row (rows.Open k x y) = gives_row g h in
      let z : Settles label t e w.state (opens k x y) = settled d i in
      let m : w.state.awaited ≡ await.Statement = ap (λ (q : State). q.awaited) z.2 in
      rw u (record {
        moves = says d s i
            ∙ ap (λ (r : Given). machine.goes (state_of label w.state) (opens_of label (block k x y ∷ blocks_of b)) (rows_of r)) (sym i)
            ∙ ap (λ (bs : List Block). machine.goes (state_of label w.state) (opens_of label bs) (rows_of (row_given w.row))) (sym p.0)
            ∙ ap (λ (q : machine.State). machine.goes q (opens_of label (blocks_of more)) (rows_of (row_given w.row))) (sym (seen_open label (blocks_of more) w.state m));
        sound = record { sees = record { top = refl; full = full_seen (blocks_of more) }; room = rw m tt; within = omega (arith, p.1, (may_push d s g h).0) };
        going = rw m;
      })

  pub turn_close : {v : Row} {k : kind.Kind} {fewer : Blocks} {t₁ t' : State} → Does label t (state_of label t) e (Ok w) → Sound t b → w.row ≡ Some v → v ≡ rows.Close k →
      t₁ ≡ closing (blocks_of b) w.state → (blocks_of fewer ≡ rest (blocks_of b)) × (fewer.depth ≤ b.depth) × (fewer ≡ pop_off b) → t' ≡ seeing (blocks_of fewer) t₁ → Moves label t b e (row_given w.row) t' fewer
  turn_close {k = k} {fewer} d s g h n p u =
      let i : row_given w.row ≡ one_row (rows.Close k) = gives_row g h in
      let q : Settles label t e w.state closes = settled d i in
      let z : w.state.awaited ≡ await.Closed = ap (λ (x : State). x.awaited) q in
      let y : (closing (blocks_of b) w.state).awaited ≡ await.Closed = same_awaited (blocks_of b) w.state ∙ z in
      rw (u, n) (record {
        moves = says d s i
            ∙ ap (λ (r : Given). machine.goes (state_of label (closing (blocks_of b) w.state)) (opens_of label (rest (blocks_of b))) (rows_of r)) (sym i)
            ∙ ap (λ (bs : List Block). machine.goes (state_of label (closing (blocks_of b) w.state)) (opens_of label bs) (rows_of (row_given w.row))) (sym p.0)
            ∙ ap (λ (q : machine.State). machine.goes q (opens_of label (blocks_of fewer)) (rows_of (row_given w.row))) (sym (seen_closed label (blocks_of fewer) (closing (blocks_of b) w.state) y));
        sound = record { sees = record { top = refl; full = full_seen (blocks_of fewer) }; room = rw y tt; within = omega (arith, p.1, s.within) };
        going = rw y;
      })

  turn_plain : Does label t (state_of label t) e (Ok w) → Sound t b → effect (row_given w.row) ≡ stays → Moves label t b e (row_given w.row) w.state b
  turn_plain d s f =
      let q : Settles label t e w.state stays = subst (λ (x : Effect). Settles label t e w.state x) f d.leaves.settles in
      record {
        moves = sym (d.does (blocks_of b) s.sees) ∙ ap (λ (x : Effect). answer_by label (blocks_of b) w.state (rows_of (row_given w.row)) x) f;
        sound = still d s q.1 q.2;
        going = q.0;
      }

  pub turn_nothing : Does label t (state_of label t) e (Ok w) → Sound t b → w.row ≡ None → Moves label t b e (row_given w.row) w.state b
  turn_nothing d s g = turn_plain d s (ap effect (gives_nothing g))

  pub turn_row : {v : Row} → Does label t (state_of label t) e (Ok w) → Sound t b → w.row ≡ Some v → ((k : ℕ) → v ≡ rows.Last k → ⊥) → ((k : Kind) (a b : ℕ) → v ≡ rows.Open k a b → ⊥) → ((k : Kind) → v ≡ rows.Close k → ⊥) → Moves label t b e (row_given w.row) w.state b
  turn_row {v} d s g h i j = turn_plain d s (ap effect (gives_row g refl) ∙ plain_row v h i j)

  -- the last row: END, outside all blocks
  pub turn_last : {v : Row} {a : ℕ} → Does label t (state_of label t) e (Ok w) → Sound t b → w.row ≡ Some v → v ≡ rows.Last a →
      machine.step base strict (state_of label t) (opens_of label (blocks_of b)) (placed_of label e) ≡ machine.goes (state_of label w.state) (opens_of label (blocks_of b)) (rows_of (row_given w.row))
  turn_last d s g h =
      let i = gives_row g h in
      says d s i ∙ ap (λ (r : Given). machine.goes (state_of label w.state) (opens_of label (blocks_of b)) (rows_of r)) (sym i)

-- a refusal
pub turn_stop : {label : List ℕ} {t : State} {b : Blocks} {e : Element} {r : Result Stepped Misfit} {m : Misfit} → Does label t (state_of label t) e r → Sound t b → r ≡ Err m →
    machine.step base strict (state_of label t) (opens_of label (blocks_of b)) (placed_of label e) ≡ machine.refuses (number_of m)
turn_stop {label} {t} {b} {e} {m = m} d s h = sym ((subst (λ (x : Result Stepped Misfit). Does label t (state_of label t) e x) h d).does (blocks_of b) s.sees)

-- what is added to the table where a step gives a row, and where it gives none
module _ (o : Option Row) where
  pub adds_row : {before after : List ℕ} {n r : ℕ} {v : Row} → o ≡ Some v → Added (encode (row_of v)) n before after r → Added (table (rows_of (row_given o))) n before after r
  adds_row {before} {after} {n} {r} {v} g a =
      subst (λ (x : List ℕ). Added x n before after r) (sym (ap (λ (x : Given). table (rows_of x)) (gives_row g refl) ∙ append-nil (encode (row_of v)))) a

  pub nothing_added : (before : List ℕ) (n : ℕ) → o ≡ None → Added (table (rows_of (row_given o))) n before before n
  nothing_added before n h =
      let i : n + 0 ≡ n = omega arith in
      rw h (record { next = sym i; small = omega arith; long = refl; front = refl; bytes = λ z. rw i (sym (take-append-drop n before)) })

-- no block is open at the start
pub sound_start : (t : State) (b : Blocks) → t ≡ first_state → b.depth ≡ 0 → Sound t b
sound_start t b g z =
    rw g (record {
      sees = record { top = no_top b.starts b.ends b.kinds b.depth z; full = sym (rw (counted b.starts b.ends b.kinds b.depth, z)) };
      room = tt;
      within = omega arith;
    })
