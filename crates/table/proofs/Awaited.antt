-- The order of rows: the code's answer is that of the rules' machine, sort by sort.
use Prim.Native.Nat.{ℕ, suc, ◌+◌, ◌≤◌, ◌<◌}
use native.Mathlib.Decide.{dec_lt}
use mathlib.Core.Bool.{Bool, true, false, cond}
use mathlib.Core.Path.{◌≡◌, refl, sym, ap, ap₂, ◌∙◌}
use mathlib.Core.List.{List, [], ◌∷◌}
use native.Mathlib.Omega.{arith}
use Rattle.std.specs.Prelude.{Option, Some, None}
use borrow.Author.Rules.{rules}
use borrow.Author.Tests.{eq-eqb, ne_eqb, le-leb, lt-leb}
use lib.Dec.{eqb, leb}
use lib.ListN.{length}
use Rattle.rules.specs.Data as rule
use Rattle.rules.proofs.Machine.Rows.{Sort, s_attribute, s_pointer, s_opened, s_closed, s_number, s_other, s_unit_first, s_unit_more, s_sequence, s_sequence_end, s_set, s_set_end, s_last, sort, t_statement, Kinds, to_none, to, look, after_lines, sort_step}
use Rattle.rules.proofs.Machine.Statements.{chosen}
use Rattle.rows.specs.Rows.{place_in, row_of, deepest}
use Rattle.rows.specs.declared.Kind.TheVariants as kinds
use Rattle.rows.specs.declared.Row.{Row}
use Rattle.blocks.specs.Stack.{Block, block, blocks_of, rest, many, top_of, push_on, pop_off}
use Rattle.blocks.specs.declared.Blocks.{Blocks}
use Rattle.rows.specs.declared.Kind as kind
use Rattle.blocks.proofs.Opened.{counted}
use Rattle.table.specs.Ordering.{sort_code, await_of, kinds_in, kinds_of, less, Nesting, opened_to, closing_to, after_to, next_of, to_with, to_of}
use Rattle.rows.specs.declared.Nest as nest
use Rattle.rows.specs.declared.Nest.TheVariants as nests
use Rattle.table.specs.declared.Await.{Await}
use Rattle.table.specs.declared.Await.TheVariants.{After, Number, Units, Value, First, SetFirst, InRow, Rows, End}

-- ---- the code's tests, one after another

pub taken : (n e : ℕ) (t x : Option Await) → n ≡ e → t ≡ cond (eqb n e) t x
taken n e t x h = rw (eq-eqb n e h)

pub passed : (n e : ℕ) (r t x : Option Await) → (n ≡ e → ⊥) → r ≡ x → r ≡ cond (eqb n e) t x
passed n e r t x h q = rw (ne_eqb n e h) q

pub taken_as : (n e : ℕ) (r t x : Option Await) → n ≡ e → r ≡ t → r ≡ cond (eqb n e) t x
taken_as n e r t x h q = rw (eq-eqb n e h) q

pub no_room : (f : Bool) → f ≡ true → None ≡ opened_to f
no_room f h = rw h

pub room : (f : Bool) → f ≡ false → Some (After nests.Alone) ≡ opened_to f
room f h = rw h

pub closing_is : (n : ℕ) (r : Option Await) {t v : Option kind.Kind} → t ≡ v → r ≡ closing_to n v → r ≡ closing_to n t
closing_is n r h e = rw h e

pub after_is : (n : ℕ) (r : Option Await) (top : Option kind.Kind) (full : Bool) {c d : nest.Nest} → c ≡ d → r ≡ after_to n d top full → r ≡ after_to n c top full
after_is n r top full h e = rw h e

pub next_is : (n : ℕ) (r : Option Await) (top : Option kind.Kind) (full : Bool) {t v : Await} → t ≡ v → r ≡ next_of v n top full → r ≡ next_of t n top full
next_is n r top full h e = rw h e

pub sort_is : {row w : Row} {n : ℕ} → row ≡ w → n ≡ sort_code (sort (row_of w)) → n ≡ sort_code (sort (row_of row))
sort_is h e = rw h e

-- ---- the blocks after a row

pub roomy : (n j d : ℕ) → n ≡ j → (n ≡ j → d < deepest) → d < deepest
roomy n j d h f = f h

module _ (n : ℕ) (b r : Blocks) where
  pub opens_object : n ≡ 3 → blocks_of r ≡ block kinds.Object 0 0 ∷ blocks_of b → r.depth ≡ b.depth + 1 → r ≡ push_on b kinds.Object 0 0 → (n ≡ 3 → b.depth < deepest) → Nesting n b r
  opens_object h e d o l = record { on = rw h o; is = rw (h, e); within = let z = l h in omega arith }

  pub opens_group : n ≡ 5 → blocks_of r ≡ block kinds.Group 0 0 ∷ blocks_of b → r.depth ≡ b.depth + 1 → r ≡ push_on b kinds.Group 0 0 → (n ≡ 5 → b.depth < deepest) → Nesting n b r
  opens_group h e d o l = record { on = rw h o; is = rw (h, e); within = let z = l h in omega arith }

  fewer : (bs : List Block) → kinds_in (rest bs) ≡ less (kinds_in bs)
  fewer [] = refl
  fewer (block k x y ∷ bs) = refl

  pub closes_object : n ≡ 4 → blocks_of r ≡ rest (blocks_of b) → r.depth ≤ b.depth → r ≡ pop_off b → b.depth ≤ deepest → Nesting n b r
  closes_object h e d o l = record { on = rw h o; is = ap kinds_in e ∙ rw h (fewer (blocks_of b)); within = omega arith }

  pub closes_group : n ≡ 6 → blocks_of r ≡ rest (blocks_of b) → r.depth ≤ b.depth → r ≡ pop_off b → b.depth ≤ deepest → Nesting n b r
  closes_group h e d o l = record { on = rw h o; is = ap kinds_in e ∙ rw h (fewer (blocks_of b)); within = omega arith }

pub opens_none : (n : ℕ) (b : Blocks) → (n ≡ 3 → ⊥) → (n ≡ 5 → ⊥) → (n ≡ 4 → ⊥) → (n ≡ 6 → ⊥) → b.depth ≤ deepest → Nesting n b b
opens_none n b h i j k l = record { on = rw (ne_eqb n 3 h, ne_eqb n 5 i, ne_eqb n 4 j, ne_eqb n 6 k); is = rw (ne_eqb n 3 h, ne_eqb n 5 i, ne_eqb n 4 j, ne_eqb n 6 k); within = l }

pub ruleset order = (taken, passed, taken_as, no_room, room, closing_is, after_is, next_is, sort_is, roomy, opens_object, opens_group, closes_object, closes_group, opens_none, rules)

-- ---- the machine

by_sort : (P : Sort → Type 0) → P s_attribute → P s_pointer → P (s_opened rule.object) → P (s_opened rule.group) → P (s_closed rule.object) → P (s_closed rule.group) → P s_number → P s_other →
    P s_unit_first → P s_unit_more → P s_sequence → P s_sequence_end → P s_set → P s_set_end → P s_last → (s : Sort) → P s
by_sort P a b c d e f g h i j k l m n o s_attribute = a
by_sort P a b c d e f g h i j k l m n o s_pointer = b
by_sort P a b c d e f g h i j k l m n o s_number = g
by_sort P a b c d e f g h i j k l m n o s_other = h
by_sort P a b c d e f g h i j k l m n o s_unit_first = i
by_sort P a b c d e f g h i j k l m n o s_unit_more = j
by_sort P a b c d e f g h i j k l m n o s_sequence = k
by_sort P a b c d e f g h i j k l m n o s_sequence_end = l
by_sort P a b c d e f g h i j k l m n o s_set = m
by_sort P a b c d e f g h i j k l m n o s_set_end = n
by_sort P a b c d e f g h i j k l m n o s_last = o
by_sort P a b c d e f g h i j k l m n o (s_opened rule.object) = c
by_sort P a b c d e f g h i j k l m n o (s_opened rule.group) = d
by_sort P a b c d e f g h i j k l m n o (s_closed rule.object) = e
by_sort P a b c d e f g h i j k l m n o (s_closed rule.group) = f

abbrev top_for : Kinds → Option kind.Kind
top_for [] = None
top_for (rule.object ∷ o) = (Some kinds.Object)
top_for (rule.group ∷ o) = (Some kinds.Group)

abbrev full : Kinds → Bool
full o = leb deepest (length o)

-- a block opens where there is room for it
opening : (n : ℕ) (o : Kinds) → chosen (dec_lt n deepest) (to t_statement o) to_none ≡ to_with o (opened_to (leb deepest n))
opening n o = go (dec_lt n deepest)
  where
    go : (d : Dec (n < deepest)) → chosen d (to t_statement o) to_none ≡ to_with o (opened_to (leb deepest n))
    go (yes h) = rw (lt-leb deepest n h)
    go (no h) = rw (le-leb deepest n (omega (arith, h)))

abbrev AfterLaw : nest.Nest → Kinds → Sort → Type 0
AfterLaw c o s = look (after_lines (place_in c) o) s ≡ to_of o (sort_code s) (after_to (sort_code s) c (top_for o) (full o))

after_law : (c : nest.Nest) (o : Kinds) (s : Sort) → AfterLaw c o s
after_law nests.Alone [] = by_sort (AfterLaw nests.Alone []) refl refl (opening 0 _) (opening 0 _) refl refl refl refl refl refl refl refl refl refl refl
after_law nests.Alone (rule.object ∷ o) = by_sort (AfterLaw nests.Alone (rule.object ∷ o)) refl refl (opening (suc (length o)) _) (opening (suc (length o)) _) refl refl refl refl refl refl refl refl refl refl refl
after_law nests.Alone (rule.group ∷ o) = by_sort (AfterLaw nests.Alone (rule.group ∷ o)) refl refl (opening (suc (length o)) _) (opening (suc (length o)) _) refl refl refl refl refl refl refl refl refl refl refl
after_law nests.Sequence o = by_sort (AfterLaw nests.Sequence o) refl refl refl refl refl refl refl refl refl refl refl refl refl refl refl
after_law nests.Row o = by_sort (AfterLaw nests.Row o) refl refl refl refl refl refl refl refl refl refl refl refl refl refl refl
after_law nests.Set o = by_sort (AfterLaw nests.Set o) refl refl refl refl refl refl refl refl refl refl refl refl refl refl refl

abbrev Law : Await → Kinds → Sort → Type 0
Law t o s = sort_step (await_of t) o s ≡ to_of o (sort_code s) (next_of t (sort_code s) (top_for o) (full o))

-- the state after a value, spelled by the rules as the state that it is
after_same : (c : nest.Nest) (o : Kinds) (s : Sort) → AfterLaw c o s → Law (After c) o s
after_same nests.Alone o s h = h
after_same nests.Sequence o s h = h
after_same nests.Row o s h = h
after_same nests.Set o s h = h

law : (t : Await) (o : Kinds) (s : Sort) → Law t o s
law (After c) o = λ s. after_same c o s (after_law c o s)
law (Number c) o =
    let a : (s : Sort) → AfterLaw c o s = after_law c o in
    by_sort (Law (Number c) o) (a _) (a _) (a _) (a _) (a _) (a _) (a _) (a _) refl (a _) (a _) (a _) (a _) (a _) (a _)
law (Units c) o =
    let a : (s : Sort) → AfterLaw c o s = after_law c o in
    by_sort (Law (Units c) o) (a _) (a _) (a _) (a _) (a _) (a _) (a _) (a _) (a _) refl (a _) (a _) (a _) (a _) (a _)
law Value o = by_sort (Law Value o) refl refl refl refl refl refl refl refl refl refl refl refl refl refl refl
law First o = by_sort (Law First o) refl refl refl refl refl refl refl refl refl refl refl refl refl refl refl
law SetFirst o = by_sort (Law SetFirst o) refl refl refl refl refl refl refl refl refl refl refl refl refl refl refl
law InRow o = by_sort (Law InRow o) refl refl refl refl refl refl refl refl refl refl refl refl refl refl refl
law Rows o = by_sort (Law Rows o) refl refl refl refl refl refl refl refl refl refl refl refl refl refl refl
law End o = by_sort (Law End o) refl refl refl refl refl refl refl refl refl refl refl refl refl refl refl

-- ---- what the code knows of the blocks

top_kinds : (bs : List Block) → top_of bs ≡ top_for (kinds_in bs)
top_kinds [] = refl
top_kinds (block kinds.Object a b ∷ bs) = refl
top_kinds (block kinds.Group a b ∷ bs) = refl

many_kinds : (bs : List Block) → length (kinds_in bs) ≡ many bs
many_kinds [] = refl
many_kinds (block k a b ∷ bs) = ap suc (many_kinds bs)

pub depth_kinds : (b : Blocks) → length (kinds_of b) ≡ b.depth
depth_kinds b = many_kinds (blocks_of b) ∙ counted b.starts b.ends b.kinds b.depth

pub step_law : (t : Await) (b : Blocks) (s : Sort) (n : ℕ) (x : Option kind.Kind) (f : Bool) → n ≡ sort_code s → x ≡ top_of (blocks_of b) → f ≡ leb deepest b.depth →
    sort_step (await_of t) (kinds_of b) s ≡ to_of (kinds_of b) n (next_of t n x f)
step_law t b s n x f e g h =
    let p : top_for (kinds_of b) ≡ x = sym (g ∙ top_kinds (blocks_of b)) in
    let q : full (kinds_of b) ≡ f = ap (λ (i : ℕ). leb deepest i) (depth_kinds b) ∙ sym h in
    law t (kinds_of b) s ∙ ap₂ (λ (y : Option kind.Kind) (g : Bool). to_of (kinds_of b) (sort_code s) (next_of t (sort_code s) y g)) p q ∙ ap (λ (i : ℕ). to_of (kinds_of b) i (next_of t i x f)) (sym e)
