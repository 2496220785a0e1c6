-- The open blocks in arrays: an opening puts one in front, a closing takes it away.
use mathlib.Core.Path.{◌≡◌, refl, sym, ap, ◌∙◌}
use mathlib.Core.List.{List, [], ◌∷◌}
use Prim.Native.Nat.{ℕ, zero, suc, ◌+◌, ◌-◌, ◌<◌, ◌≤◌}
use native.Mathlib.Numerals.{add-one}
use native.Mathlib.Omega.{arith}
use lib.ListN.{length, get_or, set}
use lib.Seq.{get_or-set_same, get_or-set_other}
use borrow.Author.Rules.{rules}
use borrow.Author.Tests.{eq-eqb, ne_eqb}
use Rattle.rules.specs.Table.{open_kind}
use Rattle.rows.specs.Rows.{kind_of}
use Rattle.rows.specs.declared.Kind as kind
use Rattle.rows.specs.declared.Kind.TheVariants as kinds
use Rattle.blocks.specs.Stack.{Block, block, blocks_in, rest, many, top_of, start_of, end_of, kind_at, push_on, pop_off}
use Rattle.blocks.specs.declared.Blocks.{Blocks}
use Rattle.std.specs.Prelude.{Option, None, Some}

kind_back_lem : (k : kind.Kind) → kind_at (open_kind (kind_of k)) ≡ k
kind_back_lem kinds.Object = refl
kind_back_lem kinds.Group = refl

pub is_group : (n : ℕ) → n ≡ 5 → kinds.Group ≡ kind_at n
is_group n h = rw (eq-eqb n 5 h)

pub is_object : (n : ℕ) → (n ≡ 5 → ⊥) → kinds.Object ≡ kind_at n
is_object n h = rw (ne_eqb n 5 h)

module _ (s e k : List ℕ) (d a b x : ℕ) where
  below : (n : ℕ) → n ≤ d → blocks_in (set s d a) (set e d b) (set k d x) n ≡ blocks_in s e k n
  unfolding blocks_in
  below zero h = refl
  below (suc n) h =
      let ne : (n ≡ d → ⊥) = λ q. omega arith in
      rw (get_or-set_other s d n a 0 ne, get_or-set_other e d n b 0 ne, get_or-set_other k d n x 0 ne)
      (ap (λ (l : List Block). block (kind_at (get_or k n 0)) (get_or s n 0) (get_or e n 0) ∷ l) (below n (omega arith)))

  pushes : d < length s → d < length e → d < length k → blocks_in (set s d a) (set e d b) (set k d x) (d + 1) ≡ block (kind_at x) a b ∷ blocks_in s e k d
  unfolding blocks_in
  pushes hs he hk =
      rw (add-one, blocks_in, get_or-set_same s d a 0 hs, get_or-set_same e d b 0 he, get_or-set_same k d x 0 hk)
      (ap (λ (l : List Block). block (kind_at x) a b ∷ l) (below d (omega arith)))

pub pushed : (s e k : List ℕ) (d a b x a' b' : ℕ) (q : kind.Kind) → a ≡ a' → b ≡ b' → x ≡ open_kind (kind_of q) → d < length s → d < length e → d < length k →
    blocks_in (set s d a) (set e d b) (set k d x) (d + 1) ≡ block q a' b' ∷ blocks_in s e k d
pushed s e k d a b x a' b' q ea eb ex hs he hk =
    pushes s e k d a b x hs he hk ∙ rw (ea, eb, ex) (ap (λ (j : kind.Kind). block j a' b' ∷ blocks_in s e k d) (kind_back_lem q))

pub popped : (s e k : List ℕ) (d : ℕ) → 0 < d → blocks_in s e k (d - 1) ≡ rest (blocks_in s e k d)
unfolding blocks_in
popped s e k zero h = absurd (omega arith)
popped s e k (suc n) h = let q : suc n - 1 ≡ n = omega arith in rw q

pub pushed_on : (b : Blocks) (k : kind.Kind) (x y x' y' c : ℕ) → x' ≡ x → y' ≡ y → c ≡ open_kind (kind_of k) →
    record { starts = set b.starts b.depth x'; ends = set b.ends b.depth y'; kinds = set b.kinds b.depth c; depth = b.depth + 1 } ≡ push_on b k x y
pushed_on b k x y x' y' c p q e = rw (p, q, e)

pub not_popped : (b : Blocks) → b.depth ≤ 0 → b ≡ pop_off b
not_popped b h = let q : b.depth - 1 ≡ b.depth = omega arith in rw q

-- with no place taken there is no block
pub nothing_open : (s e k : List ℕ) (d : ℕ) → d ≡ 0 → blocks_in s e k d ≡ []
unfolding blocks_in
nothing_open s e k zero h = refl
nothing_open s e k (suc n) h = absurd (omega arith)

pub unpopped : (s e k : List ℕ) (d : ℕ) → d ≤ 0 → blocks_in s e k d ≡ rest (blocks_in s e k d)
unpopped s e k d h = let q : blocks_in s e k d ≡ [] = nothing_open s e k d (omega arith) in rw q

pub no_top : (s e k : List ℕ) (d : ℕ) → d ≡ 0 → None ≡ top_of (blocks_in s e k d)
no_top s e k d h = rw (nothing_open s e k d h)

pub no_start : (s e k : List ℕ) (d : ℕ) → d ≡ 0 → 0 ≡ start_of (blocks_in s e k d)
no_start s e k d h = rw (nothing_open s e k d h)

pub no_end : (s e k : List ℕ) (d : ℕ) → d ≡ 0 → 0 ≡ end_of (blocks_in s e k d)
no_end s e k d h = rw (nothing_open s e k d h)

-- otherwise the last place is the innermost block's
innermost : (s e k : List ℕ) (d : ℕ) → (d ≡ 0 → ⊥) → blocks_in s e k d ≡ block (kind_at (get_or k (d - 1) 0)) (get_or s (d - 1) 0) (get_or e (d - 1) 0) ∷ blocks_in s e k (d - 1)
unfolding blocks_in
innermost s e k zero h = absurd (h refl)
innermost s e k (suc n) h = let q : suc n - 1 ≡ n = omega arith in rw q

pub some_top : (s e k : List ℕ) (d : ℕ) (r : kind.Kind) → r ≡ kind_at (get_or k (d - 1) 0) → (d ≡ 0 → ⊥) → Some r ≡ top_of (blocks_in s e k d)
some_top s e k d r g h = ap Some g ∙ sym (ap top_of (innermost s e k d h))

pub some_start : (s e k : List ℕ) (d r : ℕ) → r ≡ get_or s (d - 1) 0 → (d ≡ 0 → ⊥) → r ≡ start_of (blocks_in s e k d)
some_start s e k d r g h = g ∙ sym (ap start_of (innermost s e k d h))

pub some_end : (s e k : List ℕ) (d r : ℕ) → r ≡ get_or e (d - 1) 0 → (d ≡ 0 → ⊥) → r ≡ end_of (blocks_in s e k d)
some_end s e k d r g h = g ∙ sym (ap end_of (innermost s e k d h))

-- as many blocks as places taken
pub counted : (s e k : List ℕ) (d : ℕ) → many (blocks_in s e k d) ≡ d
unfolding blocks_in
counted s e k zero = refl
counted s e k (suc n) = ap suc (counted s e k n)

pub ruleset stack = (nothing_open, pushed, pushed_on, popped, unpopped, not_popped, no_top, some_top, no_start, some_start, no_end, some_end, is_group, is_object, rules)
