-- The walk to the row at an offset, and the row that stands there.
use Prim.Native.Nat.{ℕ, ◌+◌, ◌-◌, ◌≤◌, ◌<◌}
use mathlib.Core.Path.{◌≡◌, refl, sym, ap, subst, ◌∙◌}
use mathlib.Core.Bool.{Bool, true, false, cond}
use mathlib.Core.List.{List, [], ◌∷◌}
use native.Mathlib.Omega.{arith}
use Rattle.std.specs.Prelude.{Option, Some, None}
use borrow.Author.Tests.{leb-true, leb-false, ne_eqb, le-leb, lt-leb}
use lib.Dec.{leb}
use lib.ListN.{length}
use Rattle.rules.specs.Data as rule
use Rattle.rules.specs.Table.{encode}
use Rattle.rules.proofs.Machine.Lookup.{from_of}
use Rattle.rows.specs.Rows.{row_of}
use Rattle.rows.specs.Decoding.{Decodes}
use Rattle.rows.specs.declared.Row.{Row}
use Rattle.queries.specs.Walking.{TableFrom, Walked, arrived, reached_past, cut_short, passed, First, no_first, RowFrom}
use Rattle.queries.proofs.RowsLeft.{row_further, front, none_left, first_left}

-- the rows from an offset on, with the rows from a place on in hand
abbrev reaches : ℕ → ℕ → List rule.Row → List rule.Row
reaches row at left = cond (leb at row) (from_of (row - at) left) []

from_none : (n : ℕ) → from_of n [] ≡ []
unfolding from_of
from_none n = refl

from_start : (left : List rule.Row) → from_of 0 left ≡ left
unfolding from_of
from_start [] = refl
from_start (r ∷ rs) = refl

reaches_none : (row at : ℕ) → reaches row at [] ≡ []
reaches_none row at = go (leb at row)
  where
    go : (c : Bool) → cond c (from_of (row - at) []) [] ≡ []
    go true = from_none (row - at)
    go false = refl

reaches_on : (row at next : ℕ) (r : rule.Row) (rs : List rule.Row) → at < row → next ≡ at + length (encode r) → reaches row at (r ∷ rs) ≡ reaches row next rs
unfolding from_of
reaches_on row at next r rs h e =
    let q : row - at ≡ 0 → ⊥ = λ z. omega arith in
    rw (le-leb at row (omega arith), ne_eqb (row - at) 0 q, e) (go (leb (length (encode r)) (row - at)) refl)
  where
    go : (c : Bool) → leb (length (encode r)) (row - at) ≡ c → cond c (from_of (row - at - length (encode r)) rs) [] ≡ reaches row (at + length (encode r)) rs
    go true k =
        let m : row - at - length (encode r) ≡ row - (at + length (encode r)) = omega arith in
        rw (le-leb (at + length (encode r)) row (omega (arith, leb-true (length (encode r)) (row - at) k)), m)
    go false k = rw (lt-leb (at + length (encode r)) row (omega (arith, leb-false (length (encode r)) (row - at) k)))

-- what the walk to a row keeps up
pub record Walks (lent : List ℕ) (row at : ℕ) : Type 0 where
  pub goes : (g : Option (Row × ℕ)) → Walked lent row at g → Walked lent row 0 g
  pub on : (rs : List rule.Row) → TableFrom lent 0 rs → (left : List rule.Row) × TableFrom lent at left × (from_of row rs ≡ reaches row at left)

module _ (lent : List ℕ) (row : ℕ) where
  pub walk_starts : Walks lent row 0
  walk_starts = record { goes = λ g k. k; on = λ rs l. let e : row - 0 ≡ row = omega arith in (rs, l, rw (le-leb 0 row (omega arith), e)) }

  module _ (at : ℕ) (w : Walks lent row at) where
    pub walk_turns : (g : Option (Row × ℕ)) (r : Row) (next : ℕ) → at < row → Decodes lent at g → g ≡ Some (r, next) → Walks lent row next
    walk_turns g r next h v f =
        let d = subst (Decodes lent at) f v in
        record {
          goes = λ g k. w.goes g (passed h d k);
          on = λ rs l.
              let k = w.on rs l in
              let z = front lent k.0 d k.1 in
              (z.rest, z.left, k.2 ∙ ap (reaches row at) z.is ∙ reaches_on row at next (row_of r) z.rest h z.size);
        }

    pub walk_nearer : (g : Option (Row × ℕ)) (r : Row) (next : ℕ) → at < row → Decodes lent at g → g ≡ Some (r, next) → row - next < row - at
    walk_nearer g r next h v f = omega (arith, row_further lent at g v r next f)

    pub walk_stops : (g : Option (Row × ℕ)) → at < row → Decodes lent at g → g ≡ None → RowFrom lent row None
    walk_stops g h v f =
        let d = subst (Decodes lent at) f v in
        record {
          walked = w.goes None (cut_short h d);
          is = λ rs l. let k = w.on rs l in subst (First None) (sym (k.2 ∙ ap (reaches row at) (none_left lent k.0 d k.1) ∙ reaches_none row at)) no_first;
        }

    pub walk_past : row < at → RowFrom lent row None
    walk_past h = record {
      walked = w.goes None (reached_past h);
      is = λ rs l. let k = w.on rs l in let e : reaches row at k.0 ≡ [] = rw (lt-leb at row h) in subst (First None) (sym (k.2 ∙ e)) no_first;
    }

    pub walk_ends : (g : Option (Row × ℕ)) → row ≤ at → at ≤ row → Decodes lent row g → RowFrom lent row g
    walk_ends g h k v = record {
      walked = w.goes g (arrived (omega arith) v);
      is = λ rs l.
          let o = w.on rs l in
          let e : at ≡ row = omega arith in
          let z : row - row ≡ 0 = omega arith in
          let f : reaches row at o.0 ≡ o.0 = rw (e, le-leb row row (omega arith), z) (from_start o.0) in
          subst (First g) (sym (o.2 ∙ f)) (first_left lent o.0 v (subst (λ (i : ℕ). TableFrom lent i o.0) e o.1));
    }
