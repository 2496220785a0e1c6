-- The walk to the end of a block, past the blocks within it.
use Prim.Native.Nat.{ℕ, zero, suc, ◌≤◌}
use mathlib.Core.Path.{◌≡◌, refl, sym, ap, subst, ◌∙◌}
use mathlib.Core.Logic.{◌⊎◌, inl, inr}
use mathlib.Core.List.{List, [], ◌∷◌}
use native.Mathlib.Omega.{arith}
use Rattle.std.specs.Prelude.{Option, Some, None}
use lib.ListN.{length}
use Rattle.rules.specs.Data as rule
use Rattle.rules.proofs.Machine.Lookup.{names, plain, opens, closes, ends, way, for_way}
use Rattle.rules.proofs.Machine.Lookup as seeking
use Rattle.rows.specs.Rows.{row_of}
use Rattle.rows.specs.Decoding.{Decodes}
use Rattle.rows.specs.declared.Row.{Row}
use Rattle.queries.specs.declared.places.Way.{Way}
use Rattle.queries.specs.declared.places.Way.TheVariants.{Named, Plain, Opening, Closing, Ending}
use Rattle.queries.specs.Walking.{TableFrom, way_of, beyond, stops, goes, step_of, BlockWalk, stopped, gone, entered, PastBlock}
use Rattle.queries.proofs.RowsLeft.{left_end, left_none, none_past, row_further, row_within, front, none_left}
use Rattle.queries.proofs.Ways.{way_told}

-- so many blocks more are open around so many
abbrev pub over : ℕ → ℕ → ℕ
over zero d = suc d
over (suc e) d = suc (over e d)

-- past an inner block, then past the block around it
pub beyond_nest : (e d : ℕ) (rs : List rule.Row) → beyond (over e d) rs ≡ beyond d (beyond e rs)
unfolding beyond
beyond_nest e d [] = refl
beyond_nest zero d (r ∷ rs) = go (way r) (beyond_nest 0 d rs) (beyond_nest 1 d rs)
  where
    go : (w : seeking.Way) → beyond (suc d) rs ≡ beyond d (beyond 0 rs) → beyond (suc (suc d)) rs ≡ beyond d (beyond 1 rs) →
        for_way w (λ p. beyond (suc d) rs) (beyond (suc d) rs) (beyond (suc (suc d)) rs) (beyond d rs) [] ≡ beyond d (for_way w (λ p. beyond 0 rs) (beyond 0 rs) (beyond 1 rs) rs [])
    go (names p) i j = i
    go plain i j = i
    go opens i j = j
    go closes i j = refl
    go ends i j = refl
beyond_nest (suc e) d (r ∷ rs) = go (way r) (beyond_nest (suc e) d rs) (beyond_nest (suc (suc e)) d rs) (beyond_nest e d rs)
  where
    go : (w : seeking.Way) → beyond (suc (over e d)) rs ≡ beyond d (beyond (suc e) rs) → beyond (suc (suc (over e d))) rs ≡ beyond d (beyond (suc (suc e)) rs) → beyond (over e d) rs ≡ beyond d (beyond e rs) →
        for_way w (λ p. beyond (suc (over e d)) rs) (beyond (suc (over e d)) rs) (beyond (suc (suc (over e d))) rs) (beyond (over e d) rs) [] ≡
        beyond d (for_way w (λ p. beyond (suc e) rs) (beyond (suc e) rs) (beyond (suc (suc e)) rs) (beyond e rs) [])
    go (names p) i j k = i
    go plain i j k = i
    go opens i j k = j
    go closes i j k = k
    go ends i j k = refl

-- what the walk to a block's end keeps up
pub record Blocked (lent : List ℕ) (from at : ℕ) : Type 0 where
  pub walks : (e : ℕ) → BlockWalk lent at e → BlockWalk lent from e
  pub on : (rs : List rule.Row) → TableFrom lent from rs → (left : List rule.Row) × TableFrom lent at left × (beyond 0 rs ≡ beyond 0 left)
  pub after : from ≤ at
  pub within : at ≤ length lent

module _ (lent : List ℕ) (from : ℕ) where
  pub block_starts : from ≤ length lent → Blocked lent from from
  block_starts h = record { walks = λ e k. k; on = λ rs l. (rs, l, refl); after = omega arith; within = h }

  module _ (at : ℕ) (b : Blocked lent from at) where
    -- the table ends before the block is closed
    ends_with : {g : Option (Row × ℕ)} → Decodes lent at g → step_of (length lent) g ≡ stops (length lent) → ((rs : List rule.Row) → TableFrom lent at rs → beyond 0 rs ≡ []) → PastBlock lent from (length lent)
    ends_with {g} d s f = record {
      walked = b.walks (length lent) (stopped g d s);
      is = λ rs l. let o = b.on rs l in subst (TableFrom lent (length lent)) (sym (o.2 ∙ f o.0 o.1)) (left_none lent);
      after = omega (arith, b.after, b.within);
      within = omega arith;
    }

    none_beyond : {rs : List rule.Row} → rs ≡ [] → beyond 0 rs ≡ []
    unfolding beyond
    none_beyond e = rw e

    pub block_runs_out : length lent ≤ at → PastBlock lent from (length lent)
    block_runs_out h = ends_with (none_past lent at h) refl (λ rs l. none_beyond (left_end lent at rs l h))

    module _ (g : Option (Row × ℕ)) (v : Decodes lent at g) where
      pub block_cut : g ≡ None → PastBlock lent from (length lent)
      block_cut f = let d = subst (Decodes lent at) f v in ends_with d refl (λ rs l. none_beyond (none_left lent rs d l))

      module _ (r : Row) (next : ℕ) (f : g ≡ Some (r, next)) where
        d : Decodes lent at (Some (r, next))
        d = subst (Decodes lent at) f v

        -- one row on, or past an inner block
        on_by : (p : ℕ) → ((rs : List rule.Row) → TableFrom lent next rs → (left : List rule.Row) × TableFrom lent p left × (beyond 0 (row_of r ∷ rs) ≡ beyond 0 left)) →
            (rs : List rule.Row) → TableFrom lent from rs → (left : List rule.Row) × TableFrom lent p left × (beyond 0 rs ≡ beyond 0 left)
        on_by p go rs l =
            let o = b.on rs l in
            let z = front lent o.0 d o.1 in
            let k = go z.rest z.left in
            (k.0, k.1, o.2 ∙ ap (beyond 0) z.is ∙ k.2)

        passes : step_of (length lent) (Some (r, next)) ≡ goes next → ((rs : List rule.Row) → beyond 0 (row_of r ∷ rs) ≡ beyond 0 rs) → Blocked lent from next
        passes s go = record {
          walks = λ e k. b.walks e (gone (Some (r, next)) next d s k);
          on = on_by next (λ rs l. (rs, l, go rs));
          after = omega (arith, b.after, row_further lent at g v r next f);
          within = row_within lent at g v r next f;
        }

        module _ (w : Way) (e : w ≡ way_of (way (row_of r))) where
          pub block_ends : w ≡ Ending → PastBlock lent from (length lent)
          unfolding beyond
          block_ends h = let k = way_told (row_of r) e h in ends_with d (rw k) (λ rs l. let z = front lent rs d l in ap (beyond 0) z.is ∙ rw k)

          pub block_goes_on : ((x : ℕ) × (y : ℕ) × (w ≡ Named x y)) ⊎ (w ≡ Plain) → Blocked lent from next
          unfolding beyond
          block_goes_on (inl (x, y, h)) = let k = way_told (row_of r) e h in passes (rw k) (λ rs. rw k)
          block_goes_on (inr h) = let k = way_told (row_of r) e h in passes (rw k) (λ rs. rw k)

          pub block_closes : w ≡ Closing → PastBlock lent from next
          unfolding beyond
          block_closes h =
              let k = way_told (row_of r) e h in
              record {
                walked = b.walks next (stopped (Some (r, next)) d (rw k));
                is = λ rs l.
                    let o = b.on rs l in
                    let z = front lent o.0 d o.1 in
                    let q : beyond 0 (row_of r ∷ z.rest) ≡ z.rest = rw k in
                    subst (TableFrom lent next) (sym (o.2 ∙ ap (beyond 0) z.is ∙ q)) z.left;
                after = omega (arith, b.after, row_further lent at g v r next f);
                within = row_within lent at g v r next f;
              }

          pub block_opens : (p : ℕ) → w ≡ Opening → PastBlock lent next p → Blocked lent from p
          unfolding beyond
          block_opens p h c =
              let k = way_told (row_of r) e h in
              record {
                walks = λ e i. b.walks e (entered (Some (r, next)) next p d (rw k) c.walked i);
                on = on_by p (λ rs l. (beyond 0 rs, c.is rs l, rw k (beyond_nest 0 0 rs)));
                after = omega (arith, b.after, row_further lent at g v r next f, c.after);
                within = c.within;
              }
