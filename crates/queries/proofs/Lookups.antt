-- The lookup: what the walk over the rows of a block keeps up, and its answer.
use Prim.Native.Nat.{ℕ, zero, suc, ◌+◌, ◌≤◌, ◌<◌}
use mathlib.Core.Path.{◌≡◌, refl, sym, ap, subst, ◌∙◌}
use mathlib.Core.Bool.{Bool, true, false}
use mathlib.Core.Logic.{◌⊎◌, inl, inr}
use mathlib.Core.List.{List, [], ◌∷◌, ◌++◌, map}
use native.Mathlib.Omega.{arith}
use Rattle.std.specs.Prelude.{Option, Some, None, Result, Ok, Err}
use borrow.Author.Tests.{le-leb}
use lib.ListN.{length, length-append}
use Rattle.rules.specs.Bytes.{fold}
use Rattle.rules.specs.Data as rule
use Rattle.rules.specs.Table.{encode, table}
use Rattle.rules.specs.Reading.{longest}
use Rattle.rules.specs.Values.{same}
use Rattle.rules.specs.Asked as asked
use Rattle.rules.specs.Asked.{Sought, says, long_label, no_table, search_refused}
use Rattle.rules.proofs.Tables.Judge.{verdict_complete}
use Rattle.rules.proofs.Machine.Lookup.{from_of, has_name, names, plain, opens, closes, ends, way, for_way, seeks}
use Rattle.rules.proofs.Tables.Seeking.{from_there}
use Rattle.rules.proofs.Machine.Lookup as seeking
use Rattle.rules.proofs.Machine.Queries.{is_line, finding, line_said, sought_of}
use Rattle.rules.proofs.Tables.Asked.{sought_there}
use Rattle.classes.specs.Places.{part, as_span}
use Rattle.rows.specs.Rows.{row_of}
use Rattle.rows.specs.Decoding.{Decodes}
use Rattle.rows.specs.declared.Row.{Row}
use Rattle.table.specs.Judging.{Judges, proper, improper}
use Rattle.std.specs.Prelude.{Result, Ok, Err}
use Rattle.table.specs.declared.Improper.{Improper}
use Rattle.queries.specs.declared.places.Way.{Way}
use Rattle.queries.specs.declared.places.Way.TheVariants.{Named, Plain, Opening, Closing, Ending}
use Rattle.queries.specs.declared.outcome.At.{At}
use Rattle.queries.specs.declared.outcome.NotFound.{NotFound}
use Rattle.queries.specs.declared.outcome.NotFound.TheVariants.{NoName, NoLine}
use Rattle.queries.specs.Answers.{found_said}
use Rattle.queries.specs.Walking.{TableFrom, First, no_first, the_first, RowFrom, way_of, beyond, PastBlock, finding_of, SeeksFrom, FindsFrom}
use Rattle.queries.proofs.RowsLeft.{left_end, left_from, left_size, left_proper, front, none_left}
use Rattle.queries.proofs.Ways.{way_told}
use Rattle.queries.proofs.BlockEnds.{over}

-- ---- past a block

module _ (label name : List ℕ) where
  -- what is sought beyond an inner block is sought from where that block ends
  pub seeks_nest : (e d at p : ℕ) (rs : List rule.Row) → length (table rs) + at ≡ length (table (beyond e rs)) + p → seeks label name (over e d) at rs ≡ seeks label name d p (beyond e rs)
  unfolding seeks beyond
  seeks_nest e d at p [] h = refl
  seeks_nest zero d at p (r ∷ rs) h =
      let n : ℕ = at + length (encode r) in
      let s : length (table rs) + n ≡ length (encode r ++ table rs) + at = omega (arith, length-append (encode r) (table rs)) in
      go (way r) n s h (λ q. seeks_nest 0 d n p rs q) (λ q. seeks_nest 1 d n p rs q)
    where
      go : (w : seeking.Way) (n : ℕ) → length (table rs) + n ≡ length (encode r ++ table rs) + at → length (encode r ++ table rs) + at ≡ length (table (for_way w (λ p. beyond 0 rs) (beyond 0 rs) (beyond 1 rs) rs [])) + p →
          (length (table rs) + n ≡ length (table (beyond 0 rs)) + p → seeks label name (suc d) n rs ≡ seeks label name d p (beyond 0 rs)) →
          (length (table rs) + n ≡ length (table (beyond 1 rs)) + p → seeks label name (suc (suc d)) n rs ≡ seeks label name d p (beyond 1 rs)) →
          for_way w (λ q. seeks label name (suc d) n rs) (seeks label name (suc d) n rs) (seeks label name (suc (suc d)) n rs) (seeks label name d n rs) asked.absent ≡
          seeks label name d p (for_way w (λ q. beyond 0 rs) (beyond 0 rs) (beyond 1 rs) rs [])
      go (names q) n s h i j = i (s ∙ h)
      go plain n s h i j = i (s ∙ h)
      go opens n s h i j = j (s ∙ h)
      go closes n s h i j = let e : n ≡ p = omega arith in ap (λ (x : ℕ). seeks label name d x rs) e
      go ends n s h i j = refl
  seeks_nest (suc e) d at p (r ∷ rs) h =
      let n : ℕ = at + length (encode r) in
      let s : length (table rs) + n ≡ length (encode r ++ table rs) + at = omega (arith, length-append (encode r) (table rs)) in
      go (way r) n s h (λ q. seeks_nest (suc e) d n p rs q) (λ q. seeks_nest (suc (suc e)) d n p rs q) (λ q. seeks_nest e d n p rs q)
    where
      go : (w : seeking.Way) (n : ℕ) → length (table rs) + n ≡ length (encode r ++ table rs) + at → length (encode r ++ table rs) + at ≡ length (table (for_way w (λ p. beyond (suc e) rs) (beyond (suc e) rs) (beyond (suc (suc e)) rs) (beyond e rs) [])) + p →
          (length (table rs) + n ≡ length (table (beyond (suc e) rs)) + p → seeks label name (suc (over e d)) n rs ≡ seeks label name d p (beyond (suc e) rs)) →
          (length (table rs) + n ≡ length (table (beyond (suc (suc e)) rs)) + p → seeks label name (suc (suc (over e d))) n rs ≡ seeks label name d p (beyond (suc (suc e)) rs)) →
          (length (table rs) + n ≡ length (table (beyond e rs)) + p → seeks label name (over e d) n rs ≡ seeks label name d p (beyond e rs)) →
          for_way w (λ q. seeks label name (suc (over e d)) n rs) (seeks label name (suc (over e d)) n rs) (seeks label name (suc (suc (over e d))) n rs) (seeks label name (over e d) n rs) asked.absent ≡
          seeks label name d p (for_way w (λ q. beyond (suc e) rs) (beyond (suc e) rs) (beyond (suc (suc e)) rs) (beyond e rs) [])
      go (names q) n s h i j k = i (s ∙ h)
      go plain n s h i j k = i (s ∙ h)
      go opens n s h i j k = j (s ∙ h)
      go closes n s h i j k = k (s ∙ h)
      go ends n s h i j k = refl

-- ---- the walk

pub record Sighting (label lent name : List ℕ) (row at : ℕ) : Type 0 where
  pub on : (rs : List rule.Row) → TableFrom lent row rs → (left : List rule.Row) × TableFrom lent at left × (seeks label name 0 row rs ≡ seeks label name 0 at left)

module _ (label lent name : List ℕ) (row : ℕ) where
  pub seek_starts : Sighting label lent name row row
  seek_starts = record { on = λ rs l. (rs, l, refl) }

  module _ (at : ℕ) (b : Sighting label lent name row at) where
    -- the answer, where it is known from what is left
    answers : {z : asked.Finding} {r : Result At NotFound} → r ≡ finding_of z → ((rs : List rule.Row) → TableFrom lent at rs → seeks label name 0 at rs ≡ z) → SeeksFrom label lent name row r
    answers e f = record { is = λ rs l. let o = b.on rs l in e ∙ ap finding_of (sym (o.2 ∙ f o.0 o.1)) }

    none_sought : {rs : List rule.Row} → rs ≡ [] → seeks label name 0 at rs ≡ asked.absent
    unfolding seeks
    none_sought e = rw e

    pub seek_runs_out : length lent ≤ at → SeeksFrom label lent name row (Err NoName)
    seek_runs_out h = answers refl (λ rs l. none_sought (left_end lent at rs l h))

    module _ (g : Option (Row × ℕ)) (v : Decodes lent at g) where
      pub seek_cut : g ≡ None → SeeksFrom label lent name row (Err NoName)
      seek_cut f = answers refl (λ rs l. none_sought (none_left lent rs (subst (Decodes lent at) f v) l))

      module _ (r : Row) (next : ℕ) (f : g ≡ Some (r, next)) where
        d : Decodes lent at (Some (r, next))
        d = subst (Decodes lent at) f v

        -- the answer, where the row tells it
        tells : (z : asked.Finding) {x : Result At NotFound} → x ≡ finding_of z → ((rs : List rule.Row) → seeks label name 0 at (row_of r ∷ rs) ≡ z) → SeeksFrom label lent name row x
        tells z e go = answers e (λ rs l. let k = front lent rs d l in ap (seeks label name 0 at) k.is ∙ go k.rest)

        -- one row on, or past an inner block
        passes : (p : ℕ) → ((rs : List rule.Row) → next ≡ at + length (encode (row_of r)) → TableFrom lent next rs → (left : List rule.Row) × TableFrom lent p left × (seeks label name 0 at (row_of r ∷ rs) ≡ seeks label name 0 p left)) →
            Sighting label lent name row p
        passes p go = record {
          on = λ rs l.
              let o = b.on rs l in
              let z = front lent o.0 d o.1 in
              let k = go z.rest z.size z.left in
              (k.0, k.1, o.2 ∙ ap (seeks label name 0 at) z.is ∙ k.2);
        }

        module _ (w : Way) (e : w ≡ way_of (way (row_of r))) where
          pub seek_stops : (w ≡ Closing) ⊎ (w ≡ Ending) → SeeksFrom label lent name row (Err NoName)
          unfolding seeks
          seek_stops (inl h) = let k = way_told (row_of r) e h in tells asked.absent refl (λ rs. rw k)
          seek_stops (inr h) = let k = way_told (row_of r) e h in tells asked.absent refl (λ rs. rw k)

          pub seek_plain : w ≡ Plain → Sighting label lent name row next
          unfolding seeks
          seek_plain h = let k = way_told (row_of r) e h in passes next (λ rs n l. (rs, l, rw (k, n)))

          pub seek_opens : (p : ℕ) → w ≡ Opening → PastBlock lent next p → Sighting label lent name row p
          unfolding seeks
          seek_opens p h c =
              let k = way_told (row_of r) e h in
              passes p (λ rs n l.
              let m = c.is rs l in
              let q : length (table rs) + (at + length (encode (row_of r))) ≡ length (table (beyond 0 rs)) + p = omega (arith, left_size lent l, left_size lent m, n) in
              (beyond 0 rs, m, rw k (seeks_nest label name 0 0 (at + length (encode (row_of r))) p rs q)))

          module _ (x y : ℕ) (h : w ≡ Named x y) (s : List ℕ) (t : Bool) (i : s ≡ part label x y) (j : t ≡ same (map fold s) (map fold name)) where
            named : t ≡ has_name label name (as_span x y)
            named = j ∙ ap (λ (u : List ℕ). same (map fold u) (map fold name)) i

            pub seek_found : t ≡ true → SeeksFrom label lent name row (Ok (record { row = at }))
            unfolding seeks
            seek_found q = let k = way_told (row_of r) e h in tells (asked.stands at) refl (λ rs. rw (k, ← named, q))

            pub seek_passes : t ≡ false → Sighting label lent name row next
            unfolding seeks
            seek_passes q = let k = way_told (row_of r) e h in passes next (λ rs n l. (rs, l, rw (k, ← named, q, n)))

-- ---- the answer

found_said_lem : (z : asked.Finding) → found_said (finding_of z) ≡ finding z
found_said_lem (asked.stands k) = refl
found_said_lem asked.absent = refl

module _ (label lent name : List ℕ) (row : ℕ) (g : Option (Row × ℕ)) (s : RowFrom lent row g) where
  pub finds_no_row : g ≡ None → FindsFrom label lent name row (Err NoLine)
  finds_no_row f = record { is = λ rs l. go (from_of row rs) (subst (λ (x : Option (Row × ℕ)). First x (from_of row rs)) f (s.is rs l)) }
    where
      go : (qs : List rule.Row) → First None qs → says 15 0 0 ≡ line_said label name row qs
      go [] no_first = refl
      go (_ ∷ _) x = elim x [ ]

  module _ (r : Row) (next : ℕ) (f : g ≡ Some (r, next)) (t : Bool) (e : t ≡ is_line (row_of r)) where
    pub finds_line : (z : Result At NotFound) → t ≡ true → SeeksFrom label lent name row z → FindsFrom label lent name row z
    finds_line z h k = record { is = λ rs l. go rs l r next (sym e ∙ h) (from_of row rs) refl (subst (λ (x : Option (Row × ℕ)). First x (from_of row rs)) f (s.is rs l)) }
      where
        go : (rs : List rule.Row) → TableFrom lent 0 rs → (r : Row) (next : ℕ) → is_line (row_of r) ≡ true → (qs : List rule.Row) → from_of row rs ≡ qs → First (Some (r, next)) qs → found_said z ≡ line_said label name row qs
        go rs l r next q [] i x = elim x [ ]
        go rs l r next q (x ∷ qs) i the_first =
            let m : 0 + row ≡ row = omega arith in
            ap found_said (k.is (row_of r ∷ qs) (subst (λ (i : ℕ). TableFrom lent i (row_of r ∷ qs)) m (left_from lent 0 l (from_there row rs i)))) ∙ found_said_lem (seeks label name 0 row (row_of r ∷ qs)) ∙ rw q

    pub finds_none : t ≡ false → FindsFrom label lent name row (Err NoLine)
    finds_none h = record { is = λ rs l. go r next (sym e ∙ h) (from_of row rs) (subst (λ (x : Option (Row × ℕ)). First x (from_of row rs)) f (s.is rs l)) }
      where
        go : (r : Row) (next : ℕ) → is_line (row_of r) ≡ false → (qs : List rule.Row) → First (Some (r, next)) qs → says 15 0 0 ≡ line_said label name row qs
        go r next q [] x = elim x [ ]
        go r next q (x ∷ qs) the_first = rw q

module _ (label lent name : List ℕ) (row : ℕ) where
  pub found_long : longest < length label → Sought label lent name row (says 1 longest 0)
  found_long h = search_refused (long_label h)

  pub found_improper : {p : Improper} → length label ≤ longest → Judges label lent (Err p) → Sought label lent name row (says 12 p.0 0)
  found_improper h (improper v) = search_refused (no_table h v)

  pub found_proper : (r : Result At NotFound) → length label ≤ longest → Judges label lent (Ok tt) → FindsFrom label lent name row r → Sought label lent name row (found_said r)
  unfolding sought_of
  found_proper r h (proper rs v) f =
      let q : sought_of label lent name row ≡ line_said label name row (from_of row rs) = rw (le-leb (length label) longest h, verdict_complete label h lent v) in
      subst (Sought label lent name row) (q ∙ sym (f.is rs (left_proper label lent rs h v))) (sought_there label lent row name)
