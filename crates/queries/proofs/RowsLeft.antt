-- The rows of a table from a place on: what is read there, one row on, and the rows of a proper table.
use Prim.Native.Nat.{ℕ, ◌+◌, ◌-◌, ◌≤◌, ◌<◌}
use mathlib.Core.Path.{◌≡◌, refl, sym, ap, subst, ◌∙◌}
use mathlib.Core.List.{List, [], ◌∷◌, ◌++◌}
use native.Mathlib.Omega.{arith}
use Rattle.std.specs.Prelude.{Option, Some, None}
use lib.ListN.{length, drop, length-append, length-drop, drop_of_length-le}
use lib.Seq.{drop-append_seam, drop-drop}
use Rattle.rules.specs.Data as rule
use Rattle.rules.specs.Table.{encode, table}
use Rattle.rules.specs.Proper.{Each, none, one, Ruled, proper_rows, is_proper}
use Rattle.rules.specs.Reading.{longest}
use Rattle.rules.specs.Asked.{From, here, later}
use Rattle.rules.proofs.Machine.Limits.{Codes}
use Rattle.rules.proofs.Machine.Decoding.{decode}
use Rattle.rules.proofs.Tables.DecodeComplete.{nothing_got}
use Rattle.rules.proofs.Tables.Proper.{proper}
use Rattle.rules.proofs.Tables.Once.{all_codes}
use Rattle.rules.proofs.Tables.Judge.{encode_size}
use Rattle.rules.proofs.Machine.Queries.{from_row}
use Rattle.rows.specs.Rows.{row_of}
use Rattle.rows.specs.Decoding.{Decodes, no_row, a_row}
use Rattle.rows.specs.declared.Row.{Row}
use Rattle.rows.proofs.Decoding.{row_there}
use Rattle.rows.proofs.EachWay.{row_found}
use Rattle.queries.specs.Walking.{TableFrom, First, no_first, the_first}

-- ---- the rows left

table_some : (r : rule.Row) (rs : List rule.Row) → [] ≡ table (r ∷ rs) → ⊥
table_some r rs e = let q : 0 ≡ length (encode r ++ table rs) = ap length e in omega (arith, encode_size r, length-append (encode r) (table rs))

pub same_found : {r q : Row} {n m : ℕ} → ◌≡◌ {A = Option (Row × ℕ)} (Some (r, n)) (Some (q, m)) → (r ≡ q) × (n ≡ m)
same_found {r} {q} {n} {m} e =
    let p : ◌≡◌ {A = Row × ℕ} (r, n) (q, m) = cc in
    (ap (λ (x : Row × ℕ). x.0) p, ap (λ (x : Row × ℕ). x.1) p)

pub nothing_found : {r : Row} {n : ℕ} → ◌≡◌ {A = Option (Row × ℕ)} None (Some (r, n)) → ⊥
nothing_found e = let w : ◌≡◌ {A = ℕ} 0 1 = cc in omega arith

module _ (lent : List ℕ) where
  pub left_size : {at : ℕ} {rs : List rule.Row} → TableFrom lent at rs → length (table rs) + at ≡ length lent
  left_size {at} l = let e = ap length l.bytes in omega (arith, length-drop at lent, l.within)

  -- at the end no row is left
  pub left_end : (at : ℕ) (rs : List rule.Row) → TableFrom lent at rs → length lent ≤ at → rs ≡ []
  left_end at [] l h = refl
  left_end at (r ∷ rs) l h = absurd (table_some r rs (sym (drop_of_length-le lent h) ∙ l.bytes))

  pub left_none : TableFrom lent (length lent) []
  left_none = record { bytes = drop_of_length-le lent {i = length lent} (omega arith); within = omega arith; codes = none }

  left_more : (at : ℕ) (r : rule.Row) (rs : List rule.Row) → TableFrom lent at (r ∷ rs) → Codes r × TableFrom lent (at + length (encode r)) rs
  left_more at r rs l = (
    (go l.codes).0,
    record {
      bytes = sym (drop-drop (length (encode r)) at lent) ∙ ap (drop (length (encode r))) l.bytes ∙ drop-append_seam (encode r) (table rs);
      within = omega (arith, left_size l, length-append (encode r) (table rs));
      codes = (go l.codes).1;
    },
  )
    where
      go : Each Codes (r ∷ rs) → Codes r × Each Codes rs
      go (one c cs) = (c, cs)

  -- the rows from an offset on
  pub left_from : {n : ℕ} {rs qs : List rule.Row} (at : ℕ) → TableFrom lent at rs → From n rs qs → TableFrom lent (at + n) qs
  left_from {rs = rs} at l here = let e : at ≡ at + 0 = omega arith in subst (λ (i : ℕ). TableFrom lent i rs) e l
  left_from {qs = qs} at l (later {n = n} {r = r} {rs = rs} f) =
      let e : at + length (encode r) + n ≡ at + (length (encode r) + n) = omega arith in
      subst (λ (i : ℕ). TableFrom lent i qs) e (left_from (at + length (encode r)) (left_more at r rs l).1 f)

  -- ---- what is read there

  -- no row is read past the table's end
  pub none_past : (at : ℕ) → length lent ≤ at → Decodes lent at None
  unfolding decode
  none_past at h = no_row (ap decode (drop_of_length-le lent h))

  -- the place after a row that is read lies further on, inside the table and so nearer to its end
  module _ (at : ℕ) (g : Option (Row × ℕ)) (v : Decodes lent at g) (r : Row) (next : ℕ) (f : g ≡ Some (r, next)) where
    pub row_further : at < next
    row_further = (row_there v f).further

    pub row_within : next ≤ length lent
    row_within = (row_there v f).within

    pub row_nearer : (e : ℕ) → at < length lent → next ≤ e → length lent - e < length lent - at
    row_nearer e h k = omega (arith, row_further)

  -- a row that is read is the first of the rows left
  pub record Front (at : ℕ) (r : Row) (next : ℕ) (rs : List rule.Row) : Type 0 where
    pub rest : List rule.Row
    pub is : rs ≡ row_of r ∷ rest
    pub size : next ≡ at + length (encode (row_of r))
    pub left : TableFrom lent next rest

  module _ {at : ℕ} where
    pub front : {r : Row} {next : ℕ} (rs : List rule.Row) → Decodes lent at (Some (r, next)) → TableFrom lent at rs → Front at r next rs
    unfolding decode
    front [] (a_row e l m) t = absurd (nothing_got (sym (ap decode t.bytes) ∙ e))
    front {r} {next} (q ∷ rs) d t =
        let more = left_more at q rs t in
        let f = row_found q (table rs) more.0 t.bytes d in
        let s = same_found f.1 in
        let e : q ≡ row_of r = sym (ap row_of s.0 ∙ f.2) in
        record {
          rest = rs;
          is = ap (λ (x : rule.Row). x ∷ rs) e;
          size = s.1 ∙ ap (λ (x : rule.Row). at + length (encode x)) e;
          left = subst (λ (i : ℕ). TableFrom lent i rs) (sym s.1) more.1;
        }

    pub none_left : (rs : List rule.Row) → Decodes lent at None → TableFrom lent at rs → rs ≡ []
    none_left [] d t = refl
    none_left (q ∷ rs) d t = absurd (nothing_found (row_found q (table rs) (left_more at q rs t).0 t.bytes d).1)

    pub first_left : {g : Option (Row × ℕ)} (rs : List rule.Row) → Decodes lent at g → TableFrom lent at rs → First g rs
    first_left rs (no_row e) t = subst (First None) (sym (none_left rs (no_row e) t)) no_first
    first_left rs (a_row {row} {next} e l m) t =
        let z = front {r = row} {next = next} rs (a_row {row = row} {next = next} e l m) t in
        subst (First (Some (row, next))) (sym z.is) (the_first {r = row} {next = next} {rs = z.rest})

-- what is told of the first row
pub first_found : {A : Type 0} {r : Row} {next : ℕ} {rs : List rule.Row} → First (Some (r, next)) rs → (a : A) (f : rule.Row → A) → from_row rs a f ≡ f (row_of r)
first_found the_first a f = refl

pub first_none : {A : Type 0} {rs : List rule.Row} → First None rs → (a : A) (f : rule.Row → A) → from_row rs a f ≡ a
first_none no_first a f = refl

-- ---- a proper table

pub left_proper : (given lent : List ℕ) (rs : List rule.Row) → length given ≤ longest → Ruled given lent (proper_rows rs) → TableFrom lent 0 rs
left_proper given lent rs h (is_proper e p) =
    let a = proper.0 p in
    record { bytes = e; within = omega arith; codes = all_codes given (omega arith) rs a.values a.spans }
