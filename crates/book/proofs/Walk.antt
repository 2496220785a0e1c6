-- The walk over the rows of a label's table that finds START_TIME: what it keeps up from row to row, and its answer.
use Prim.Native.Nat.{ℕ, zero, suc, ◌+◌, ◌-◌, ◌*◌, ◌/◌, ◌%◌, ◌≤◌, ◌<◌}
use mathlib.Core.Path.{◌≡◌, refl, sym, ap, ap₂, subst, ◌∙◌}
use mathlib.Core.Bool.{Bool, true, false, cond}
use mathlib.Core.List.{List, [], ◌∷◌, ◌++◌}
use native.Mathlib.Omega.{arith}
use native.Mathlib.Numerals.{add-one}
use Rattle.std.specs.Prelude.{Some, None}
use lib.ListN.{length, get_or, drop, length-append, length-drop, drop_of_length-le}
use lib.Seq.{get_or-drop}
use borrow.Author.Rules.{rules}
use Rattle.rules.specs.Data.{Span, object, group, Row, attribute, pointer, opened, closed, an_integer, a_real, a_moment, a_text, a_symbol, a_unit, sequence, sequence_end, set, set_end, last}
use Rattle.rules.specs.Modes.{base}
use Rattle.rules.specs.Proper.{Each, one}
use Rattle.rules.specs.Table.{encode, table}
use Rattle.rules.specs.Asked.{From, here, Finding, stands, absent, Looks}
use Rattle.rules.specs.Book.{start_time}
use Rattle.rules.proofs.Machine.Limits.{Codes, Short}
use Rattle.rules.proofs.Machine.Lookup.{way, for_way, has_name, seeks}
use Rattle.rules.proofs.Tables.Judge.{encode_size}
use Rattle.rules.proofs.Tables.OwnTable.{read_codes}
use Rattle.rules.proofs.Tables.Seeking.{from_next, from_bytes, from_each}
use Rattle.rules.proofs.Book.Counting.{start_looks}
use Rattle.book.specs.Kinds.{way_of, length_of, number_at, span_at}
use Rattle.book.specs.Sessions.{TableOf, StartsAt, nowhere, at_row}
use Rattle.book.specs.declared.kinds.Way.{Way}
use Rattle.book.specs.declared.kinds.Way.TheVariants.{Named, Plain, Opening, Closing, Ending}

-- ---- rows by their bytes

-- what the lookup does with a row, by the code's way with it
abbrev by_code : {A : Type 0} → Way → A → A → A → A → A → A
by_code Named s a b c d = s
by_code Plain s a b c d = a
by_code Opening s a b c d = b
by_code Closing s a b c d = c
by_code Ending s a b c d = d

pub two_bytes : (n : ℕ) → n < 65536 → (n / 256) % 256 * 256 + (n / 1) % 256 ≡ n
two_bytes n h = omega arith

span_same : (p : Span) (x y : ℕ) → x ≡ p.from → y ≡ p.upto → p ≡ record { from = x; upto = y }
span_same p x y e f = rw (e, f)

attribute_span : (p : Span) (rest : List ℕ) → Short p → p ≡ span_at (encode (attribute p) ++ rest) 0
attribute_span p rest h = span_same p _ _ (two_bytes p.from h.from_short) (two_bytes p.upto h.upto_short)

-- the first byte tells what the lookup does with a row, and of an attribute the next four its name
row_way : {A : Type 0} (r : Row) (rest : List ℕ) → Codes r → (f : Span → A) (a b c d : A) →
    for_way (way r) f a b c d ≡ by_code (way_of (get_or (encode r ++ rest) 0 0)) (f (span_at (encode r ++ rest) 0)) a b c d
row_way (attribute p) rest h f a b c d = ap f (attribute_span p rest h)
row_way (pointer p) rest h f a b c d = refl
row_way (opened object p) rest h f a b c d = refl
row_way (opened group p) rest h f a b c d = refl
row_way (closed object) rest h f a b c d = refl
row_way (closed group) rest h f a b c d = refl
row_way (an_integer w) rest h f a b c d = refl
row_way (a_real x) rest h f a b c d = refl
row_way (a_moment t) rest h f a b c d = refl
row_way (a_text p) rest h f a b c d = refl
row_way (a_symbol p) rest h f a b c d = refl
row_way (a_unit op p w) rest h f a b c d = refl
row_way sequence rest h f a b c d = refl
row_way sequence_end rest h f a b c d = refl
row_way set rest h f a b c d = refl
row_way set_end rest h f a b c d = refl
row_way (last n) rest h f a b c d = refl

-- and how long it is
row_size : (r : Row) (rest : List ℕ) → length_of (get_or (encode r ++ rest) 0 0) ≡ length (encode r)
row_size (attribute p) rest = refl
row_size (pointer p) rest = refl
row_size (opened object p) rest = refl
row_size (opened group p) rest = refl
row_size (closed object) rest = refl
row_size (closed group) rest = refl
row_size (an_integer w) rest = refl
row_size (a_real x) rest = refl
row_size (a_moment t) rest = refl
row_size (a_text p) rest = refl
row_size (a_symbol p) rest = refl
row_size (a_unit op p w) rest = refl
row_size sequence rest = refl
row_size sequence_end rest = refl
row_size set rest = refl
row_size set_end rest = refl
row_size (last n) rest = refl

-- a row with a name that is looked at is an attribute's
abbrev unnamed : Way → ℕ
unnamed Named = 0
unnamed Plain = 1
unnamed Opening = 1
unnamed Closing = 1
unnamed Ending = 1

named_row : (r : Row) (rest : List ℕ) → unnamed (way_of (get_or (encode r ++ rest) 0 0)) ≡ 0 → (p : Span) × (r ≡ attribute p)
named_row (attribute p) rest e = (p, refl)
named_row (pointer p) rest e = absurd (omega arith)
named_row (opened object p) rest e = absurd (omega arith)
named_row (opened group p) rest e = absurd (omega arith)
named_row (closed object) rest e = absurd (omega arith)
named_row (closed group) rest e = absurd (omega arith)
named_row (an_integer w) rest e = absurd (omega arith)
named_row (a_real x) rest e = absurd (omega arith)
named_row (a_moment t) rest e = absurd (omega arith)
named_row (a_text p) rest e = absurd (omega arith)
named_row (a_symbol p) rest e = absurd (omega arith)
named_row (a_unit op p w) rest e = absurd (omega arith)
named_row sequence rest e = absurd (omega arith)
named_row sequence_end rest e = absurd (omega arith)
named_row set rest e = absurd (omega arith)
named_row set_end rest e = absurd (omega arith)
named_row (last n) rest e = absurd (omega arith)

-- ---- the rows from a place on

module _ (label lent : List ℕ) where
  -- the bytes from a place on are those of the rows there
  pub byte_there : {rows qs : List Row} {at : ℕ} → TableOf label lent rows → From at rows qs → (i : ℕ) → get_or lent (at + i) 0 ≡ get_or (table qs) i 0
  byte_there {rows} {qs} {at} t f i = ap (λ (l : List ℕ). get_or l (at + i) 0) t.bytes ∙ sym (get_or-drop at (table rows) i 0) ∙ ap (λ (l : List ℕ). get_or l i 0) (from_bytes f)

  first_byte : {rows qs : List Row} {at : ℕ} → TableOf label lent rows → From at rows qs → get_or lent at 0 ≡ get_or (table qs) 0 0
  first_byte {at = at} t f = let e : at ≡ at + 0 = omega arith in ap (λ (i : ℕ). get_or lent i 0) e ∙ byte_there t f 0

  number_there : {rows qs : List Row} {at : ℕ} → TableOf label lent rows → From at rows qs → (i : ℕ) → number_at lent (at + i) ≡ number_at (table qs) i
  number_there {at = at} t f i =
      let e : at + i + 1 ≡ at + (i + 1) = omega arith in
      ap₂ (λ (x y : ℕ). x * 256 + y) (byte_there t f i) (ap (λ (k : ℕ). get_or lent k 0) e ∙ byte_there t f (i + 1))

  span_there : {rows qs : List Row} {at : ℕ} → TableOf label lent rows → From at rows qs → span_at lent at ≡ span_at (table qs) 0
  span_there t f = ap₂ (λ (x y : ℕ). record { from = x; upto = y }) (number_there t f 1) (number_there t f 3)

  -- at the table's end no row is left
  none_left : {rows : List Row} {at : ℕ} (qs : List Row) → TableOf label lent rows → From at rows qs → length lent ≤ at → qs ≡ []
  none_left [] t f h = refl
  none_left {rows} {at} (r ∷ rs) t f h =
      let k : length (table rows) ≤ at = subst (λ (l : List ℕ). length l ≤ at) t.bytes h in
      let e : [] ≡ encode r ++ table rs = sym (drop_of_length-le (table rows) k) ∙ from_bytes f in
      let q : 0 ≡ length (encode r ++ table rs) = ap length e in
      absurd (omega (arith, encode_size r, length-append (encode r) (table rs)))

  -- and before it there is one
  record First (qs : List Row) : Type 0 where
    row : Row
    rest : List Row
    is : qs ≡ row ∷ rest

  first : {rows : List Row} {at : ℕ} (qs : List Row) → TableOf label lent rows → From at rows qs → at < length lent → First qs
  first {rows} {at} [] t f h =
      let e : length (drop at lent) ≡ 0 = ap (λ (l : List ℕ). length (drop at l)) t.bytes ∙ ap length (from_bytes f) in
      absurd (omega (arith, length-drop at lent))
  first (r ∷ rs) t f h = record { row = r; rest = rs; is = refl }

  -- ---- the walk

  -- what is sought from the rows left, in so many open blocks, is what is sought from the first row on
  pub record Ahead (at depth : ℕ) : Type 0 where
    pub on : (rows : List Row) → TableOf label lent rows → (left : List Row) × From at rows left × (seeks label start_time depth at left ≡ seeks label start_time 0 0 rows)
    pub deep : depth ≤ at

  pub walk_starts : Ahead 0 0
  walk_starts = record { on = λ rows t. (rows, here, refl); deep = omega arith }

  -- no START_TIME, where that is known of what is left
  none_ahead : {at depth : ℕ} → Ahead at depth → ((rows qs : List Row) → TableOf label lent rows → From at rows qs → seeks label start_time depth at qs ≡ absent) → StartsAt label lent None
  none_ahead a g = nowhere (λ rows t. let o = a.on rows t in subst (Looks label start_time 0 rows) (sym o.2 ∙ g rows o.0 t o.1) (start_looks t.reads))

  pub walk_runs_out : {at depth : ℕ} → Ahead at depth → length lent ≤ at → StartsAt label lent None
  unfolding seeks
  walk_runs_out {at} {depth} a h = none_ahead a (λ rows qs t f. ap (seeks label start_time depth at) (none_left qs t f h))

  module _ {at depth n : ℕ} {w : Way} (a : Ahead at depth) (h : at < length lent) (e : n ≡ length_of (get_or lent at 0)) (v : w ≡ way_of (get_or lent at 0)) where
    -- the row there, by its bytes
    record RowThere (rows qs : List Row) : Type 0 where
      row : Row
      rest : List Row
      is : qs ≡ row ∷ rest
      size : length (encode row) ≡ n
      does : (f : Span → Finding) (x y z u : Finding) → for_way (way row) f x y z u ≡ by_code w (f (span_at lent at)) x y z u

    row_there : (rows qs : List Row) → TableOf label lent rows → From at rows qs → RowThere rows qs
    row_there rows qs t f =
        let o = first qs t f h in
        let g : From at rows (o.row ∷ o.rest) = subst (From at rows) o.is f in
        let k : get_or lent at 0 ≡ get_or (encode o.row ++ table o.rest) 0 0 = first_byte t g in
        let c : Codes o.row = head (from_each g (read_codes base label t.reads)) in
        record {
          row = o.row;
          rest = o.rest;
          is = o.is;
          size = sym (e ∙ ap (λ (b : ℕ). length_of b) k ∙ row_size o.row (table o.rest));
          does = λ f x y z u. row_way o.row (table o.rest) c f x y z u ∙ ap₂ (λ (i : Way) (p : Span). by_code i (f p) x y z u) (sym (v ∙ ap (λ (b : ℕ). way_of b) k)) (sym (span_there t g));
        }
      where
        head : {r : Row} {rs : List Row} → Each Codes (r ∷ rs) → Codes r
        head (one c cs) = c

    -- one row on
    passes : (d : ℕ) → d ≤ at + n → ((rows qs : List Row) (o : RowThere rows qs) → seeks label start_time depth at (o.row ∷ o.rest) ≡ seeks label start_time d (at + n) o.rest) → Ahead (at + n) d
    passes d l g = record {
      on = λ rows t.
          let b = a.on rows t in
          let o = row_there rows b.0 t b.1 in
          let f : From (at + length (encode o.row)) rows o.rest = from_next (subst (From at rows) o.is b.1) in
          (o.rest, subst (λ (i : ℕ). From (at + i) rows o.rest) o.size f, sym (g rows b.0 o) ∙ ap (seeks label start_time depth at) (sym o.is) ∙ b.2);
      deep = l;
    }

    -- what is sought from this row on, by the code's way with it
    abbrev next : ℕ → List Row → Finding
    next d rest = seeks label start_time d (at + n) rest

    abbrev sought : ℕ → List Row → Finding
    sought zero rest = by_code w (cond (has_name label start_time (span_at lent at)) (stands at) (next 0 rest)) (next 0 rest) (next 1 rest) absent absent
    sought (suc d) rest = by_code w (next (suc d) rest) (next (suc d) rest) (next (suc (suc d)) rest) (next d rest) absent

    step : (d : ℕ) (rows qs : List Row) (o : RowThere rows qs) → seeks label start_time d at (o.row ∷ o.rest) ≡ sought d o.rest
    unfolding seeks
    step zero rows qs o = rw o.size (o.does _ _ _ _ _)
    step (suc d) rows qs o = rw o.size (o.does _ _ _ _ _)

    none_there : ((rest : List Row) → sought depth rest ≡ absent) → StartsAt label lent None
    none_there g = none_ahead a (λ rows qs t f. let o = row_there rows qs t f in ap (seeks label start_time depth at) o.is ∙ step depth rows qs o ∙ g o.rest)

    on : (d : ℕ) → d ≤ at + n → ((rest : List Row) → sought depth rest ≡ next d rest) → Ahead (at + n) d
    on d l g = passes d l (λ rows qs o. step depth rows qs o ∙ g o.rest)

    pub walk_ends : w ≡ Ending → StartsAt label lent None
    walk_ends k = none_there (go depth)
      where
        go : (d : ℕ) (rest : List Row) → sought d rest ≡ absent
        go zero rest = rw k
        go (suc d) rest = rw k

    pub walk_plain : w ≡ Plain → Ahead (at + n) depth
    walk_plain k = on depth (omega (arith, a.deep)) (go depth)
      where
        go : (d : ℕ) (rest : List Row) → sought d rest ≡ next d rest
        go zero rest = rw k
        go (suc d) rest = rw k

    pub walk_inside : w ≡ Named → (depth ≡ 0 → ⊥) → Ahead (at + n) depth
    walk_inside k z = on depth (omega (arith, a.deep)) (go depth z)
      where
        go : (d : ℕ) → (d ≡ 0 → ⊥) → (rest : List Row) → sought d rest ≡ next d rest
        go zero z rest = absurd (z refl)
        go (suc d) z rest = rw k

    pub walk_opens : w ≡ Opening → 1 ≤ n → Ahead (at + n) (depth + 1)
    walk_opens k i = on (depth + 1) (omega (arith, a.deep)) (λ rest. go depth rest ∙ ap (λ (d : ℕ). next d rest) (sym (add-one depth)))
      where
        go : (d : ℕ) (rest : List Row) → sought d rest ≡ next (suc d) rest
        go zero rest = rw k
        go (suc d) rest = rw k

    pub walk_closes : w ≡ Closing → (depth ≡ 0 → ⊥) → Ahead (at + n) (depth - 1)
    walk_closes k z = on (depth - 1) (omega (arith, a.deep)) (go depth z)
      where
        go : (d : ℕ) → (d ≡ 0 → ⊥) → (rest : List Row) → sought d rest ≡ next (d - 1) rest
        go zero z rest = absurd (z refl)
        go (suc d) z rest = let e : suc d - 1 ≡ d = omega arith in rw (k, e)

    pub walk_closed : w ≡ Closing → depth ≡ 0 → StartsAt label lent None
    walk_closed k z = none_there (go depth z)
      where
        go : (d : ℕ) → d ≡ 0 → (rest : List Row) → sought d rest ≡ absent
        go zero z rest = rw k
        go (suc d) z rest = absurd (omega arith)

    module _ {t : Bool} (k : w ≡ Named) (z : depth ≡ 0) (b : t ≡ has_name label start_time (span_at lent at)) where
      at_top : (d : ℕ) → d ≡ 0 → (rest : List Row) → sought d rest ≡ cond t (stands at) (next d rest)
      at_top zero z rest = rw (k, b)
      at_top (suc d) z rest = absurd (omega arith)

      pub walk_passes : t ≡ false → Ahead (at + n) depth
      walk_passes q = on depth (omega (arith, a.deep)) (λ rest. at_top depth z rest ∙ ap (λ (u : Bool). cond u (stands at) (next depth rest)) q)

      pub walk_found : t ≡ true → StartsAt label lent (Some at)
      walk_found q = at_row h (λ rows u.
          let o = a.on rows u in
          let r = row_there rows o.0 u o.1 in
          let y = at_top depth z r.rest ∙ ap (λ (u : Bool). cond u (stands at) (next depth r.rest)) q in
          let f : From at rows (r.row ∷ r.rest) = subst (From at rows) r.is o.1 in
          let p = named_row r.row (table r.rest) (ap (λ (i : ℕ). unnamed (way_of i)) (sym (first_byte u f)) ∙ ap unnamed (sym v ∙ k)) in
          let l = subst (Looks label start_time 0 rows) (sym o.2 ∙ ap (seeks label start_time depth at) r.is ∙ step depth rows o.0 r ∙ y) (start_looks u.reads) in
          (l, p.0, r.rest, subst (λ (x : Row). From at rows (x ∷ r.rest)) p.1 f))

pub ruleset walks = (walk_starts, walk_runs_out, walk_ends, walk_plain, walk_inside, walk_opens, walk_closes, walk_closed, walk_passes, walk_found, rules)
