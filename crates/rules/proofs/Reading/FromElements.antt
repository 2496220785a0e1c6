-- What holds of every element of a label holds of the rows that it gives.
use Prim.Native.Nat.{ℕ}
use mathlib.Core.Bool.{Bool}
use mathlib.Core.List.{List, [], ◌∷◌, ◌++◌}
use Rattle.rules.specs.Data.{Span, Whole, Real, Moment, Name, Fixed, equals, caret, greater, rpar, rbrace, Elem, name, the, end, integer, based, real, moment, range, text, symbol, Placed, ◌on◌, Kind, closer, Op, Row, attribute, pointer, opened, closed, an_integer, a_real, a_moment, a_text, a_symbol, a_unit, sequence, sequence_end, set, set_end, last}
use Rattle.rules.specs.Grammar.{Strictness, Factor, factor, Factors, no_factor, by_times, by_divided, Units, no_units, units, Scalar, integer_value, based_value, real_value, date_time_value, text_value, symbol_value, identifier_value, Scalars, no_scalar, and_scalar, Sequence1, sequence_1_d, Rows, no_row, and_row, Sequence, one_dimension, sequence_2_d, Set, set_of, empty_set, Value, scalar_value, sequence_value, set_value, range_value, Statements, no_statement, and_statement, assignment, pointing, block, Label, label}
use Rattle.rules.specs.Modes.{Mode}

pub data Every (P : Elem → Span → Type 0) : List Placed → Type 0 where
  no_element : Every P []
  and_element : {e : Elem} {p : Span} {es : List Placed} → P e p → Every P es → Every P (e on p ∷ es)

module _ (P : Elem → Span → Type 0) where
  -- the element that a row comes from
  pub data FromElement : Row → Type 0 where
    from_attribute : {n : Name} {p : Span} → P (name n) p → FromElement (attribute p)
    from_pointer : {n : Name} {p : Span} → P (name n) p → FromElement (pointer p)
    from_opened : {n : Name} {p : Span} (k : Kind) → P (name n) p → FromElement (opened k p)
    from_closed : (k : Kind) → FromElement (closed k)
    from_integer : {w : Whole} {p : Span} → P (integer w) p → FromElement (an_integer w)
    from_based : {w : Whole} {p : Span} → P (based w) p → FromElement (an_integer w)
    from_low : {w hi : Whole} {p : Span} → P (range w hi) p → FromElement (an_integer w)
    from_high : {lo w : Whole} {p : Span} → P (range lo w) p → FromElement (an_integer w)
    from_real : {x : Real} {p : Span} → P (real x) p → FromElement (a_real x)
    from_moment : {t : Moment} {p : Span} → P (moment t) p → FromElement (a_moment t)
    from_text : {p : Span} → P text p → FromElement (a_text p)
    from_symbol : {p : Span} → P symbol p → FromElement (a_symbol p)
    from_identifier : {n : Name} {p : Span} → P (name n) p → FromElement (a_symbol p)
    from_unit : {op : Op} {n : Name} {p : Span} {w : Whole} → P (name n) p → FromElement (a_unit op p w)
    from_sequence : FromElement sequence
    from_sequence_end : FromElement sequence_end
    from_set : FromElement set
    from_set_end : FromElement set_end
    from_end : {b : Bool} {p : Span} → P (end b) p → FromElement (last p.upto)

  pub data Rooted : List Row → Type 0 where
    no_row_more : Rooted []
    ◌and◌ : {r : Row} {rs : List Row} → FromElement r → Rooted rs → Rooted (r ∷ rs)

  infixr 80 ◌and◌
  join : {rs qs : List Row} → Rooted rs → Rooted qs → Rooted (rs ++ qs)
  join no_row_more k = k
  join (h and t) k = h and join t k

  left : (xs ys : List Placed) → Every P (xs ++ ys) → Every P xs
  left [] ys h = no_element
  left (e on p ∷ xs) ys (and_element s t) = and_element s (left xs ys t)

  right : (xs ys : List Placed) → Every P (xs ++ ys) → Every P ys
  right [] ys h = h
  right (e on p ∷ xs) ys (and_element s t) = right xs ys t

  module _ (m : Mode) (s : Strictness) where
    factor_from : {op : Op} {xs : List Placed} {r : Row} → Factor m s op xs r → Every P xs → FromElement r
    factor_from (factor x) (and_element h t) = from_unit h

    factors_from : {xs : List Placed} {rs : List Row} → Factors m s xs rs → Every P xs → Rooted rs
    factors_from no_factor h = no_row_more
    factors_from (by_times {xs = xs} {ys = ys} f fs) (and_element a t) = factor_from f (left xs ys t) and factors_from fs (right xs ys t)
    factors_from (by_divided {xs = xs} {ys = ys} f fs) (and_element a t) = factor_from f (left xs ys t) and factors_from fs (right xs ys t)

    units_from : {xs : List Placed} {rs : List Row} → Units m s xs rs → Every P xs → Rooted rs
    units_from no_units h = no_row_more
    units_from (units q {xs = xs} {ys = ys} f fs) (and_element a t) =
        factor_from f (left xs (ys ++ (the greater on q ∷ [])) t) and factors_from fs (left ys (the greater on q ∷ []) (right xs (ys ++ (the greater on q ∷ [])) t))

    scalar_from : {xs : List Placed} {rs : List Row} → Scalar m s xs rs → Every P xs → Rooted rs
    scalar_from (integer_value u) (and_element a t) = from_integer a and units_from u t
    scalar_from (based_value u) (and_element a t) = from_based a and units_from u t
    scalar_from (real_value u) (and_element a t) = from_real a and units_from u t
    scalar_from date_time_value (and_element a t) = from_moment a and no_row_more
    scalar_from text_value (and_element a t) = from_text a and no_row_more
    scalar_from symbol_value (and_element a t) = from_symbol a and no_row_more
    scalar_from identifier_value (and_element a t) = from_identifier a and no_row_more

    scalars_from : {xs : List Placed} {rs : List Row} → Scalars m s xs rs → Every P xs → Rooted rs
    scalars_from no_scalar h = no_row_more
    scalars_from (and_scalar {bs = bs} {xs = xs} {ys = ys} b sc scs) h =
        let t = right bs (xs ++ ys) h in
        join (scalar_from sc (left xs ys t)) (scalars_from scs (right xs ys t))

    -- what stands between two ends
    listed : {xs ys : List Placed} (zs : List Placed) {rs qs : List Row} → Scalar m s xs rs → Scalars m s ys qs → (r : Row) → FromElement r → Every P (xs ++ (ys ++ zs)) →
        Rooted (rs ++ (qs ++ (r ∷ [])))
    listed {xs} {ys} zs sc scs r f h = join (scalar_from sc (left xs (ys ++ zs) h)) (join (scalars_from scs (left ys zs (right xs (ys ++ zs) h))) (f and no_row_more))

    sequence1_from : {xs : List Placed} {rs : List Row} → Sequence1 m s xs rs → Every P xs → Rooted rs
    sequence1_from (sequence_1_d q sc scs) (and_element a t) = from_sequence and listed (the rpar on q ∷ []) sc scs sequence_end from_sequence_end t

    rows_from : {xs : List Placed} {rs : List Row} → Rows m s xs rs → Every P xs → Rooted rs
    rows_from no_row h = no_row_more
    rows_from (and_row {bs = bs} {xs = xs} {ys = ys} b sq rws) h =
        let t = right bs (xs ++ ys) h in
        join (sequence1_from sq (left xs ys t)) (rows_from rws (right xs ys t))

    sequence_from : {xs : List Placed} {rs : List Row} → Sequence m s xs rs → Every P xs → Rooted rs
    sequence_from (one_dimension sq) h = sequence1_from sq h
    sequence_from (sequence_2_d q {xs = xs} {ys = ys} sq rws) (and_element a t) =
        let z = the rpar on q ∷ [] in
        from_sequence and join (sequence1_from sq (left xs (ys ++ z) t)) (join (rows_from rws (left ys z (right xs (ys ++ z) t))) (from_sequence_end and no_row_more))

    set_from : {xs : List Placed} {rs : List Row} → Set m s xs rs → Every P xs → Rooted rs
    set_from (set_of q sc scs) (and_element a t) = from_set and listed (the rbrace on q ∷ []) sc scs set_end from_set_end t
    set_from empty_set h = from_set and from_set_end and no_row_more

    value_from : {xs : List Placed} {rs : List Row} → Value m s xs rs → Every P xs → Rooted rs
    value_from (scalar_value sc) h = scalar_from sc h
    value_from (sequence_value sq) h = sequence_from sq h
    value_from (set_value st) h = set_from st h
    value_from (range_value v) (and_element a t) = from_sequence and from_low a and from_high a and from_sequence_end and no_row_more

    assignment_from : {n : Name} {p q : Span} {xs : List Placed} (es : List Placed) {rs : List Row} → Value m s xs rs →
        Every P (name n on p ∷ the equals on q ∷ (xs ++ es)) → Rooted (attribute p ∷ rs)
    assignment_from {xs = xs} es v (and_element a (and_element b t)) = from_attribute a and value_from v (left xs es t)

    pointing_from : {n : Name} {p q q' : Span} {xs : List Placed} (es : List Placed) {rs : List Row} → Value m s xs rs →
        Every P (the caret on p ∷ name n on q ∷ the equals on q' ∷ (xs ++ es)) → Rooted (pointer q ∷ rs)
    pointing_from {xs = xs} es v (and_element a (and_element b (and_element c t))) = from_pointer b and value_from v (left xs es t)

    block_from : (k : Kind) (es xs zs : List Placed) {f : Fixed} {n : Name} {p q q' : Span} {rs : List Row} → (Every P xs → Rooted rs) →
        Every P (the f on p ∷ the equals on q ∷ name n on q' ∷ (es ++ (xs ++ zs))) → Rooted (opened k q' ∷ (rs ++ (closed k ∷ [])))
    block_from k es xs zs ih (and_element a (and_element b (and_element c t))) =
        from_opened k c and join (ih (left xs zs (right es (xs ++ zs) t))) (from_closed k and no_row_more)

    statements_from : {d : ℕ} {xs : List Placed} {rs : List Row} → Statements m s d xs rs → Every P xs → Rooted rs
    statements_from ss =
        elim ss as (λ d xs rs t. Every P xs → Rooted rs) (λ d xs rs t. Every P xs → Rooted rs) [
          | no_statement ↦ λ h. no_row_more
          | and_statement {xs = xs} {ys = ys} (st → ih) (ss → ihs) ↦ λ h. join (ih (left xs ys h)) (ihs (right xs ys h))
          | assignment {es = es} v sm ↦ assignment_from es v
          | pointing {es = es} v sm ↦ pointing_from es v
          | block {k = k} t {es = es} {xs = xs} {cs = cs} {es' = es'} f h sm (ss → ih) cl sm' ↦ block_from k es xs (the (closer k) on t ∷ (cs ++ es')) ih
        ]

    -- each row of a label comes from an element of it
    pub label_from : {xs : List Placed} {rs : List Row} → Label m s xs rs → Every P xs → Rooted rs
    label_from (label b p {xs = xs} {rs = rs} ss k) h = last_from (right xs (end b on p ∷ []) h)
      where
        last_from : Every P (end b on p ∷ []) → Rooted (rs ++ (last p.upto ∷ []))
        last_from (and_element a t) = join (statements_from ss (left xs (end b on p ∷ []) h)) (from_end a and no_row_more)
