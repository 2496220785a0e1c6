-- The rows of a label keep the limits of values, if its elements do.
use Prim.Native.Nat.{ℕ}
use mathlib.Core.Path.{refl}
use mathlib.Core.Bool.{false}
use mathlib.Core.List.{List, [], ◌∷◌, ◌++◌}
use native.Mathlib.Omega.{arith}
use Rattle.rules.specs.Proper.{Each, none, one}
use Rattle.rules.specs.Data.{Whole, greater, rpar, rbrace, closer, the, end, Placed, ◌on◌, Op, Row}
use Rattle.rules.specs.Modes.{Mode}
use Rattle.rules.specs.Grammar.{strict, Exponent, unwritten, written, Factor, factor, Factors, no_factor, by_times, by_divided, Units, no_units, units, Scalar, integer_value, based_value, real_value, date_time_value, text_value, symbol_value, identifier_value, Scalars, no_scalar, and_scalar, Sequence1, sequence_1_d, Rows, no_row, and_row, one_dimension, sequence_2_d, set_of, empty_set, Value, scalar_value, sequence_value, set_value, range_value, Statements, no_statement, and_statement, assignment, pointing, block, Label, label}
use Rattle.rules.proofs.Machine.Limits.{Within, PossibleAt, Valued}
use Rattle.rules.proofs.Tables.Tests.{each_left, each_right, each_append, each_last}

within_one : Within 100 (record { minus = false; size = 1 })
within_one = record { below = omega arith; zero_plain = λ e. refl }

-- the middle of three
mid : (xs ys zs : List Placed) → Each PossibleAt (xs ++ (ys ++ zs)) → Each PossibleAt ys
mid xs ys zs g = each_left ys zs (each_right xs (ys ++ zs) g)

tail : {x : Placed} {xs : List Placed} → Each PossibleAt (x ∷ xs) → Each PossibleAt xs
tail (one p g) = g

module _ (m : Mode) where
  exponent_fine : {xs : List Placed} {w : Whole} → Exponent m strict xs w → Each PossibleAt xs → Within 100 w
  exponent_fine unwritten g = within_one
  exponent_fine (written x h) (one p (one q g)) = record { below = omega arith; zero_plain = q.zero_plain }

  factor_each : {op : Op} {xs : List Placed} {r : Row} → Factor m strict op xs r → Each PossibleAt xs → Valued r
  factor_each (factor x) (one h g) = exponent_fine x g

  factors_each : {xs : List Placed} {rs : List Row} → Factors m strict xs rs → Each PossibleAt xs → Each Valued rs
  factors_each no_factor g = none
  factors_each (by_times {xs = xs} {ys = ys} f fs) (one p g) = one (factor_each f (each_left xs ys g)) (factors_each fs (each_right xs ys g))
  factors_each (by_divided {xs = xs} {ys = ys} f fs) (one p g) = one (factor_each f (each_left xs ys g)) (factors_each fs (each_right xs ys g))

  units_each : {xs : List Placed} {rs : List Row} → Units m strict xs rs → Each PossibleAt xs → Each Valued rs
  units_each no_units g = none
  units_each (units q {xs} {ys} f fs) (one p g) =
      let e : List Placed = the greater on q ∷ [] in
      one (factor_each f (each_left xs (ys ++ e) g)) (factors_each fs (mid xs ys e g))

  scalar_each : {xs : List Placed} {rs : List Row} → Scalar m strict xs rs → Each PossibleAt xs → Each Valued rs
  scalar_each (integer_value {w} {p} u) (one h g) = one h (units_each u g)
  scalar_each (based_value {w} {p} u) (one h g) = one h (units_each u g)
  scalar_each (real_value {x} {p} u) (one h g) = one h (units_each u g)
  scalar_each (date_time_value {t} {p}) (one h g) = one h none
  scalar_each (text_value {p}) (one h g) = one tt none
  scalar_each (symbol_value {p}) (one h g) = one tt none
  scalar_each (identifier_value {n} {p}) (one h g) = one tt none

  scalars_each : {xs : List Placed} {rs : List Row} → Scalars m strict xs rs → Each PossibleAt xs → Each Valued rs
  scalars_each no_scalar g = none
  scalars_each (and_scalar {bs} {xs} {ys} b sc scs) g =
      each_append (scalar_each sc (mid bs xs ys g)) (scalars_each scs (each_right xs ys (each_right bs (xs ++ ys) g)))

  row_each : {xs : List Placed} {rs : List Row} → Sequence1 m strict xs rs → Each PossibleAt xs → Each Valued rs
  row_each (sequence_1_d q {xs} {ys} sc scs) (one p g) =
      let e : List Placed = the rpar on q ∷ [] in
      one tt (each_append (scalar_each sc (each_left xs (ys ++ e) g)) (each_last (scalars_each scs (mid xs ys e g)) tt))

  rows_each : {xs : List Placed} {rs : List Row} → Rows m strict xs rs → Each PossibleAt xs → Each Valued rs
  rows_each no_row g = none
  rows_each (and_row {bs} {xs} {ys} b sq rws) g =
      each_append (row_each sq (mid bs xs ys g)) (rows_each rws (each_right xs ys (each_right bs (xs ++ ys) g)))

  value_each : {xs : List Placed} {rs : List Row} → Value m strict xs rs → Each PossibleAt xs → Each Valued rs
  value_each (scalar_value sc) g = scalar_each sc g
  value_each (sequence_value (one_dimension sq)) g = row_each sq g
  value_each (sequence_value (sequence_2_d q {xs} {ys} sq rws)) (one p g) =
      let e : List Placed = the rpar on q ∷ [] in
      one tt (each_append (row_each sq (each_left xs (ys ++ e) g)) (each_last (rows_each rws (mid xs ys e g)) tt))
  value_each (set_value (set_of q {xs} {ys} sc scs)) (one p g) =
      let e : List Placed = the rbrace on q ∷ [] in
      one tt (each_append (scalar_each sc (each_left xs (ys ++ e) g)) (each_last (scalars_each scs (mid xs ys e g)) tt))
  value_each (set_value empty_set) g = one tt (one tt none)
  value_each (range_value h) (one x g) = one tt (one x.0 (one x.1 (one tt none)))

  statements_each : {d : ℕ} {xs : List Placed} {rs : List Row} → Statements m strict d xs rs → Each PossibleAt xs → Each Valued rs
  statements_each ss =
      elim ss as (λ d xs rs t. Each PossibleAt xs → Each Valued rs) (λ d xs rs t. Each PossibleAt xs → Each Valued rs) [
        | no_statement ↦ λ g. none
        | and_statement {xs = xs} {ys = ys} (st → ih) (ss → ihs) ↦ λ g. each_append (ih (each_left xs ys g)) (ihs (each_right xs ys g))
        | assignment {n = n} {p = p} {xs = xs} {es = es} v sm ↦ λ g. one tt (value_each v (each_left xs es (tail (tail g))))
        | pointing {n = n} {q = q} {xs = xs} {es = es} v sm ↦ λ g. one tt (value_each v (each_left xs es (tail (tail (tail g)))))
        | block {k = k} {n = n} {q' = q} t {es = es} {xs = xs} {cs = cs} {es' = es'} f h sm (ss → ih) cl sm' ↦
            λ g. one tt (each_last (ih (mid es xs (the (closer k) on t ∷ (cs ++ es')) (tail (tail (tail g))))) tt)
      ]

  pub rows_valued : {xs : List Placed} {rs : List Row} → Label m strict xs rs → Each PossibleAt xs → Each Valued rs
  rows_valued (label b p {xs} ss h) g = each_last (statements_each ss (each_left xs (end b on p ∷ []) g)) tt
