-- A mode that allows more takes every label that another takes, with the same rows.
use Prim.Native.Nat.{ℕ}
use mathlib.Core.Path.{◌≡◌}
use mathlib.Core.Bool.{true}
use mathlib.Core.List.{List}
use Rattle.rules.specs.Data.{Whole, Name, Fixed, Placed, Kind, Op, Row}
use Rattle.rules.specs.Grammar.{Strictness, two_stars, one_caret, Exponent, unwritten, written, Factor, factor, Factors, no_factor, by_times, by_divided, Units, no_units, units, Scalar, integer_value, based_value, real_value, date_time_value, text_value, symbol_value, identifier_value, Apart, comma_apart, beside, Scalars, no_scalar, and_scalar, Sequence1, sequence_1_d, Rows, no_row, and_row, one_dimension, sequence_2_d, set_of, empty_set, Value, scalar_value, sequence_value, set_value, range_value, Closing, unnamed, named, Semicolon, no_semicolon, a_semicolon, Opening, by_word, by_begin, Statements, no_statement, and_statement, Statement, assignment, pointing, block, Label, label}
use Rattle.rules.specs.Modes.{Mode}

-- `m'` allows all that `m` allows
pub record Allows (m m' : Mode) : Type 0 where
  pub pvl : m.pvl ≡ true → m'.pvl ≡ true
  pub version_1 : m.version_1 ≡ true → m'.version_1 ≡ true

module _ (m m' : Mode) (s : Strictness) (w : Allows m m') where
  exponent_too : {es : List Placed} {n : Whole} → Exponent m s es n → Exponent m' s es n
  exponent_too unwritten = unwritten
  exponent_too (written two_stars h) = written two_stars h
  exponent_too (written (one_caret v) h) = written (one_caret (w.version_1 v)) h

  factor_too : {op : Op} {xs : List Placed} {r : Row} → Factor m s op xs r → Factor m' s op xs r
  factor_too (factor e) = factor (exponent_too e)

  factors_too : {xs : List Placed} {rs : List Row} → Factors m s xs rs → Factors m' s xs rs
  factors_too no_factor = no_factor
  factors_too (by_times f fs) = by_times (factor_too f) (factors_too fs)
  factors_too (by_divided f fs) = by_divided (factor_too f) (factors_too fs)

  units_too : {xs : List Placed} {rs : List Row} → Units m s xs rs → Units m' s xs rs
  units_too no_units = no_units
  units_too (units q f fs) = units q (factor_too f) (factors_too fs)

  scalar_too : {xs : List Placed} {rs : List Row} → Scalar m s xs rs → Scalar m' s xs rs
  scalar_too (integer_value u) = integer_value (units_too u)
  scalar_too (based_value u) = based_value (units_too u)
  scalar_too (real_value u) = real_value (units_too u)
  scalar_too date_time_value = date_time_value
  scalar_too text_value = text_value
  scalar_too symbol_value = symbol_value
  scalar_too identifier_value = identifier_value

  apart_too : {bs : List Placed} → Apart m s bs → Apart m' s bs
  apart_too comma_apart = comma_apart
  apart_too (beside h) = beside (w.version_1 h)

  scalars_too : {xs : List Placed} {rs : List Row} → Scalars m s xs rs → Scalars m' s xs rs
  scalars_too no_scalar = no_scalar
  scalars_too (and_scalar b sc scs) = and_scalar (apart_too b) (scalar_too sc) (scalars_too scs)

  sequence1_too : {xs : List Placed} {rs : List Row} → Sequence1 m s xs rs → Sequence1 m' s xs rs
  sequence1_too (sequence_1_d q sc scs) = sequence_1_d q (scalar_too sc) (scalars_too scs)

  rows_too : {xs : List Placed} {rs : List Row} → Rows m s xs rs → Rows m' s xs rs
  rows_too no_row = no_row
  rows_too (and_row b sq rws) = and_row (apart_too b) (sequence1_too sq) (rows_too rws)

  value_too : {xs : List Placed} {rs : List Row} → Value m s xs rs → Value m' s xs rs
  value_too (scalar_value sc) = scalar_value (scalar_too sc)
  value_too (sequence_value (one_dimension sq)) = sequence_value (one_dimension (sequence1_too sq))
  value_too (sequence_value (sequence_2_d q sq rws)) = sequence_value (sequence_2_d q (sequence1_too sq) (rows_too rws))
  value_too (set_value (set_of q sc scs)) = set_value (set_of q (scalar_too sc) (scalars_too scs))
  value_too (set_value empty_set) = set_value empty_set
  value_too (range_value h) = range_value (w.version_1 h)

  closing_too : {n : Name} {cs : List Placed} → Closing m s n cs → Closing m' s n cs
  closing_too unnamed = unnamed
  closing_too (named h) = named h

  semicolon_too : {es : List Placed} → Semicolon m s es → Semicolon m' s es
  semicolon_too no_semicolon = no_semicolon
  semicolon_too (a_semicolon h) = a_semicolon (w.pvl h)

  opening_too : {k : Kind} {f : Fixed} → Opening m s k f → Opening m' s k f
  opening_too by_word = by_word
  opening_too (by_begin h) = by_begin (w.pvl h)

  statements_too : {d : ℕ} {xs : List Placed} {rs : List Row} → Statements m s d xs rs → Statements m' s d xs rs
  statements_too ss =
      elim ss as (λ d xs rs t. Statements m' s d xs rs) (λ d xs rs t. Statement m' s d xs rs) [
        | no_statement ↦ no_statement
        | and_statement (st → ih) (ss → ihs) ↦ and_statement ih ihs
        | assignment v sm ↦ assignment (value_too v) (semicolon_too sm)
        | pointing v sm ↦ pointing (value_too v) (semicolon_too sm)
        | block t f h sm (ss → ih) cl sm' ↦ block t (opening_too f) h (semicolon_too sm) ih (closing_too cl) (semicolon_too sm')
      ]

  pub label_too : {xs : List Placed} {rs : List Row} → Label m s xs rs → Label m' s xs rs
  label_too (label b p ss h) = label b p (statements_too ss) h
