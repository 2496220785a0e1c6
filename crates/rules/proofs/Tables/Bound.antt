-- A table is at most five times as long as its label, in every mode but version 1, which may leave commas out.
use Prim.Native.Nat.{ℕ, suc, ◌+◌, ◌*◌, ◌≤◌}
use native.Mathlib.Omega.{arith}
use mathlib.Core.Path.{◌≡◌, refl, sym, ap, ◌∙◌}
use mathlib.Core.Bool.{false, false≢true}
use mathlib.Core.List.{List, [], ◌∷◌, ◌++◌}
use lib.ListN.{length, length-append}
use Rattle.rules.specs.Data.{greater, rpar, rbrace, the, end, Placed, ◌on◌, closer, Op, Row, closed, sequence_end, set_end, last}
use Rattle.rules.specs.Grammar.{Strictness, strict, Factor, factor, Factors, no_factor, by_times, by_divided, Units, no_units, units, Scalar, integer_value, based_value, real_value, date_time_value, text_value, symbol_value, identifier_value, Apart, comma_apart, beside, Scalars, no_scalar, and_scalar, Sequence1, sequence_1_d, Rows, no_row, and_row, Sequence, one_dimension, sequence_2_d, Set, set_of, empty_set, Value, scalar_value, sequence_value, set_value, range_value, Statements, no_statement, and_statement, assignment, pointing, block, Label, label}
use Rattle.rules.specs.Modes.{Mode, base}
use Rattle.rules.specs.Table.{table}
use Rattle.rules.specs.Reading.{accepted, Judged, follows, Reads, read}
use Rattle.rules.specs.SameElements.{Ample}
use Rattle.rules.proofs.Reading.Reader.{cut_length}
use Rattle.rules.proofs.Tables.Walk.{table_append}
use Rattle.rules.proofs.Tables.Widths.{widths, widths_append, cut_widths}

abbrev size : List Row → ℕ
size rs = length (table rs)

size_append : (rs qs : List Row) → size (rs ++ qs) ≡ size rs + size qs
size_append rs qs = ap length (table_append rs qs) ∙ length-append (table rs) (table qs)

-- A value may be longer than five times its elements by four bytes, which `=`, a comma or a bracket before it makes good.
abbrev Short : List Placed → List Row → Type 0
Short xs rs = size rs ≤ 5 * widths xs

abbrev Nearly : List Placed → List Row → Type 0
Nearly xs rs = size rs ≤ 5 * widths xs + 4

-- what stands between an opening sign and a closing one, with the row of each
listed_short : (xs ys zs : List Placed) (rs qs ps : List Row) → Nearly xs rs → Short ys qs → size ps ≡ 1 → widths zs ≡ 1 →
    suc (size (rs ++ (qs ++ ps))) ≤ 5 * (1 + widths (xs ++ (ys ++ zs)))
listed_short xs ys zs rs qs ps a b c d =
    omega (arith, size_append rs (qs ++ ps), size_append qs ps, widths_append xs (ys ++ zs), widths_append ys zs)

module _ (m : Mode) (s : Strictness) (commas : m.version_1 ≡ false) where
  factor_short : {op : Op} {xs : List Placed} {r : Row} → Factor m s op xs r → size (r ∷ []) ≤ 5 * widths xs + 2
  factor_short (factor x) = omega arith

  factors_short : {xs : List Placed} {rs : List Row} → Factors m s xs rs → Short xs rs
  factors_short no_factor = omega arith
  factors_short (by_times {xs = xs} {ys = ys} {r = r} {rs = rs} f fs) = omega (arith, factor_short f, factors_short fs, widths_append xs ys, size_append (r ∷ []) rs)
  factors_short (by_divided {xs = xs} {ys = ys} {r = r} {rs = rs} f fs) = omega (arith, factor_short f, factors_short fs, widths_append xs ys, size_append (r ∷ []) rs)

  units_short : {xs : List Placed} {rs : List Row} → Units m s xs rs → Short xs rs
  units_short no_units = omega arith
  units_short (units q {xs = xs} {ys = ys} {r = r} {rs = rs} f fs) =
      let zs = the greater on q ∷ [] in
      omega (arith, factor_short f, factors_short fs, widths_append xs (ys ++ zs), widths_append ys zs, size_append (r ∷ []) rs)

  scalar_short : {xs : List Placed} {rs : List Row} → Scalar m s xs rs → Nearly xs rs
  scalar_short (integer_value u) = omega (arith, units_short u)
  scalar_short (based_value u) = omega (arith, units_short u)
  scalar_short (real_value u) = omega (arith, units_short u)
  scalar_short date_time_value = omega arith
  scalar_short text_value = omega arith
  scalar_short symbol_value = omega arith
  scalar_short identifier_value = omega arith

  apart_width : {bs : List Placed} → Apart m s bs → 1 ≤ widths bs
  apart_width comma_apart = omega arith
  apart_width (beside b) = absurd (false≢true (sym commas ∙ b))

  scalars_short : {xs : List Placed} {rs : List Row} → Scalars m s xs rs → Short xs rs
  scalars_short no_scalar = omega arith
  scalars_short (and_scalar {bs = bs} {xs = xs} {ys = ys} {rs = rs} {qs = qs} b sc scs) =
      omega (arith, apart_width b, scalar_short sc, scalars_short scs, widths_append bs (xs ++ ys), widths_append xs ys, size_append rs qs)

  sequence1_short : {xs : List Placed} {rs : List Row} → Sequence1 m s xs rs → Short xs rs
  sequence1_short (sequence_1_d q {xs = xs} {ys = ys} {rs = rs} {qs = qs} sc scs) =
      listed_short xs ys (the rpar on q ∷ []) rs qs (sequence_end ∷ []) (scalar_short sc) (scalars_short scs) refl refl

  rows_short : {xs : List Placed} {rs : List Row} → Rows m s xs rs → Short xs rs
  rows_short no_row = omega arith
  rows_short (and_row {bs = bs} {xs = xs} {ys = ys} {rs = rs} {qs = qs} b sq rws) =
      omega (arith, sequence1_short sq, rows_short rws, widths_append bs (xs ++ ys), widths_append xs ys, size_append rs qs)

  sequence_short : {xs : List Placed} {rs : List Row} → Sequence m s xs rs → Short xs rs
  sequence_short (one_dimension sq) = sequence1_short sq
  sequence_short (sequence_2_d q {xs = xs} {ys = ys} {rs = rs} {qs = qs} sq rws) =
      listed_short xs ys (the rpar on q ∷ []) rs qs (sequence_end ∷ []) (omega (arith, sequence1_short sq)) (rows_short rws) refl refl

  set_short : {xs : List Placed} {rs : List Row} → Set m s xs rs → Short xs rs
  set_short (set_of q {xs = xs} {ys = ys} {rs = rs} {qs = qs} sc scs) =
      listed_short xs ys (the rbrace on q ∷ []) rs qs (set_end ∷ []) (scalar_short sc) (scalars_short scs) refl refl
  set_short empty_set = omega arith

  value_short : {xs : List Placed} {rs : List Row} → Value m s xs rs → Nearly xs rs
  value_short (scalar_value sc) = scalar_short sc
  value_short (sequence_value sq) = omega (arith, sequence_short sq)
  value_short (set_value st) = omega (arith, set_short st)
  value_short (range_value v) = omega arith

  statements_short : {d : ℕ} {xs : List Placed} {rs : List Row} → Statements m s d xs rs → Short xs rs
  statements_short ss =
      elim ss as (λ d xs rs t. Short xs rs) (λ d xs rs t. Short xs rs) [
        | no_statement ↦ omega arith
        | and_statement {xs = xs} {ys = ys} {rs = rs} {qs = qs} (st → ih) (ss → ihs) ↦ omega (arith, ih, ihs, widths_append xs ys, size_append rs qs)
        | assignment {xs = xs} {es = es} v sm ↦ omega (arith, value_short v, widths_append xs es)
        | pointing {xs = xs} {es = es} v sm ↦ omega (arith, value_short v, widths_append xs es)
        | block {k = k} t {es = es} {xs = xs} {cs = cs} {es' = es'} {rs = rs} f h sm (ss → ih) cl sm' ↦
            let zs = the (closer k) on t ∷ (cs ++ es') in
            omega (arith, ih, widths_append es (xs ++ zs), widths_append xs zs, size_append rs (closed k ∷ []))
      ]

  label_short : {xs : List Placed} {rs : List Row} → Label m s xs rs → Short xs rs
  label_short (label b p {xs = xs} {rs = rs} ss k) =
      omega (arith, statements_short ss, widths_append xs (end b on p ∷ []), size_append rs (last p.upto ∷ []))

-- the table of a label is at most five times as long as the label up to END, and so as the whole of it
module _ (m : Mode) (commas : m.version_1 ≡ false) where
  pub mode_bound : {l : List ℕ} {rows : List Row} {i : ℕ} → Judged m l (accepted rows i) → length (table rows) ≤ 5 * i
  mode_bound (follows c k) = omega (arith, label_short m strict commas k, cut_widths c)

  pub mode_label_bound : {l : List ℕ} {rows : List Row} {i : ℕ} → Judged m l (accepted rows i) → length (table rows) ≤ 5 * length l
  mode_label_bound (follows c k) = omega (arith, label_short m strict commas k, cut_widths c, cut_length m c)

  -- room of five times the label's length is ample
  pub ample_room : (l room : List ℕ) → 5 * length l ≤ length room → Ample m l room
  ample_room l room h rows i (read k j) = omega (arith, mode_label_bound j)

pub table_bound : {l : List ℕ} {rows : List Row} {i : ℕ} → Judged base l (accepted rows i) → length (table rows) ≤ 5 * i
table_bound j = mode_bound base refl j

pub label_bound : {l : List ℕ} {rows : List Row} {i : ℕ} → Judged base l (accepted rows i) → length (table rows) ≤ 5 * length l
label_bound j = mode_label_bound base refl j

-- room of five times the label's length is enough for its table
pub enough_room : (l room : List ℕ) {rows : List Row} {i : ℕ} → 5 * length l ≤ length room → Reads base l (accepted rows i) → length (table rows) ≤ length room
enough_room l room {rows} {i} h r = ample_room base refl l room h rows i r
