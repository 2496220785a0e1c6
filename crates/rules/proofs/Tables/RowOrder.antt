-- The rows of every label come in an order that the row machine accepts.
use Prim.Native.Nat.{ℕ, suc, ◌<◌}
use native.Mathlib.Decide.{dec_lt}
use mathlib.Core.Path.{◌≡◌, refl, sym, ap, ◌∙◌, subst}
use mathlib.Core.List.{List, [], ◌∷◌, ◌++◌, append_assoc}
use lib.ListN.{length}
use Rattle.rules.specs.Data.{Span, Placed, Kind, Kind-discrete, object, group, Op, Row, opened, closed, sequence_end}
use Rattle.rules.specs.Modes.{Mode}
use Rattle.rules.specs.Grammar.{strict, Factor, factor, Factors, no_factor, by_times, by_divided, Units, no_units, units, Scalar, integer_value, based_value, real_value, date_time_value, text_value, symbol_value, identifier_value, Scalars, no_scalar, and_scalar, Sequence1, sequence_1_d, Rows, no_row, and_row, one_dimension, sequence_2_d, set_of, empty_set, Value, scalar_value, sequence_value, set_value, range_value, Statements, no_statement, and_statement, assignment, pointing, block, Label, label}
use Rattle.rules.proofs.Machine.Statements.{Group, in_sequence, in_row, in_set, Place, alone, within, chosen}
use Rattle.rules.proofs.Machine.Rows.{Sort, s_attribute, s_pointer, s_number, s_other, s_unit_first, s_unit_more, s_sequence, s_opened, s_closed, Sort-discrete, unit_sort, sort, Await, t_statement, t_value, t_first, t_set_first, t_in_row, t_row, t_number, t_units, t_member, Kinds, To, to_none, to, RowLine, look, t_after, scalar_lines, end_lines, after_lines, lines, sort_step, row_here, row_by, RowAccepts}
use Rattle.rules.proofs.Tables.RowRuns.{none_to}

-- ---- the order of the rows

look_kept : (j k : Sort) (n : To) (l : List RowLine) → look l j ≡ to_none → {t : Await} {o : Kinds} → look l k ≡ to t o → (d : Dec (j ≡ k)) → chosen d n (look l k) ≡ to t o
look_kept j k n l h e (yes i) = absurd (none_to (sym h ∙ ap (look l) i ∙ e))
look_kept j k n l h e (no i) = e

after_refuses : (c : Place) (o : Kinds) → (look (after_lines c o) s_unit_first ≡ to_none) × (look (after_lines c o) s_unit_more ≡ to_none)
after_refuses alone [] = (refl, refl)
after_refuses alone (k ∷ o) = (refl, refl)
after_refuses (within in_sequence) o = (refl, refl)
after_refuses (within in_row) o = (refl, refl)
after_refuses (within in_set) o = (refl, refl)

number_accepts : (c : Place) {o : Kinds} {qs : List Row} → RowAccepts (t_after c) o qs → RowAccepts (t_number c) o qs
number_accepts alone {o} (row_by {r = r} e a) =
    row_by (look_kept s_unit_first (sort r) _ (after_lines alone o) (after_refuses alone o).0 e (Sort-discrete Kind-discrete s_unit_first (sort r))) a
number_accepts (within g) {o} (row_by {r = r} e a) =
    row_by (look_kept s_unit_first (sort r) _ (after_lines (within g) o) (after_refuses (within g) o).0 e (Sort-discrete Kind-discrete s_unit_first (sort r))) a

units_end_lem : (c : Place) {o : Kinds} {qs : List Row} → RowAccepts (t_after c) o qs → RowAccepts (t_units c) o qs
units_end_lem alone {o} (row_by {r = r} e a) =
    row_by (look_kept s_unit_more (sort r) _ (after_lines alone o) (after_refuses alone o).1 e (Sort-discrete Kind-discrete s_unit_more (sort r))) a
units_end_lem (within g) {o} (row_by {r = r} e a) =
    row_by (look_kept s_unit_more (sort r) _ (after_lines (within g) o) (after_refuses (within g) o).1 e (Sort-discrete Kind-discrete s_unit_more (sort r))) a

module _ (m : Mode) where
  factor_sorted : {op : Op} {xs : List Placed} {r : Row} → Factor m strict op xs r → sort r ≡ unit_sort op
  factor_sorted (factor x) = refl

  factors_rows : (c : Place) {o : Kinds} {xs : List Placed} {rs qs : List Row} → Factors m strict xs rs → RowAccepts (t_after c) o qs → RowAccepts (t_units c) o (rs ++ qs)
  factors_rows c no_factor a = units_end_lem c a
  factors_rows c {o} (by_times f fs) a = row_by (ap (look (lines (t_units c) o)) (factor_sorted f)) (factors_rows c fs a)
  factors_rows c {o} (by_divided f fs) a = row_by (ap (look (lines (t_units c) o)) (factor_sorted f)) (factors_rows c fs a)

  units_rows : (c : Place) {o : Kinds} {xs : List Placed} {rs qs : List Row} → Units m strict xs rs → RowAccepts (t_after c) o qs → RowAccepts (t_number c) o (rs ++ qs)
  units_rows c no_units a = number_accepts c a
  units_rows c {o} (units q f fs) a = row_by (ap (look (lines (t_number c) o)) (factor_sorted f)) (factors_rows c fs a)

  -- a scalar, where its lines stand first
  scalar_rows : (t : Await) (c : Place) (o : Kinds) (l : List RowLine) → lines t o ≡ scalar_lines c o l →
      {xs : List Placed} {rs qs : List Row} → Scalar m strict xs rs → RowAccepts (t_after c) o qs → RowAccepts t o (rs ++ qs)
  scalar_rows t c o l h (integer_value {w} u) a = row_by (ap (λ (k : List RowLine). look k s_number) h) (units_rows c u a)
  scalar_rows t c o l h (based_value {w} u) a = row_by (ap (λ (k : List RowLine). look k s_number) h) (units_rows c u a)
  scalar_rows t c o l h (real_value {x} u) a = row_by (ap (λ (k : List RowLine). look k s_number) h) (units_rows c u a)
  scalar_rows t c o l h date_time_value a = row_by (ap (λ (k : List RowLine). look k s_other) h) a
  scalar_rows t c o l h text_value a = row_by (ap (λ (k : List RowLine). look k s_other) h) a
  scalar_rows t c o l h symbol_value a = row_by (ap (λ (k : List RowLine). look k s_other) h) a
  scalar_rows t c o l h identifier_value a = row_by (ap (λ (k : List RowLine). look k s_other) h) a

  scalars_rows : (g : Group) {o : Kinds} {xs : List Placed} {rs qs : List Row} → Scalars m strict xs rs → RowAccepts (t_member g) o qs → RowAccepts (t_member g) o (rs ++ qs)
  scalars_rows g no_scalar a = a
  scalars_rows g {o} (and_scalar b sc scs) a =
      simp append_assoc (scalar_rows (t_member g) (within g) o (end_lines g o) refl sc (scalars_rows g scs a))

  row_rows : {o : Kinds} {xs : List Placed} {rs qs : List Row} (t : Await) → sort_step t o s_sequence ≡ to t_in_row o → Sequence1 m strict xs rs → RowAccepts t_row o qs → RowAccepts t o (rs ++ qs)
  row_rows {o} t e (sequence_1_d q sc scs) a =
      simp append_assoc (row_by e (scalar_rows t_in_row (within in_row) o [] refl sc (scalars_rows in_row scs (row_by refl a))))

  rows_rows : {o : Kinds} {xs : List Placed} {rs qs : List Row} → Rows m strict xs rs → RowAccepts t_statement o qs → RowAccepts t_row o (rs ++ (sequence_end ∷ qs))
  rows_rows no_row a = row_by refl a
  rows_rows (and_row b sq rws) a = simp append_assoc (row_rows t_row refl sq (rows_rows rws a))

  value_rows : {o : Kinds} {xs : List Placed} {rs qs : List Row} → Value m strict xs rs → RowAccepts t_statement o qs → RowAccepts t_value o (rs ++ qs)
  value_rows {o} (scalar_value sc) a = scalar_rows t_value alone o _ refl sc a
  value_rows {o} (sequence_value (one_dimension (sequence_1_d q sc scs))) a =
      simp append_assoc (row_by refl (scalar_rows t_first (within in_sequence) o _ refl sc (scalars_rows in_sequence scs (row_by refl a))))
  value_rows (sequence_value (sequence_2_d q sq rws)) a = simp append_assoc (row_by refl (row_rows t_first refl sq (rows_rows rws a)))
  value_rows {o} (set_value (set_of q sc scs)) a =
      simp append_assoc (row_by refl (scalar_rows t_set_first (within in_set) o _ refl sc (scalars_rows in_set scs (row_by refl a))))
  value_rows (set_value empty_set) a = row_by refl (row_by refl a)
  value_rows (range_value h) a = row_by refl (row_by refl (number_accepts (within in_sequence) (row_by refl (number_accepts (within in_sequence) (row_by refl a)))))

  abbrev RowsTaken : ℕ → List Row → Type 0
  RowsTaken d rs = (o : Kinds) → d ≡ length o → (qs : List Row) → RowAccepts t_statement o qs → RowAccepts t_statement o (rs ++ qs)

  attribute_found : (o : Kinds) → (sort_step t_statement o s_attribute ≡ to t_value o) × (sort_step t_statement o s_pointer ≡ to t_value o)
  attribute_found [] = (refl, refl)
  attribute_found (k ∷ o) = (refl, refl)

  opened_found : (k : Kind) (o : Kinds) → sort_step t_statement o (s_opened k) ≡ chosen (dec_lt (length o) 80) (to t_statement (k ∷ o)) to_none
  opened_found object [] = refl
  opened_found object (j ∷ o) = refl
  opened_found group [] = refl
  opened_found group (j ∷ o) = refl

  chosen_yes : {P : Type 0} (d : Dec P) (a b : To) → P → chosen d a b ≡ a
  chosen_yes (yes h) a b p = refl
  chosen_yes (no h) a b p = absurd (h p)

  closed_found : (k : Kind) (o : Kinds) → sort_step t_statement (k ∷ o) (s_closed k) ≡ to t_statement o
  closed_found object o = refl
  closed_found group o = refl

  block_rows : {d : ℕ} (k : Kind) (p : Span) (rs : List Row) → d < 80 → RowsTaken (suc d) rs → RowsTaken d (opened k p ∷ (rs ++ (closed k ∷ [])))
  block_rows k p rs h ih o e qs a =
      simp append_assoc (row_by (opened_found k o ∙ chosen_yes (dec_lt (length o) 80) (to t_statement (k ∷ o)) to_none (subst (λ (i : ℕ). i < 80) e h))
      (ih (k ∷ o) (ap suc e) (closed k ∷ qs) (row_by (closed_found k o) a)))

  statements_rows : {d : ℕ} {xs : List Placed} {rs : List Row} → Statements m strict d xs rs → RowsTaken d rs
  statements_rows ss =
      elim ss as (λ d xs rs t. RowsTaken d rs) (λ d xs rs t. RowsTaken d rs) [
        | no_statement ↦ λ o e qs a. a
        | and_statement (st → ih) (ss → ihs) ↦ λ o e qs a. simp append_assoc (ih o e _ (ihs o e qs a))
        | assignment {p = p} v sm ↦ λ o e qs a. row_by (attribute_found o).0 (value_rows v a)
        | pointing {q = p} v sm ↦ λ o e qs a. row_by (attribute_found o).1 (value_rows v a)
        | block {k = k} {q' = p} t {rs = rs} f h sm (ss → ih) cl sm' ↦ block_rows k p rs h ih
      ]

  pub rows_complete : {xs : List Placed} {rs : List Row} → Label m strict xs rs → RowAccepts t_statement [] rs
  rows_complete (label b p ss h) = statements_rows ss [] refl _ (row_by refl row_here)
