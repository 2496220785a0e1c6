-- Each step is sound: what may come after it, with the element before it, may come before it.
use Prim.Native.Nat.{ℕ, ◌≤◌, ◌<◌}
use native.Mathlib.Decide.{dec_le, dec_lt}
use mathlib.Core.Path.{◌≡◌, refl, ◌∙◌, subst}
use mathlib.Core.Bool.{Bool, true, false, Bool-discrete}
use mathlib.Core.List.{List, [], ◌∷◌, ◌++◌, append_assoc}
use Rattle.rules.specs.Data.{Span, Whole, one, Name, Fixed, BEGIN_OBJECT, BEGIN_GROUP, equals, comma, star, slash, caret, less, greater, lpar, rpar, lbrace, rbrace, semicolon, name, the, end, integer, based, real, moment, range, text, symbol, Placed, ◌on◌, Kind, closer, Op, first, times, divided, Row, attribute, pointer, opened, closed, an_integer, a_real, a_moment, a_text, a_symbol, a_unit, sequence, sequence_end, set, set_end, last, Opens, outside, inside, depth}
use Rattle.rules.specs.Grammar.{Strictness, strict, relaxed, Kept, ExpOp, two_stars, one_caret, unwritten, written, Factor, factor, no_factor, by_times, by_divided, Units, no_units, units, Scalar, integer_value, based_value, real_value, date_time_value, text_value, symbol_value, identifier_value, Apart, comma_apart, beside, no_scalar, and_scalar, Sequence1, sequence_1_d, no_row, and_row, one_dimension, sequence_2_d, set_of, empty_set, scalar_value, sequence_value, set_value, range_value, unnamed, named, no_semicolon, a_semicolon, Opening, by_word, by_begin, no_statement, and_statement, Statement, assignment, pointing, block}
use Rattle.rules.specs.Modes.{Mode}
use Rattle.rules.proofs.Machine.Statements.{Group, in_sequence, in_row, in_set, Place, alone, within, Else, no_else, any_value, a_row, a_set_end, State, at_statement, at_semicolon, at_equals, at_pointer, at_opener, at_opened, at_closer, at_closed, at_scalar, at_number, at_member, at_row, at_next_row, at_unit, at_power, at_exponent, at_factor, at_end, Next, never, go, Answer, refuses, goes, judge, Entry, ◌⇒◌, Offer, dispatch, limit, after, a_scalar, name_discrete, row_begins, else, else_range, factors, powers, member, members, rows, openings, statements, after_statement, follows, offers, step}
use Rattle.rules.proofs.Grammar.Each.{Entries, entries_when, EachAnswer, each_only, each_name, each_whole, each_statement, each_also, each_scalar}
use Rattle.rules.proofs.Grammar.Rest.{Tail, tail_label, tail_block, ended_by, RowsRest, rows_rest, ending_sequence, ending_row, ending_set, After, after_alone, after_within, FactorsRest, factors_rest, other_sequence, other_set, other_row, other_range, other_end, Rest, r_statement, r_semicolon, r_equals, r_pointer, r_opener, r_opened, r_closer, r_closed, r_scalar, r_other, r_number, r_member, r_row, r_next_row, r_unit, r_power, r_exponent, r_factor, r_end}

pub keep : (s : Strictness) {P : Type 0} → P → Kept s P
keep strict h = h
keep relaxed h = tt

-- a limit either lets through, and is kept, or refuses
pub limit_case : (s : Strictness) {P : Type 0} (d : Dec P) (c : ℕ) (q : State) (o : Opens) (r : List Row) (G : Answer → Type 0) →
    G (refuses c) → (Kept s P → G (goes q o r)) → G (judge s (limit d c q o r))
limit_case s (yes h) c q o r G g f = f (keep s h)
limit_case strict (no h) c q o r G g f = g
limit_case relaxed (no h) c q o r G g f = f tt

module _ (m : Mode) (s : Strictness) where
  -- a step to `n` over `x` is sound
  abbrev Fits : State → Opens → Placed → Answer → Type 0
  Fits q o x (refuses c) = Unit {0}
  Fits q o x (goes q' o' r) = (ys : List Placed) (qs : List Row) → Rest m s q' o' ys qs → Rest m s q o (x ∷ ys) (r ++ qs)

  abbrev Good : State → Opens → Placed → Next → Type 0
  Good q o x n = Fits q o x (judge s n)

  -- ---- what a whole part does in front of the rest

  tail_cons : {o : Opens} {xs ys : List Placed} {rs qs : List Row} →
      Statement m s (depth o) xs rs → Tail m s o ys qs → Tail m s o (xs ++ ys) (rs ++ qs)
  tail_cons st (tail_label b p ss h) = simp append_assoc at (tail_label b p (and_statement st ss) h)
  tail_cons st (tail_block {k} p ss cl sm t) = simp append_assoc at (tail_block {k = k} p (and_statement st ss) cl sm t)

  rows_cons : {o : Opens} {bs xs ys : List Placed} {rs qs : List Row} →
      Apart m s bs → Sequence1 m s xs rs → RowsRest m s o ys qs → RowsRest m s o (bs ++ (xs ++ ys)) (rs ++ qs)
  rows_cons b sq (rows_rest p rws t) = simp append_assoc at (rows_rest p (and_row b sq rws) t)

  scalars_cons : {g : Group} {o : Opens} {bs xs ys : List Placed} {rs qs : List Row} →
      Apart m s bs → Scalar m s xs rs → After m s (within g) o ys qs → After m s (within g) o (bs ++ (xs ++ ys)) (rs ++ qs)
  scalars_cons b sc (after_within scs e) = simp append_assoc at (after_within (and_scalar b sc scs) e)

  times_cons : {c : Place} {o : Opens} {p : Span} {xs ys : List Placed} {r : Row} {qs : List Row} →
      Factor m s times xs r → FactorsRest m s c o ys qs → FactorsRest m s c o (the star on p ∷ (xs ++ ys)) (r ∷ qs)
  times_cons {p} f (factors_rest q fs a) = simp append_assoc at (factors_rest q (by_times {p = p} f fs) a)

  divided_cons : {c : Place} {o : Opens} {p : Span} {xs ys : List Placed} {r : Row} {qs : List Row} →
      Factor m s divided xs r → FactorsRest m s c o ys qs → FactorsRest m s c o (the slash on p ∷ (xs ++ ys)) (r ∷ qs)
  divided_cons {p} f (factors_rest q fs a) = simp append_assoc at (factors_rest q (by_divided {p = p} f fs) a)

  -- the rest after a scalar
  pub afterwards : (c : Place) {o : Opens} {ys : List Placed} {qs : List Row} → Rest m s (after c) o ys qs → After m s c o ys qs
  afterwards alone (r_semicolon t) = after_alone t
  afterwards (within g) (r_member a) = a

  -- ---- the steps, by the state that they leave

  name_attribute : {o : Opens} {n : Name} {p : Span} → Good at_statement o (name n on p) (go at_equals o (attribute p ∷ []))
  name_attribute {n} {p} ys qs (r_equals {p = q} v (ended_by sm t)) = r_statement (simp append_assoc at (tail_cons (assignment {n = n} {p = p} {q = q} v sm) t))

  end_label : {b : Bool} {p : Span} → Kept s (b ≡ true) → Good at_statement outside (end b on p) (go at_end outside (last p.upto ∷ []))
  end_label {b} {p} h ys qs r_end = r_statement (tail_label b p no_statement h)

  caret_pointer : {o : Opens} {p : Span} → Good at_statement o (the caret on p) (go at_pointer o [])
  caret_pointer {p} ys qs (r_pointer {n = n} {p = q} {q = q'} v (ended_by sm t)) =
      r_statement (simp append_assoc at (tail_cons (pointing {n = n} {p = p} {q = q} {q' = q'} v sm) t))

  open_block : {o : Opens} {k : Kind} {f : Fixed} {p : Span} → Opening m s k f → Kept s (depth o < 80) → Good at_statement o (the f on p) (go (at_opener k) o [])
  open_block {p} f h ys qs (r_opener {n = n} {p = q} {q = q'} (ended_by sm (tail_block t ss cl sm' tl))) =
      r_statement (simp append_assoc at (tail_cons (block {n = n} {p = p} {q = q} {q' = q'} t f h sm ss cl sm') tl))

  close_block : {k : Kind} {n : Name} {o : Opens} {p : Span} → Good at_statement (inside k n o) (the (closer k) on p) (go (at_closer n) o (closed k ∷ []))
  close_block {p} ys qs (r_closer cl (ended_by sm t)) = r_statement (tail_block p no_statement cl sm t)

  semicolon_ends : {o : Opens} {p : Span} → m.pvl ≡ true → Good at_semicolon o (the semicolon on p) (go at_statement o [])
  semicolon_ends h ys qs (r_statement t) = r_semicolon (ended_by (a_semicolon h) t)

  pub semicolon_missing : {o : Opens} {ys : List Placed} {qs : List Row} → Rest m s at_statement o ys qs → Rest m s at_semicolon o ys qs
  semicolon_missing (r_statement t) = r_semicolon (ended_by no_semicolon t)

  equals_value : {o : Opens} {p : Span} → Good at_equals o (the equals on p) (go (at_scalar alone any_value) o [])
  equals_value ys qs (r_scalar sc (after_alone t)) = r_equals (scalar_value sc) t
  equals_value ys qs (r_other (other_sequence sq t)) = r_equals (sequence_value sq) t
  equals_value ys qs (r_other (other_set st t)) = r_equals (set_value st) t
  equals_value ys qs (r_other (other_range h t)) = r_equals (range_value h) t

  range_alone : {c : Place} {o : Opens} {lo hi : Whole} {p : Span} → m.version_1 ≡ true →
      Good (at_scalar c any_value) o (range lo hi on p) (go at_semicolon o (sequence ∷ an_integer lo ∷ an_integer hi ∷ sequence_end ∷ []))
  range_alone h ys qs (r_semicolon t) = r_other (other_range h t)

  name_pointer : {o : Opens} {n : Name} {p : Span} → Good at_pointer o (name n on p) (go at_equals o (pointer p ∷ []))
  name_pointer ys qs (r_equals v t) = r_pointer v t

  equals_opener : {k : Kind} {o : Opens} {p : Span} → Good (at_opener k) o (the equals on p) (go (at_opened k) o [])
  equals_opener ys qs (r_opened t) = r_opener t

  name_opened : {k : Kind} {o : Opens} {n : Name} {p : Span} → Good (at_opened k) o (name n on p) (go at_semicolon (inside k n o) (opened k p ∷ []))
  name_opened ys qs (r_semicolon t) = r_opened t

  equals_closer : {n : Name} {o : Opens} {p : Span} → Good (at_closer n) o (the equals on p) (go (at_closed n) o [])
  equals_closer ys qs (r_closed h t) = r_closer (named h) t

  name_closed : {n n' : Name} {o : Opens} {p : Span} → Kept s (n' ≡ n) → Good (at_closed n) o (name n' on p) (go at_semicolon o [])
  name_closed h ys qs (r_semicolon t) = r_closed h t

  -- a row's opening, where it must come
  lpar_row : {o : Opens} {p : Span} → Good at_next_row o (the lpar on p) (go (at_scalar (within in_row) no_else) o (sequence ∷ []))
  lpar_row {p} ys qs (r_scalar sc (after_within scs (ending_row {p = q} rr))) = simp append_assoc at (r_next_row (sequence_1_d {p = p} q sc scs) rr)
  lpar_row ys qs (r_other t) = elim t [ ]

  lpar_else : {c : Place} {o : Opens} {p : Span} → Good (at_scalar c a_row) o (the lpar on p) (go (at_scalar (within in_row) no_else) o (sequence ∷ []))
  lpar_else {c} {p} ys qs (r_scalar sc (after_within scs (ending_row {p = q} rr))) =
      simp append_assoc at (r_other {c = c} (other_row (sequence_1_d {p = p} q sc scs) rr))
  lpar_else ys qs (r_other t) = elim t [ ]

  lpar_value : {c : Place} {o : Opens} {p : Span} → Good (at_scalar c any_value) o (the lpar on p) (go (at_scalar (within in_sequence) a_row) o (sequence ∷ []))
  lpar_value {c} {p} ys qs (r_scalar sc (after_within scs (ending_sequence {p = q} t))) =
      simp append_assoc at (r_other {c = c} (other_sequence (one_dimension (sequence_1_d {p = p} q sc scs)) t))
  lpar_value {c} {p} ys qs (r_other (other_row sq (rows_rest q rws t))) =
      simp append_assoc at (r_other {c = c} (other_sequence (sequence_2_d {p = p} q sq rws) t))

  lbrace_value : {c : Place} {o : Opens} {p : Span} → Good (at_scalar c any_value) o (the lbrace on p) (go (at_scalar (within in_set) a_set_end) o (set ∷ []))
  lbrace_value {c} {p} ys qs (r_scalar sc (after_within scs (ending_set {p = q} t))) =
      simp append_assoc at (r_other {c = c} (other_set (set_of {p = p} q sc scs) t))
  lbrace_value ys qs (r_other (other_end t)) = r_other (other_set empty_set t)

  rbrace_else : {c : Place} {o : Opens} {p : Span} → Good (at_scalar c a_set_end) o (the rbrace on p) (go at_semicolon o (set_end ∷ []))
  rbrace_else ys qs (r_semicolon t) = r_other (other_end t)

  less_unit : {c : Place} {o : Opens} {p : Span} → Good (at_number c) o (the less on p) (go (at_unit c first) o [])
  less_unit {p} ys qs (r_unit f (factors_rest q fs a)) = simp append_assoc at (r_number (units {p = p} q f fs) a)

  comma_member : {g : Group} {o : Opens} {p : Span} → Good (at_member g) o (the comma on p) (go (at_scalar (within g) no_else) o [])
  comma_member {p} ys qs (r_scalar sc a) = r_member (scalars_cons (comma_apart {p = p}) sc a)
  comma_member ys qs (r_other t) = elim t [ ]

  member_beside : {g : Group} {o : Opens} {ys : List Placed} {qs : List Row} → m.version_1 ≡ true →
      Rest m s (at_scalar (within g) no_else) o ys qs → Rest m s (at_member g) o ys qs
  member_beside h (r_scalar sc a) = r_member (scalars_cons (beside h) sc a)
  member_beside h (r_other t) = elim t [ ]

  sequence_ends : {o : Opens} {p : Span} → Good (at_member in_sequence) o (the rpar on p) (go at_semicolon o (sequence_end ∷ []))
  sequence_ends ys qs (r_semicolon t) = r_member (after_within no_scalar (ending_sequence t))

  row_ends : {o : Opens} {p : Span} → Good (at_member in_row) o (the rpar on p) (go at_row o (sequence_end ∷ []))
  row_ends ys qs (r_row t) = r_member (after_within no_scalar (ending_row t))

  set_ends : {o : Opens} {p : Span} → Good (at_member in_set) o (the rbrace on p) (go at_semicolon o (set_end ∷ []))
  set_ends ys qs (r_semicolon t) = r_member (after_within no_scalar (ending_set t))

  rows_end : {o : Opens} {p : Span} → Good at_row o (the rpar on p) (go at_semicolon o (sequence_end ∷ []))
  rows_end {p} ys qs (r_semicolon t) = r_row (rows_rest p no_row t)

  row_comma : {o : Opens} {p : Span} → Good at_row o (the comma on p) (go at_next_row o [])
  row_comma {p} ys qs (r_next_row sq rr) = r_row (rows_cons (comma_apart {p = p}) sq rr)

  row_beside : {o : Opens} {p : Span} → m.version_1 ≡ true → Good at_row o (the lpar on p) (go (at_scalar (within in_row) no_else) o (sequence ∷ []))
  row_beside {p} h ys qs (r_scalar sc (after_within scs (ending_row {p = q} rr))) =
      simp append_assoc at (r_row (rows_cons (beside h) (sequence_1_d {p = p} q sc scs) rr))
  row_beside h ys qs (r_other t) = elim t [ ]

  name_unit : {c : Place} {op : Op} {o : Opens} {n : Name} {p : Span} → Good (at_unit c op) o (name n on p) (go (at_power c op p) o [])
  name_unit ys qs (r_power e fr) = r_unit (factor e) fr

  power_exponent : {c : Place} {op : Op} {p q : Span} {o : Opens} {x : Fixed} → ExpOp m s x → Good (at_power c op p) o (the x on q) (go (at_exponent c op p) o [])
  power_exponent x ys qs (r_exponent h fr) = r_power (written x h) fr

  integer_exponent : {c : Place} {op : Op} {p q : Span} {o : Opens} {w : Whole} → Kept s (w.size ≤ 99) →
      Good (at_exponent c op p) o (integer w on q) (go (at_factor c) o (a_unit op p w ∷ []))
  integer_exponent h ys qs (r_factor fr) = r_exponent h fr

  star_factor : {c : Place} {o : Opens} {p : Span} → Good (at_factor c) o (the star on p) (go (at_unit c times) o [])
  star_factor ys qs (r_unit f fr) = r_factor (times_cons f fr)

  slash_factor : {c : Place} {o : Opens} {p : Span} → Good (at_factor c) o (the slash on p) (go (at_unit c divided) o [])
  slash_factor ys qs (r_unit f fr) = r_factor (divided_cons f fr)

  greater_factor : {c : Place} {o : Opens} {p : Span} → Good (at_factor c) o (the greater on p) (go (after c) o [])
  greater_factor {c} {p} ys qs r = r_factor (factors_rest p no_factor (afterwards c r))

  -- with no exponent, what follows the factor gives its row
  unwritten_power : {c : Place} {op : Op} {p : Span} {o : Opens} {ys : List Placed} {qs : List Row} →
      Rest m s (at_factor c) o ys qs → Rest m s (at_power c op p) o ys (a_unit op p one ∷ qs)
  unwritten_power (r_factor fr) = r_power unwritten fr

  pub number_units : {c : Place} {o : Opens} {ys : List Placed} {qs : List Row} → Rest m s (after c) o ys qs → Rest m s (at_number c) o ys qs
  number_units {c} r = r_number no_units (afterwards c r)

  pub closer_unnamed : {n : Name} {o : Opens} {ys : List Placed} {qs : List Row} → Rest m s at_semicolon o ys qs → Rest m s (at_closer n) o ys qs
  closer_unnamed (r_semicolon t) = r_closer unnamed t

  -- ---- each state's offers are sound

  abbrev AllGood : State → Opens → List Entry → Type 0
  AllGood q o l = Entries (Good q o) (λ x. tt) l

  abbrev Sound : State → Opens → Offer → Type 0
  Sound q o f = EachAnswer (Good q o) (λ x. tt) f

  -- what is sound in one state is sound in another where as much may come
  good_wider : (q q' : State) (o : Opens) (x : Placed) → ((ys : List Placed) (qs : List Row) → Rest m s q o ys qs → Rest m s q' o ys qs) →
      (n : Next) → Good q o x n → Good q' o x n
  good_wider q q' o x h n g = wider (judge s n) g
    where
      wider : (a : Answer) → Fits q o x a → Fits q' o x a
      wider (refuses c) g = tt
      wider (goes q'' o'' r) g = λ ys qs t. h (x ∷ ys) (r ++ qs) (g ys qs t)

  sound_limit : (q : State) (o : Opens) (x : Placed) {P : Type 0} (d : Dec P) (c : ℕ) (q' : State) (o' : Opens) (r : List Row) →
      (Kept s P → Fits q o x (goes q' o' r)) → Good q o x (limit d c q' o' r)
  sound_limit q o x d c q' o' r f = limit_case s d c q' o' r (Fits q o x) tt f

  sound_else : (c : Place) (a : Else) (o : Opens) → AllGood (at_scalar c a) o (else a o)
  sound_else c no_else o = tt
  sound_else c any_value o = (λ p. lpar_value, (λ p. lbrace_value, tt))
  sound_else c a_row o = (λ p. lpar_else, tt)
  sound_else c a_set_end o = (λ p. rbrace_else, tt)

  -- a scalar of one element, and one that units may follow
  one_element : (c : Place) (a : Else) (o : Opens) {x : Placed} {r : Row} → Scalar m s (x ∷ []) (r ∷ []) → Good (at_scalar c a) o x (go (after c) o (r ∷ []))
  one_element c a o sc = λ ys qs t. r_scalar sc (afterwards c t)

  numeric : (c : Place) (a : Else) (o : Opens) {x : Placed} {r : Row} → ((us : List Placed) (rs : List Row) → Units m s us rs → Scalar m s (x ∷ us) (r ∷ rs)) →
      Good (at_scalar c a) o x (go (at_number c) o (r ∷ []))
  numeric c a o f ys qs (r_number {xs = us} {rs = rs} u t) = r_scalar (f us rs u) t

  sound_range : (v : Bool) → m.version_1 ≡ v → (c : Place) (a : Else) (o : Opens) (lo hi : Whole) (p : Span) → Good (at_scalar c a) o (range lo hi on p) (else_range v a o lo hi)
  sound_range v h c no_else o lo hi p = tt
  sound_range true h c any_value o lo hi p = range_alone h
  sound_range false h c any_value o lo hi p = tt
  sound_range v h c a_row o lo hi p = tt
  sound_range v h c a_set_end o lo hi p = tt

  sound_scalar : (c : Place) (a : Else) (o : Opens) → Sound (at_scalar c a) o (a_scalar c o (else_range m.version_1 a o) (else a o))
  sound_scalar c a o =
      each_scalar (Good (at_scalar c a) o) (λ x. tt) c o (else_range m.version_1 a o) (else a o) (λ n p. one_element c a o identifier_value)
      (λ w p. numeric c a o (λ us rs u. integer_value u)) (λ w p. numeric c a o (λ us rs u. based_value u)) (λ x p. numeric c a o (λ us rs u. real_value u))
      (λ t p. one_element c a o date_time_value) (sound_range m.version_1 refl c a o) (λ p. one_element c a o text_value) (λ p. one_element c a o symbol_value) (sound_else c a o)

  sound_opens : {k : Kind} {f : Fixed} (o : Opens) → Opening m s k f → (p : Span) → Good at_statement o (the f on p) (limit (dec_lt (depth o) 80) 8 (at_opener k) o [])
  sound_opens {k} {f} o h p = sound_limit at_statement o (the f on p) (dec_lt (depth o) 80) 8 (at_opener k) o [] (open_block h)

  sound_openings : (v : Bool) → m.pvl ≡ v → (o : Opens) → AllGood at_statement o (openings v o)
  sound_openings v h o = (
    λ p. caret_pointer,
    (
      sound_opens o by_word,
      (
        sound_opens o by_word,
        entries_when (Good at_statement o) (λ x. tt) v BEGIN_OBJECT _ _ (λ i. sound_opens o (by_begin (h ∙ i)))
            (entries_when (Good at_statement o) (λ x. tt) v BEGIN_GROUP _ [] (λ i. sound_opens o (by_begin (h ∙ i))) tt),
      ),
    ),
  )

  sound_statements : (v : Bool) → m.pvl ≡ v → (o : Opens) → Sound at_statement o (statements v o)
  sound_statements v h outside =
      each_statement (Good at_statement outside) (λ x. tt) _ _ (openings v outside) (λ n p. name_attribute)
      (λ b p. sound_limit at_statement outside (end b on p) (Bool-discrete b true) 9 at_end outside (last p.upto ∷ []) end_label) (sound_openings v h outside)
  sound_statements v h (inside k n o) =
      each_statement (Good at_statement (inside k n o)) (λ x. tt) _ _ (closer k ⇒ go (at_closer n) o (closed k ∷ []) ∷ openings v (inside k n o)) (λ n p. name_attribute)
      (λ b p. tt) (λ p. close_block, sound_openings v h (inside k n o))

  sound_ended : (v : Bool) → m.pvl ≡ v → (o : Opens) → Sound at_semicolon o (after_statement v o)
  sound_ended true h o =
      each_also (Good at_semicolon o) (λ x. tt) semicolon (go at_statement o []) (statements true o) (λ p. semicolon_ends h)
      (λ x. good_wider at_statement at_semicolon o x (λ ys qs. semicolon_missing) (dispatch (statements true o) x) (sound_statements true h o x))
  sound_ended false h o = λ x. good_wider at_statement at_semicolon o x (λ ys qs. semicolon_missing) (dispatch (statements false o) x) (sound_statements false h o x)

  sound_member : (g : Group) (o : Opens) → AllGood (at_member g) o (member g o)
  sound_member in_sequence o = (λ p. comma_member, (λ p. sequence_ends, tt))
  sound_member in_row o = (λ p. comma_member, (λ p. row_ends, tt))
  sound_member in_set o = (λ p. comma_member, (λ p. set_ends, tt))

  sound_members : (v : Bool) → m.version_1 ≡ v → (g : Group) (o : Opens) → Sound (at_member g) o (members v g o)
  sound_members false h g o = each_only (Good (at_member g) o) (λ x. tt) (member g o) (sound_member g o)
  sound_members true h g o =
      each_scalar (Good (at_member g) o) (λ x. tt) (within g) o (λ a b. never) (member g o)
      (λ n p. wide (name n on p) (go (at_member g) o (a_symbol p ∷ [])) (one_element (within g) no_else o identifier_value))
      (λ w p. wide (integer w on p) (go (at_number (within g)) o (an_integer w ∷ [])) (numeric (within g) no_else o (λ us rs u. integer_value u)))
      (λ w p. wide (based w on p) (go (at_number (within g)) o (an_integer w ∷ [])) (numeric (within g) no_else o (λ us rs u. based_value u)))
      (λ x p. wide (real x on p) (go (at_number (within g)) o (a_real x ∷ [])) (numeric (within g) no_else o (λ us rs u. real_value u)))
      (λ t p. wide (moment t on p) (go (at_member g) o (a_moment t ∷ [])) (one_element (within g) no_else o date_time_value)) (λ lo hi p. tt)
      (λ p. wide (text on p) (go (at_member g) o (a_text p ∷ [])) (one_element (within g) no_else o text_value))
      (λ p. wide (symbol on p) (go (at_member g) o (a_symbol p ∷ [])) (one_element (within g) no_else o symbol_value)) (sound_member g o)
    where
      wide : (x : Placed) (n : Next) → Good (at_scalar (within g) no_else) o x n → Good (at_member g) o x n
      wide x n t = good_wider (at_scalar (within g) no_else) (at_member g) o x (λ ys qs. member_beside h) n t

  sound_follows : (c : Place) (o : Opens) → Sound (after c) o (follows m c o)
  sound_follows alone o = sound_ended m.pvl refl o
  sound_follows (within g) o = sound_members m.version_1 refl g o

  sound_rows : (o : Opens) → AllGood at_row o (rows m.version_1 o)
  sound_rows o = entries_when (Good at_row o) (λ x. tt) m.version_1 lpar _ _ (λ h p. row_beside h) (λ p. row_comma, (λ p. rows_end, tt))

  sound_factors : (c : Place) (o : Opens) → AllGood (at_factor c) o (factors c o [])
  sound_factors c o = (λ p. star_factor, (λ p. slash_factor, (λ p. greater_factor, tt)))

  sound_power : (c : Place) (op : Op) (p : Span) (o : Opens) → AllGood (at_power c op p) o (factors c o (a_unit op p one ∷ []))
  sound_power c op p o =
      (λ q ys qs r. unwritten_power (star_factor ys qs r), (λ q ys qs r. unwritten_power (slash_factor ys qs r), (λ q ys qs r. unwritten_power (greater_factor ys qs r), tt)))

  sound_offers : (q : State) (o : Opens) → Sound q o (offers m q o)
  sound_offers at_statement o = sound_statements m.pvl refl o
  sound_offers at_semicolon o = sound_ended m.pvl refl o
  sound_offers at_equals o = each_only (Good at_equals o) (λ x. tt) (equals ⇒ go (at_scalar alone any_value) o [] ∷ []) (λ p. equals_value, tt)
  sound_offers at_pointer o = each_name (Good at_pointer o) (λ x. tt) _ (λ n p. name_pointer)
  sound_offers (at_opener k) o = each_only (Good (at_opener k) o) (λ x. tt) (equals ⇒ go (at_opened k) o [] ∷ []) (λ p. equals_opener, tt)
  sound_offers (at_opened k) o = each_name (Good (at_opened k) o) (λ x. tt) _ (λ n p. name_opened)
  sound_offers (at_closer n) o =
      each_also (Good (at_closer n) o) (λ x. tt) equals (go (at_closed n) o []) (after_statement m.pvl o) (λ p. equals_closer)
      (λ x. good_wider at_semicolon (at_closer n) o x (λ ys qs. closer_unnamed) (dispatch (after_statement m.pvl o) x) (sound_ended m.pvl refl o x))
  sound_offers (at_closed n) o =
      each_name (Good (at_closed n) o) (λ x. tt) _ (λ n' p. sound_limit (at_closed n) o (name n' on p) (name_discrete n' n) 7 at_semicolon o [] name_closed)
  sound_offers (at_scalar c a) o = sound_scalar c a o
  sound_offers (at_number c) o =
      each_also (Good (at_number c) o) (λ x. tt) less (go (at_unit c first) o []) (follows m c o) (λ p. less_unit)
      (λ x. good_wider (after c) (at_number c) o x (λ ys qs. number_units) (dispatch (follows m c o) x) (sound_follows c o x))
  sound_offers (at_member g) o = sound_follows (within g) o
  sound_offers at_row o = each_only (Good at_row o) (λ x. tt) (rows m.version_1 o) (sound_rows o)
  sound_offers at_next_row o = each_only (Good at_next_row o) (λ x. tt) (row_begins o ∷ []) (λ p. lpar_row, tt)
  sound_offers (at_unit c op) o = each_name (Good (at_unit c op) o) (λ x. tt) _ (λ n p. name_unit)
  sound_offers (at_power c op p) o = each_only (Good (at_power c op p) o) (λ x. tt) (powers m.version_1 c op p o)
      (λ q. power_exponent two_stars, entries_when (Good (at_power c op p) o) (λ x. tt) m.version_1 caret _ (factors c o (a_unit op p one ∷ [])) (λ h q. power_exponent (one_caret h)) (sound_power c op p o))
  sound_offers (at_exponent c op p) o =
      each_whole (Good (at_exponent c op p) o) (λ x. tt) _ (λ w q. sound_limit (at_exponent c op p) o (integer w on q) (dec_le w.size 99) 5 (at_factor c) o (a_unit op p w ∷ []) integer_exponent)
  sound_offers (at_factor c) o = each_only (Good (at_factor c) o) (λ x. tt) (factors c o []) (sound_factors c o)
  sound_offers at_end o = each_only (Good at_end o) (λ x. tt) [] tt

  pub sound_step : (q : State) (o : Opens) (x : Placed) {q' : State} {o' : Opens} {r : List Row} → step m s q o x ≡ goes q' o' r →
      {ys : List Placed} {qs : List Row} → Rest m s q' o' ys qs → Rest m s q o (x ∷ ys) (r ++ qs)
  sound_step q o x e {ys} {qs} t = subst (Fits q o x) e (sound_offers q o x) ys qs t
