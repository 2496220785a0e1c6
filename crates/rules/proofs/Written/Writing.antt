-- The elements of the written label are a label, and give the rows that were written.
use Prim.Native.Nat.{ℕ, suc, ◌≤◌, ◌<◌}
use native.Mathlib.Decide.{dec_le, dec_lt}
use mathlib.Core.Path.{◌≡◌, refl, sym, ap, ◌∙◌, subst}
use mathlib.Core.Bool.{Bool, true, false, not, ◌&&◌, false≢true}
use mathlib.Core.List.{List, [], ◌∷◌, ◌++◌}
use native.Mathlib.Omega.{arith}
use borrow.Author.Tests.{eqb-true}
use lib.Dec.{eqb}
use lib.ListN.{length}
use Rattle.rules.specs.Proper.{the_rules, Each, none as Also-none, one as Also-one}
use Rattle.rules.specs.Written.{is_name, is_one, open_word, close_word, Prior, heading, member, factor, prior, new_line, after as opens-after, start}
use Rattle.rules.specs.Data.{Span, Whole, one, Real, Moment, Name, Fixed, equals, star, slash, caret, less, greater, name, the, end, Placed, ◌on◌, Kind, Kind-discrete, object, group, opener, closer, Op, first, times, divided, Opens, outside, inside, depth, Row, attribute, pointer, opened, closed, an_integer, a_real, a_moment, a_text, a_symbol, a_unit, sequence, sequence_end, set, set_end, last}
use Rattle.rules.specs.Grammar.{strict, unwritten, Label}
use Rattle.rules.specs.Bytes.{ascii}
use Rattle.rules.proofs.Written.Marks.{Wording}
use Rattle.rules.proofs.Written.Pieces.{WrittenPiece, sign, plain, called, space, is, symbol_piece, exponent_pieces, closing, apart, pieces_of, pieces, written_pieces}
use Rattle.rules.proofs.Machine.Statements.{Group, in_sequence, in_row, in_set, Place, alone, within, Else, no_else, any_value, a_row, a_set_end, State, at_statement, at_semicolon, at_equals, at_pointer, at_opener, at_opened, at_closer, at_closed, at_scalar, at_number, at_member, at_row, at_next_row, at_unit, at_power, at_exponent, at_factor, at_end, goes, judge, step, after, name_discrete, chosen}
use Rattle.rules.proofs.Grammar.Rest.{Rest, r_factor, r_power, r_end}
use Rattle.rules.proofs.Grammar.Sound.{sound_step, semicolon_missing, number_units}
use Rattle.rules.proofs.Grammar.Complete.{limit_kept, name_found, caret_found, open_found}
use Rattle.rules.proofs.Machine.Rows.{Sort, s_attribute, s_pointer, s_number, s_other, s_unit_first, s_unit_more, s_sequence, s_sequence_end, s_set, s_set_end, s_last, s_opened, s_closed, Sort-discrete, unit_sort, sort, Await, t_statement, t_value, t_first, t_set_first, t_in_row, t_row, t_end, t_number, t_units, t_member, Kinds, To, to_none, to, RowLine, ◌↝◌, look, t_after, statement_lines, end_lines, after_lines, lines, sort_step, RowRun, row_here, row_by, RowAccepts}
use Rattle.rules.proofs.Grammar.Each.{chosen_case}
use Rattle.rules.proofs.Machine.Limits.{Valued}
use Rattle.rules.proofs.Written.Place.{span_at, place, skip, place_append, span_in, spanned, laid}
use Rattle.rules.proofs.Grammar.Theorems.{whole}

-- ---- the two machines' states, side by side

abbrev pub state : Await → State
state t_statement = at_statement
state t_value = at_scalar alone any_value
state t_first = at_scalar (within in_sequence) a_row
state t_set_first = at_scalar (within in_set) a_set_end
state t_in_row = at_scalar (within in_row) no_else
state t_row = at_row
state t_end = at_end
state (t_number c) = at_number c
state (t_units c) = at_factor c
state (t_member g) = at_member g

abbrev pub kinds : Opens → Kinds
kinds outside = []
kinds (inside k n o) = k ∷ kinds o

depth_kinds : (o : Opens) → depth o ≡ length (kinds o)
depth_kinds outside = refl
depth_kinds (inside k n o) = ap suc (depth_kinds o)

-- what the row before has left, in a state
pub data Agrees : Await → Prior → Type 0 where
  g_statement : {q : Prior} → closing q ≡ [] → Agrees t_statement q
  g_value : Agrees t_value heading
  g_first : Agrees t_first start
  g_set_first : Agrees t_set_first start
  g_in_row : Agrees t_in_row start
  g_row : Agrees t_row member
  g_number : {c : Place} → Agrees (t_number c) member
  g_units : {c : Place} → Agrees (t_units c) factor
  g_member : {g : Group} → Agrees (t_member g) member
  g_end : {q : Prior} → Agrees t_end q

agrees_after : (c : Place) → Agrees (t_after c) member
agrees_after alone = g_statement refl
agrees_after (within g) = g_member

-- ---- one row: if the rest may follow after it, then the row's pieces and the rest may follow before it

abbrev Core : State → Opens → List WrittenPiece → Wording → Await → Type 0
Core st o X r t =
    (n : ℕ) (ys : List Placed) (qs : List Row) → Rest the_rules strict (state t) (opens-after o r) ys qs →
    Rest the_rules strict st o (place n X ++ ys) (spanned (span_in n X) r ∷ qs)

via : (st : State) (o : Opens) (x : Placed) {st' : State} {o' : Opens} {r : List Row} → step the_rules strict st o x ≡ goes st' o' r →
    {ys : List Placed} {qs : List Row} → Rest the_rules strict st' o' ys qs → Rest the_rules strict st o (x ∷ ys) (r ++ qs)
via st o x e s = sound_step the_rules strict st o x e s

afters : (c : Place) {o : Opens} {ys : List Placed} {qs : List Row} → Rest the_rules strict (state (t_after c)) o ys qs → Rest the_rules strict (after c) o ys qs
afters alone s = semicolon_missing the_rules strict s
afters (within g) s = s

core_attribute : (o : Opens) (g : List ℕ) (w : Name) → Core at_statement o (called g w ∷ is ∷ []) (attribute w) t_value
core_attribute o g w n ys qs s = via at_statement o _ (ap (judge strict) (name_found false o w _)) (via at_equals o _ refl s)

core_pointer : (o : Opens) (g : List ℕ) (w : Name) → Core at_statement o (sign g (94 ∷ []) caret ∷ called [] w ∷ is ∷ []) (pointer w) t_value
core_pointer o g w n ys qs s = via at_statement o _ (ap (judge strict) (caret_found false o)) (via at_pointer o _ refl (via at_equals o _ refl s))

core_opened : (k : Kind) (o : Opens) (g v : List ℕ) (w : Name) → depth o < 80 → Core at_statement o (sign g v (opener k) ∷ is ∷ called space w ∷ []) (opened k w) t_statement
core_opened k o g v w h n ys qs s =
    via at_statement o _ (ap (judge strict) (open_found k false o) ∙ limit_kept strict (dec_lt (depth o) 80) 8 (at_opener k) o [] h)
    (via (at_opener k) o _ refl (via (at_opened k) o _ refl (semicolon_missing the_rules strict s)))

closed_name : (w : Name) (o : Opens) {p q : Span} {ys : List Placed} {qs : List Row} → Rest the_rules strict at_statement o ys qs →
    Rest the_rules strict (at_closer w) o (the equals on p ∷ name w on q ∷ ys) qs
closed_name w o s =
    via (at_closer w) o _ refl (via (at_closed w) o _ (limit_kept strict (name_discrete w w) 7 at_semicolon o [] refl) (semicolon_missing the_rules strict s))

core_closed : (k : Kind) (o : Opens) (g v : List ℕ) (w : Name) → Core at_statement (inside k w o) (sign g v (closer k) ∷ is ∷ called space w ∷ []) (closed k) t_statement
core_closed object o g v w n ys qs s = via at_statement (inside object w o) _ refl (closed_name w o s)
core_closed group o g v w n ys qs s = via at_statement (inside group w o) _ refl (closed_name w o s)

core_last : (g v : List ℕ) → Core at_statement outside (plain g v (end true) ∷ []) (last tt) t_end
core_last g v n ys qs s = via at_statement outside _ refl s

core_symbol : (c : Place) (a : Else) (o : Opens) (g w : List ℕ) (b : Bool) → Core (at_scalar c a) o (symbol_piece g w b ∷ []) (a_symbol w) (t_after c)
core_symbol c a o g w true n ys qs s = via (at_scalar c a) o _ refl (afters c s)
core_symbol c a o g w false n ys qs s = via (at_scalar c a) o _ refl (afters c s)

-- ---- units

one_whole : (m : Bool) (n : ℕ) → (not m && eqb n 1) ≡ true → ◌≡◌ {A = Whole} (record { minus = m; size = n }) one
one_whole true n h = absurd (false≢true h)
one_whole false n h = ap (λ (i : ℕ). record { minus = false; size = i }) (eqb-true n 1 h)

no_exponent : {c : Place} {op : Op} {p : Span} {o : Opens} {ys : List Placed} {qs : List Row} → Rest the_rules strict (at_factor c) o ys qs → Rest the_rules strict (at_power c op p) o ys (a_unit op p one ∷ qs)
no_exponent (r_factor f) = r_power unwritten f

core_exponent : (c : Place) (op : Op) (o : Opens) (p : Span) (v : Whole) (b : Bool) → is_one v ≡ b → v.size ≤ 99 → (n : ℕ) (ys : List Placed) (qs : List Row) →
    Rest the_rules strict (at_factor c) o ys qs → Rest the_rules strict (at_power c op p) o (place n (exponent_pieces v b) ++ ys) (a_unit op p v ∷ qs)
core_exponent c op o p v true e h n ys qs s =
    subst (λ (i : Whole). Rest the_rules strict (at_power c op p) o ys (a_unit op p i ∷ qs)) (sym (one_whole v.minus v.size e)) (no_exponent s)
core_exponent c op o p v false e h n ys qs s =
    via (at_power c op p) o _ refl (via (at_exponent c op p) o _ (limit_kept strict (dec_le v.size 99) 5 (at_factor c) o (a_unit op p v ∷ []) h) s)

core_unit : (st : State) (c : Place) (op : Op) (o : Opens) (k : Fixed) (g u : List ℕ) (w : Name) (v : Whole) →
    ((p : Span) → step the_rules strict st o (the k on p) ≡ goes (at_unit c op) o []) → v.size ≤ 99 →
    Core st o (sign g u k ∷ called [] w ∷ exponent_pieces v (is_one v)) (a_unit op w v) (t_units c)
core_unit st c op o k g u w v e h n ys qs s =
    via st o _ (e (span_at n (sign g u k))) (via (at_unit c op) o _ refl (core_exponent c op o _ v (is_one v) refl h _ ys qs s))

-- ---- rows of a sort

pub data OfSort : Sort → Wording → Type 0 where
  is_attribute : {p : List ℕ} → OfSort s_attribute (attribute p)
  is_pointer : {p : List ℕ} → OfSort s_pointer (pointer p)
  is_opened : {k : Kind} {p : List ℕ} → OfSort (s_opened k) (opened k p)
  is_closed : {k : Kind} → OfSort (s_closed k) (closed k)
  is_integer : {w : Whole} → OfSort s_number (an_integer w)
  is_real : {x : Real} → OfSort s_number (a_real x)
  is_moment : {t : Moment} → OfSort s_other (a_moment t)
  is_a_text : {p : List ℕ} → OfSort s_other (a_text p)
  is_a_symbol : {p : List ℕ} → OfSort s_other (a_symbol p)
  is_first : {p : List ℕ} {w : Whole} → OfSort s_unit_first (a_unit first p w)
  is_times : {p : List ℕ} {w : Whole} → OfSort s_unit_more (a_unit times p w)
  is_divided : {p : List ℕ} {w : Whole} → OfSort s_unit_more (a_unit divided p w)
  is_sequence : OfSort s_sequence sequence
  is_sequence_end : OfSort s_sequence_end sequence_end
  is_set : OfSort s_set set
  is_set_end : OfSort s_set_end set_end
  is_last : {n : Unit {0}} → OfSort s_last (last n)

unit_shape : (op : Op) (p : List ℕ) (w : Whole) → OfSort (unit_sort op) (a_unit op p w)
unit_shape first p w = is_first
unit_shape times p w = is_times
unit_shape divided p w = is_divided

pub of_sort : (r : Wording) → OfSort (sort r) r
of_sort (attribute p) = is_attribute
of_sort (pointer p) = is_pointer
of_sort (opened k p) = is_opened
of_sort (closed k) = is_closed
of_sort (an_integer w) = is_integer
of_sort (a_real x) = is_real
of_sort (a_moment t) = is_moment
of_sort (a_text p) = is_a_text
of_sort (a_symbol p) = is_a_symbol
of_sort (a_unit op p w) = unit_shape op p w
of_sort sequence = is_sequence
of_sort sequence_end = is_sequence_end
of_sort set = is_set
of_sort set_end = is_set_end
of_sort (last n) = is_last

abbrev FitTo : State → Prior → Opens → Wording → To → Type 0
FitTo st q o r to_none = Unit {0}
FitTo st q o r (to t ks) = (kinds (opens-after o r) ≡ ks) × Agrees t (prior r) × Core st o (pieces_of q o r) r t

abbrev Fit : State → Prior → Opens → Sort → To → Type 0
Fit st q o k n = (r : Wording) → OfSort k r → Valued r → FitTo st q o r n

abbrev AllFit : State → Prior → Opens → List RowLine → Type 0
AllFit st q o [] = Unit {0}
AllFit st q o (k ↝ n ∷ l) = Fit st q o k n × AllFit st q o l

look_fit : (st : State) (q : Prior) (o : Opens) (r : Wording) → Valued r → (l : List RowLine) → AllFit st q o l → FitTo st q o r (look l (sort r))
look_fit st q o r v [] h = tt
look_fit st q o r v (k ↝ n ∷ l) h =
    chosen_case (Sort-discrete Kind-discrete k (sort r)) n (look l (sort r)) (FitTo st q o r)
    (λ e. h.0 r (subst (λ (j : Sort). OfSort j r) (sym e) (of_sort r)) v) (look_fit st q o r v l h.1)

-- ---- statements

module _ (st : State) (q : Prior) (o : Opens) (wide : (ys : List Placed) (qs : List Row) → Rest the_rules strict at_statement o ys qs → Rest the_rules strict st o ys qs) (h : closing q ≡ []) where
  led : (X : List WrittenPiece) (r : Wording) (t : Await) → Core at_statement o X r t → Core st o (closing q ++ X) r t
  led X r t c = subst (λ (l : List WrittenPiece). Core st o (l ++ X) r t) (sym h) (λ n ys qs s. wide _ _ (c n ys qs s))

  fit_attribute : Fit st q o s_attribute (to t_value (kinds o))
  fit_attribute r (is_attribute {p}) v = (refl, g_value, led _ (attribute p) t_value (core_attribute o (new_line q (depth o)) p))

  fit_pointer : Fit st q o s_pointer (to t_value (kinds o))
  fit_pointer r (is_pointer {p}) v = (refl, g_value, led _ (pointer p) t_value (core_pointer o (new_line q (depth o)) p))

  fit_block : (k : Kind) → Fit st q o (s_opened k) (chosen (dec_lt (length (kinds o)) 80) (to t_statement (k ∷ kinds o)) to_none)
  fit_block k r (is_opened {p = p}) v =
      chosen_case (dec_lt (length (kinds o)) 80) (to t_statement (k ∷ kinds o)) to_none (FitTo st q o (opened k p))
      (λ d. (refl, g_statement refl, led _ (opened k p) t_statement (core_opened k o (new_line q (depth o)) (open_word k) p (subst (λ (i : ℕ). i < 80) (sym (depth_kinds o)) d)))) tt

fit_closed : (st : State) (q : Prior) (k : Kind) (w : Name) (o : Opens) → ((ys : List Placed) (qs : List Row) → Rest the_rules strict at_statement (inside k w o) ys qs → Rest the_rules strict st (inside k w o) ys qs) →
    closing q ≡ [] → Fit st q (inside k w o) (s_closed k) (to t_statement (kinds o))
fit_closed st q k w o wide h r is_closed v = (refl, g_statement refl, led st q (inside k w o) wide h _ (closed k) t_statement (core_closed k o (new_line q (depth o)) (close_word k) w))

fit_last : (st : State) (q : Prior) → ((ys : List Placed) (qs : List Row) → Rest the_rules strict at_statement outside ys qs → Rest the_rules strict st outside ys qs) →
    closing q ≡ [] → Fit st q outside s_last (to t_end [])
fit_last st q wide h r is_last v = (refl, g_end, led st q outside wide h _ (last tt) t_end (core_last (new_line q 0) (ascii "END")))

fit_statement : (st : State) (q : Prior) (o : Opens) → ((ys : List Placed) (qs : List Row) → Rest the_rules strict at_statement o ys qs → Rest the_rules strict st o ys qs) →
    closing q ≡ [] → AllFit st q o (statement_lines (kinds o))
fit_statement st q outside w h =
    (fit_last st q w h, (fit_attribute st q outside w h, (fit_pointer st q outside w h, (fit_block st q outside w h object, (fit_block st q outside w h group, tt)))))
fit_statement st q (inside k n o) w h =
    (fit_closed st q k n o w h, (fit_attribute st q (inside k n o) w h, (fit_pointer st q (inside k n o) w h, (fit_block st q (inside k n o) w h object, (fit_block st q (inside k n o) w h group, tt)))))

-- ---- scalars, after what stands before them

module _ (st : State) (q : Prior) (o : Opens) (c : Place) (a : Else) (lead : (X : List WrittenPiece) (r : Wording) (t : Await) → Core (at_scalar c a) o X r t → Core st o (apart q ++ X) r t) where
  fit_number : Fit st q o s_number (to (t_number c) (kinds o))
  fit_number r (is_integer {w}) v = (refl, g_number, lead _ (an_integer w) (t_number c) (λ n ys qs s. via (at_scalar c a) o _ refl s))
  fit_number r (is_real {x}) v = (refl, g_number, lead _ (a_real x) (t_number c) (λ n ys qs s. via (at_scalar c a) o _ refl s))

  fit_other : Fit st q o s_other (to (t_after c) (kinds o))
  fit_other r (is_moment {t}) v = (refl, agrees_after c, lead _ (a_moment t) (t_after c) (λ n ys qs s. via (at_scalar c a) o _ refl (afters c s)))
  fit_other r (is_a_text {p}) v = (refl, agrees_after c, lead _ (a_text p) (t_after c) (λ n ys qs s. via (at_scalar c a) o _ refl (afters c s)))
  fit_other r (is_a_symbol {p}) v = (refl, agrees_after c, lead _ (a_symbol p) (t_after c) (core_symbol c a o _ p (is_name p)))

-- ---- brackets

fit_sequence : (o : Opens) → Fit (at_scalar alone any_value) heading o s_sequence (to t_first (kinds o))
fit_sequence o r is_sequence v = (refl, g_first, λ n ys qs s. via (at_scalar alone any_value) o _ refl s)

fit_set : (o : Opens) → Fit (at_scalar alone any_value) heading o s_set (to t_set_first (kinds o))
fit_set o r is_set v = (refl, g_set_first, λ n ys qs s. via (at_scalar alone any_value) o _ refl s)

fit_inner : (o : Opens) → Fit (at_scalar (within in_sequence) a_row) start o s_sequence (to t_in_row (kinds o))
fit_inner o r is_sequence v = (refl, g_in_row, λ n ys qs s. via (at_scalar (within in_sequence) a_row) o _ refl s)

fit_empty : (o : Opens) → Fit (at_scalar (within in_set) a_set_end) start o s_set_end (to t_statement (kinds o))
fit_empty o r is_set_end v = (refl, g_statement refl, λ n ys qs s. via (at_scalar (within in_set) a_set_end) o _ refl (semicolon_missing the_rules strict s))

fit_next_row : (o : Opens) → Fit at_row member o s_sequence (to t_in_row (kinds o))
fit_next_row o r is_sequence v = (refl, g_in_row, λ n ys qs s. via at_row o _ refl (via at_next_row o _ refl s))

fit_rows_end : (o : Opens) → Fit at_row member o s_sequence_end (to t_statement (kinds o))
fit_rows_end o r is_sequence_end v = (refl, g_statement refl, λ n ys qs s. via at_row o _ refl (semicolon_missing the_rules strict s))

fit_sequence_end : (o : Opens) → Fit (at_member in_sequence) member o s_sequence_end (to t_statement (kinds o))
fit_sequence_end o r is_sequence_end v = (refl, g_statement refl, λ n ys qs s. via (at_member in_sequence) o _ refl (semicolon_missing the_rules strict s))

fit_row_end : (o : Opens) → Fit (at_member in_row) member o s_sequence_end (to t_row (kinds o))
fit_row_end o r is_sequence_end v = (refl, g_row, λ n ys qs s. via (at_member in_row) o _ refl s)

fit_set_end : (o : Opens) → Fit (at_member in_set) member o s_set_end (to t_statement (kinds o))
fit_set_end o r is_set_end v = (refl, g_statement refl, λ n ys qs s. via (at_member in_set) o _ refl (semicolon_missing the_rules strict s))

fit_end : (g : Group) (o : Opens) → AllFit (at_member g) member o (end_lines g (kinds o))
fit_end in_sequence o = (fit_sequence_end o, tt)
fit_end in_row o = (fit_row_end o, tt)
fit_end in_set o = (fit_set_end o, tt)

-- ---- after a scalar

comma_lead : (g : Group) (o : Opens) (X : List WrittenPiece) (r : Wording) (t : Await) → Core (at_scalar (within g) no_else) o X r t → Core (at_member g) o (apart member ++ X) r t
comma_lead g o X r t c n ys qs s = via (at_member g) o _ refl (c _ ys qs s)

fit_member : (g : Group) (o : Opens) → AllFit (at_member g) member o (after_lines (within g) (kinds o))
fit_member g o =
    (fit_number (at_member g) member o (within g) no_else (comma_lead g o), (fit_other (at_member g) member o (within g) no_else (comma_lead g o), fit_end g o))

fit_after : (c : Place) (o : Opens) → AllFit (after c) member o (after_lines c (kinds o))
fit_after alone o = fit_statement at_semicolon member o (λ ys qs. semicolon_missing the_rules strict) refl
fit_after (within g) o = fit_member g o

wider_to : (st st' : State) (q : Prior) (o : Opens) (r : Wording) (n : To) → ((ys : List Placed) (qs : List Row) → Rest the_rules strict st o ys qs → Rest the_rules strict st' o ys qs) →
    FitTo st q o r n → FitTo st' q o r n
wider_to st st' q o r to_none w h = tt
wider_to st st' q o r (to t ks) w h = (h.0, h.1, λ n ys qs s. w _ _ (h.2 n ys qs s))

wider_lines : (st st' : State) (q : Prior) (o : Opens) → ((ys : List Placed) (qs : List Row) → Rest the_rules strict st o ys qs → Rest the_rules strict st' o ys qs) →
    (l : List RowLine) → AllFit st q o l → AllFit st' q o l
wider_lines st st' q o w [] h = tt
wider_lines st st' q o w (k ↝ n ∷ l) h = (λ r sh v. wider_to st st' q o r n w (h.0 r sh v), wider_lines st st' q o w l h.1)

-- ---- after a unit: `>`, and then as after a scalar

abbrev Ends : Sort → Type 0
Ends s_attribute = Unit {0}
Ends s_pointer = Unit {0}
Ends s_number = Unit {0}
Ends s_other = Unit {0}
Ends s_unit_first = ⊥
Ends s_unit_more = ⊥
Ends s_sequence = ⊥
Ends s_sequence_end = Unit {0}
Ends s_set = ⊥
Ends s_set_end = Unit {0}
Ends s_last = Unit {0}
Ends (s_opened k) = Unit {0}
Ends (s_closed k) = Unit {0}

abbrev AllEnd : List RowLine → Type 0
AllEnd [] = Unit {0}
AllEnd (k ↝ n ∷ l) = Ends k × AllEnd l

after_end : (c : Place) (o : Kinds) → AllEnd (after_lines c o)
after_end alone [] = (tt, (tt, (tt, (tt, (tt, tt)))))
after_end alone (k ∷ o) = (tt, (tt, (tt, (tt, (tt, tt)))))
after_end (within in_sequence) o = (tt, (tt, (tt, tt)))
after_end (within in_row) o = (tt, (tt, (tt, tt)))
after_end (within in_set) o = (tt, (tt, (tt, tt)))

abbrev close : WrittenPiece
close = sign [] (62 ∷ []) greater

factor_writes : (k : Sort) (r : Wording) → OfSort k r → Ends k → (o : Opens) → pieces_of factor o r ≡ close ∷ pieces_of member o r
factor_writes k r is_attribute e o = refl
factor_writes k r is_pointer e o = refl
factor_writes k r is_opened e o = refl
factor_writes k r is_closed e o = refl
factor_writes k r is_integer e o = refl
factor_writes k r is_real e o = refl
factor_writes k r is_moment e o = refl
factor_writes k r is_a_text e o = refl
factor_writes k r is_a_symbol e o = refl
factor_writes k r is_first e o = absurd e
factor_writes k r is_times e o = absurd e
factor_writes k r is_divided e o = absurd e
factor_writes k r is_sequence e o = absurd e
factor_writes k r is_sequence_end e o = refl
factor_writes k r is_set e o = absurd e
factor_writes k r is_set_end e o = refl
factor_writes k r is_last e o = refl

factor_to : (c : Place) (o : Opens) (r : Wording) (n : To) → pieces_of factor o r ≡ close ∷ pieces_of member o r → FitTo (after c) member o r n → FitTo (at_factor c) factor o r n
factor_to c o r to_none e h = tt
factor_to c o r (to t ks) e h =
    (h.0, h.1, subst (λ (X : List WrittenPiece). Core (at_factor c) o X r t) (sym e) (λ n ys qs s. via (at_factor c) o _ refl (h.2 _ ys qs s)))

factor_lines : (c : Place) (o : Opens) (l : List RowLine) → AllEnd l → AllFit (after c) member o l → AllFit (at_factor c) factor o l
factor_lines c o [] e h = tt
factor_lines c o (k ↝ n ∷ l) e h = (λ r sh v. factor_to c o r n (factor_writes k r sh e.0 o) (h.0 r sh v), factor_lines c o l e.1 h.1)

fit_first : (c : Place) (o : Opens) → Fit (at_number c) member o s_unit_first (to (t_units c) (kinds o))
fit_first c o r (is_first {p} {w}) v = (refl, g_units, core_unit (at_number c) c first o less space (60 ∷ []) p w (λ p. refl) (omega (arith, v.below)))

fit_more : (c : Place) (o : Opens) → Fit (at_factor c) factor o s_unit_more (to (t_units c) (kinds o))
fit_more c o r (is_times {p} {w}) v = (refl, g_units, core_unit (at_factor c) c times o star [] (42 ∷ []) p w (λ p. refl) (omega (arith, v.below)))
fit_more c o r (is_divided {p} {w}) v = (refl, g_units, core_unit (at_factor c) c divided o slash [] (47 ∷ []) p w (λ p. refl) (omega (arith, v.below)))

-- ---- all states

plain_lead : (st : State) (o : Opens) (X : List WrittenPiece) (r : Wording) (t : Await) → Core st o X r t → Core st o X r t
plain_lead st o X r t c = c

fit_lines : (t : Await) (q : Prior) (o : Opens) → Agrees t q → AllFit (state t) q o (lines t (kinds o))
fit_lines t q o (g_statement h) = fit_statement at_statement q o (λ ys qs s. s) h
fit_lines t q o g_value =
    let l = plain_lead (at_scalar alone any_value) o in
    (fit_number (at_scalar alone any_value) heading o alone any_value l, (fit_other (at_scalar alone any_value) heading o alone any_value l, (fit_sequence o, (fit_set o, tt))))
fit_lines t q o g_first =
    let l = plain_lead (at_scalar (within in_sequence) a_row) o in
    (fit_number (at_scalar (within in_sequence) a_row) start o (within in_sequence) a_row l, (fit_other (at_scalar (within in_sequence) a_row) start o (within in_sequence) a_row l, (fit_inner o, tt)))
fit_lines t q o g_set_first =
    let l = plain_lead (at_scalar (within in_set) a_set_end) o in
    (fit_number (at_scalar (within in_set) a_set_end) start o (within in_set) a_set_end l, (fit_other (at_scalar (within in_set) a_set_end) start o (within in_set) a_set_end l, (fit_empty o, tt)))
fit_lines t q o g_in_row =
    let l = plain_lead (at_scalar (within in_row) no_else) o in
    (fit_number (at_scalar (within in_row) no_else) start o (within in_row) no_else l, (fit_other (at_scalar (within in_row) no_else) start o (within in_row) no_else l, tt))
fit_lines t q o g_row = (fit_next_row o, (fit_rows_end o, tt))
fit_lines t q o (g_number {c}) =
    (fit_first c o, wider_lines (after c) (at_number c) member o (λ ys qs. number_units the_rules strict {c = c}) (after_lines c (kinds o)) (fit_after c o))
fit_lines t q o (g_units {c}) = (fit_more c o, factor_lines c o (after_lines c (kinds o)) (after_end c (kinds o)) (fit_after c o))
fit_lines t q o (g_member {g}) = fit_member g o
fit_lines t q o g_end = tt

-- ---- all rows

pub pieces_follow : {t : Await} {q : Prior} {ks : Kinds} (o : Opens) (rs : List Wording) → Each Valued rs → RowRun t ks rs t_end [] → Agrees t q → kinds o ≡ ks → (n : ℕ) →
    Rest the_rules strict (state t) o (place n (pieces q o rs)) (laid n q o rs)
pieces_follow o rs Also-none row_here g e n = r_end
pieces_follow {t} {q} {ks} o rs (Also-one {a = r} {s = rs'} v vs) (row_by {t' = t'} {o' = ks'} f a) g e n =
    subst (λ (l : List Placed). Rest the_rules strict (state t) o l (laid n q o (r ∷ rs'))) (sym (place_append n (pieces_of q o r) (pieces (prior r) (opens-after o r) rs')))
    (fit.2 n _ _ (pieces_follow (opens-after o r) rs' vs a fit.1 fit.0 (skip n (pieces_of q o r))))
  where
    fit : FitTo (state t) q o r (to t' ks')
    fit = subst (FitTo (state t) q o r) (ap (λ (i : Kinds). sort_step t i (sort r)) e ∙ f) (look_fit (state t) q o r v (lines t (kinds o)) (fit_lines t q o g))

-- the pieces of accepted rows are a label, and give the rows that were written
pub written_label : (m : List Wording) → RowAccepts t_statement [] m → Each Valued m → Label the_rules strict (place 0 (written_pieces m)) (laid 0 start outside m)
written_label m a v = whole the_rules strict (pieces_follow outside m v a (g_statement refl) refl 0)
