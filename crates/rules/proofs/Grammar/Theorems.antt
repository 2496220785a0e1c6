-- The machine and the rules agree: labels are what it accepts, what it has not refused can be completed, what it refuses cannot,
-- with the code that the rules give.
use Prim.Native.Nat.{ℕ}
use native.Mathlib.Decide.{dec_le, dec_lt}
use mathlib.Core.Path.{◌≡◌, refl, sym, ap, ◌∙◌, subst}
use mathlib.Core.Logic.{◌↔◌}
use mathlib.Core.Bool.{Bool, true, false, Bool-discrete}
use mathlib.Core.List.{List, [], ◌∷◌, ◌++◌, append_assoc, append-nil}
use native.Mathlib.Omega.{arith}
use native.Mathlib.Bridge.{le_by_compare, IsLe}
use Rattle.rules.specs.Data.{Span, Whole, one, Fixed, OBJECT, GROUP, BEGIN_OBJECT, BEGIN_GROUP, equals, comma, caret, less, lpar, rpar, semicolon, Elem, name, the, end, integer, based, real, moment, range, text, symbol, Placed, ◌on◌, Kind, object, group, closer, Op, first, Row, pointer, opened, closed, a_unit, sequence, sequence_end, last, Opens, outside, inside, depth}
use Rattle.rules.specs.Grammar.{Strictness, strict, relaxed, unwritten, factor, no_factor, no_units, text_value, no_scalar, sequence_1_d, no_row, scalar_value, unnamed, no_semicolon, no_statement, Label, label}
use Rattle.rules.specs.Modes.{Mode}
use Rattle.rules.specs.Faults.{Viable, PastLimit, exponent_past, name_differs, too_deep, begun_too_deep, not_set_off, Code, cannot_stand, past_limit, Refused, Early}
use Rattle.rules.proofs.Machine.Statements.{Group, in_sequence, in_row, in_set, Place, alone, within, Else, no_else, any_value, a_row, a_set_end, State, at_statement, at_semicolon, at_equals, at_pointer, at_opener, at_opened, at_closer, at_closed, at_scalar, at_number, at_member, at_row, at_next_row, at_unit, at_power, at_exponent, at_factor, at_end, Next, never, go, past, Answer, refuses, goes, judge, Entry, ◌⇒◌, dispatch, limit, a_scalar, name_discrete, row_begins, else, else_range, factors, powers, member, members, rows, openings, statements, after_statement, follows, offers, step}
use Rattle.rules.proofs.Grammar.Each.{Entries, entries_when, EachAnswer, each_only, each_name, each_whole, each_statement, each_also, each_scalar}
use Rattle.rules.proofs.Grammar.Rest.{Tail, tail_label, tail_block, Ended, ended_by, RowsRest, rows_rest, Ending, ending_sequence, ending_row, ending_set, After, after_alone, after_within, FactorsRest, factors_rest, Rest, r_statement, r_semicolon, r_equals, r_pointer, r_opener, r_opened, r_closer, r_closed, r_scalar, r_number, r_member, r_row, r_next_row, r_unit, r_power, r_exponent, r_factor, r_end}
use Rattle.rules.proofs.Grammar.Run.{Reach, here, by_step, Accepts, RunOutcome, ended, refused, prepend, carry, run, reading, reach_run, Trace, all_taken, some_refused, trace}
use Rattle.rules.proofs.Grammar.Sound.{keep, sound_step}
use Rattle.rules.proofs.Grammar.Complete.{complete, refuses_goes}

-- some place, for elements that are made up
z : Span
z = record { from = 0; upto = 0 }

rows_same : {q q' : State} {o o' : Opens} {r r' : List Row} → ended q o r ≡ ended q' o' r' → r ≡ r'
rows_same e = cc

ended_refused : {q : State} {o : Opens} {r : List Row} {c : ℕ} {x : Placed} → ended q o r ≡ refused c x → ⊥
ended_refused {q} {o} {r} {c} {x} e = let w : ◌≡◌ {A = ℕ} 0 1 = cc in omega arith

refused_same : {c c' : ℕ} {x x' : Placed} → refused c x ≡ refused c' x' → c ≡ c'
refused_same e = cc

code_same : {c c' : ℕ} → refuses c ≡ refuses c' → c ≡ c'
code_same e = cc

module _ (m : Mode) (s : Strictness) where
  -- ---- every state can be completed

  abbrev Some : (List Placed → List Row → Type 0) → Type 0
  Some L = (ys : List Placed) × (qs : List Row) × L ys qs

  some_tail : (o : Opens) → Some (Tail m s o)
  some_tail outside = (_, _, tail_label true z no_statement (keep s refl))
  some_tail (inside k n o) = let t = some_tail o in (_, _, tail_block z no_statement unnamed no_semicolon t.2)

  some_ended : (o : Opens) → Some (Ended m s o)
  some_ended o = (_, _, ended_by no_semicolon (some_tail o).2)

  some_rows : (o : Opens) → Some (RowsRest m s o)
  some_rows o = (_, _, rows_rest z no_row (some_ended o).2)

  some_ending : (g : Group) (o : Opens) → Some (Ending m s g o)
  some_ending in_sequence o = (_, _, ending_sequence {p = z} (some_ended o).2)
  some_ending in_row o = (_, _, ending_row {p = z} (some_rows o).2)
  some_ending in_set o = (_, _, ending_set {p = z} (some_ended o).2)

  some_after : (c : Place) (o : Opens) → Some (After m s c o)
  some_after alone o = (_, _, after_alone (some_ended o).2)
  some_after (within g) o = (_, _, after_within no_scalar (some_ending g o).2)

  some_factors : (c : Place) (o : Opens) → Some (FactorsRest m s c o)
  some_factors c o = (_, _, factors_rest z no_factor (some_after c o).2)

  some_rest : (q : State) (o : Opens) → Some (Rest m s q o)
  unfolding IsLe
  some_rest at_statement o = (_, _, r_statement (some_tail o).2)
  some_rest at_semicolon o = (_, _, r_semicolon (some_ended o).2)
  some_rest at_equals o = (_, _, r_equals {p = z} (scalar_value (text_value {p = z})) (some_ended o).2)
  some_rest at_pointer o = (_, _, r_pointer {n = []} {p = z} {q = z} (scalar_value (text_value {p = z})) (some_ended o).2)
  some_rest (at_opener k) o = (_, _, r_opener {n = []} {p = z} {q = z} (some_ended (inside k [] o)).2)
  some_rest (at_opened k) o = (_, _, r_opened {n = []} {p = z} (some_ended (inside k [] o)).2)
  some_rest (at_closer n) o = (_, _, r_closer unnamed (some_ended o).2)
  some_rest (at_closed n) o = (_, _, r_closed {n' = n} {p = z} (keep s refl) (some_ended o).2)
  some_rest (at_scalar c a) o = (_, _, r_scalar (text_value {p = z}) (some_after c o).2)
  some_rest (at_number c) o = (_, _, r_number no_units (some_after c o).2)
  some_rest (at_member g) o = (_, _, r_member (some_after (within g) o).2)
  some_rest at_row o = (_, _, r_row (some_rows o).2)
  some_rest at_next_row o = (_, _, r_next_row (sequence_1_d {p = z} z (text_value {p = z}) no_scalar) (some_rows o).2)
  some_rest (at_unit c op) o = (_, _, r_unit (factor {n = []} {p = z} unwritten) (some_factors c o).2)
  some_rest (at_power c op p) o = (_, _, r_power unwritten (some_factors c o).2)
  some_rest (at_exponent c op p) o = (_, _, r_exponent {q = z} {w = one} (keep s (le_by_compare 1 99 tt)) (some_factors c o).2)
  some_rest (at_factor c) o = (_, _, r_factor (some_factors c o).2)
  some_rest at_end o = (_, _, r_end)

  -- ---- (a) labels are what the machine accepts

  pub sound_reach : {q q' : State} {o o' : Opens} {xs ys : List Placed} {rs qs : List Row} → Reach m s q o xs q' o' rs →
      Rest m s q' o' ys qs → Rest m s q o (xs ++ ys) (rs ++ qs)
  sound_reach here t = t
  sound_reach (by_step {q = q} {o = o} {x = x} e r) t = simp append_assoc (sound_step m s q o x e (sound_reach r t))

  pub whole : {xs : List Placed} {rs : List Row} → Rest m s at_statement outside xs rs → Label m s xs rs
  whole (r_statement (tail_label b p ss h)) = label b p ss h

  pub accepted→label : {xs : List Placed} {rs : List Row} → Accepts m s at_statement outside xs rs → Label m s xs rs
  accepted→label a = simp append-nil at (whole (sound_reach a r_end))

  -- the run over a label
  pub label→run : {xs : List Placed} {rs : List Row} → Label m s xs rs → run m s at_statement outside xs ≡ ended at_end outside rs
  label→run l = simp append-nil at (reach_run m s (complete m s l) [])

  run→accepted : {xs : List Placed} {rs : List Row} {q : State} {o : Opens} → run m s at_statement outside xs ≡ ended q o rs → Reach m s at_statement outside xs q o rs
  run→accepted {xs} {rs} {q} {o} e = taken (subst (Trace m s at_statement outside xs) e (trace m s at_statement outside xs))
    where
      taken : {xs : List Placed} → Trace m s at_statement outside xs (ended q o rs) → Reach m s at_statement outside xs q o rs
      taken (all_taken r) = r

  pub labels : {xs : List Placed} {rs : List Row} → Label m s xs rs ↔ (reading m s xs ≡ ended at_end outside rs)
  labels = (label→run, λ e. accepted→label (run→accepted e))

  -- ---- (d) a label gives one list of rows
  pub unique : {xs : List Placed} {r₁ r₂ : List Row} → Label m s xs r₁ → Label m s xs r₂ → r₁ ≡ r₂
  unique l₁ l₂ = rows_same (sym (label→run l₁) ∙ label→run l₂)

  -- ---- (b) what is not refused can be completed
  pub reach→viable : {q : State} {o : Opens} {es : List Placed} {rs : List Row} → Reach m s at_statement outside es q o rs → Viable m s es
  reach→viable {q} {o} r = let t = some_rest q o in (t.0, _, whole (sound_reach r t.2))

  pub taken→viable : {q : State} {o : Opens} (es : List Placed) {rs : List Row} → reading m s es ≡ ended q o rs → Viable m s es
  taken→viable es e = reach→viable {es = es} (run→accepted {xs = es} e)

  -- ---- (c) what is refused cannot be completed
  pub refused→not_viable : {q : State} {o : Opens} {es : List Placed} {rs : List Row} (x : Placed) {c : ℕ} → Reach m s at_statement outside es q o rs →
      step m s q o x ≡ refuses c → Viable m s (es ++ (x ∷ [])) → ⊥
  refused→not_viable {q} {o} {es} {rs} x {c} r e v = ended_refused (sym done ∙ back)
    where
      rest : List Placed
      rest = v.0

      done : run m s at_statement outside (es ++ (x ∷ rest)) ≡ ended at_end outside v.1
      done = simp append_assoc at (label→run v.2)

      back : run m s at_statement outside (es ++ (x ∷ rest)) ≡ refused c x
      back = reach_run m s r (x ∷ rest) ∙ ap (λ (a : Answer). prepend rs (carry a x (λ q' o'. run m s q' o' rest))) e

  pub reach_more : {q q' q'' : State} {o o' o'' : Opens} {es : List Placed} {rs r : List Row} (x : Placed) → Reach m s q o es q' o' rs →
      step m s q' o' x ≡ goes q'' o'' r → Reach m s q o (es ++ (x ∷ [])) q'' o'' (rs ++ (r ++ []))
  reach_more x here e = by_step e here
  reach_more x (by_step f t) e = simp append_assoc (by_step f (reach_more x t e))

-- ---- strict and relaxed

module _ (m : Mode) where
  strict_goes : (n : Next) {q : State} {o : Opens} {r : List Row} → judge strict n ≡ goes q o r → judge relaxed n ≡ goes q o r
  strict_goes never e = e
  strict_goes (go q o r) e = e
  strict_goes (past c q o r) e = absurd (refuses_goes e)

  relax : {q q' : State} {o o' : Opens} {es : List Placed} {rs : List Row} → Reach m strict q o es q' o' rs → Reach m relaxed q o es q' o' rs
  relax here = here
  relax (by_step {q = q} {o = o} {x = x} e t) = by_step (strict_goes (dispatch (offers m q o) x) e) (relax t)

  -- an element past a limit says which
  abbrev Limited : Placed → Next → Type 0
  Limited (e on p) never = Unit {0}
  Limited (e on p) (go q o r) = Unit {0}
  Limited (e on p) (past c q o r) = PastLimit e c

  unlimited : (x : Placed) → Limited x never
  unlimited (e on p) = tt

  limited : {P : Type 0} (d : Dec P) (e : Elem) (p : Span) (c : ℕ) (q : State) (o : Opens) (r : List Row) → PastLimit e c → Limited (e on p) (limit d c q o r)
  limited (yes h) e p c q o r l = tt
  limited (no h) e p c q o r l = l

  limited_opens : (f : Fixed) (k : Kind) (o : Opens) → PastLimit (the f) 8 → (p : Span) → Limited (the f on p) (limit (dec_lt (depth o) 80) 8 (at_opener k) o [])
  limited_opens f k o l p = limited (dec_lt (depth o) 80) (the f) p 8 _ _ _ l

  limited_openings : (v : Bool) (o : Opens) → Entries Limited unlimited (openings v o)
  limited_openings true o = (
    λ p. tt,
    (
      limited_opens OBJECT object o (too_deep object),
      (
        limited_opens GROUP group o (too_deep group),
        (limited_opens BEGIN_OBJECT object o (begun_too_deep object), (limited_opens BEGIN_GROUP group o (begun_too_deep group), tt)),
      ),
    ),
  )
  limited_openings false o = (λ p. tt, (limited_opens OBJECT object o (too_deep object), (limited_opens GROUP group o (too_deep group), tt)))

  limited_statements : (v : Bool) (o : Opens) → EachAnswer Limited unlimited (statements v o)
  limited_statements v outside =
      each_statement Limited unlimited _ _ (openings v outside) (λ n p. tt)
      (λ b p. limited (Bool-discrete b true) (end b) p 9 at_end outside (last p.upto ∷ []) not_set_off) (limited_openings v outside)
  limited_statements v (inside k n o) =
      each_statement Limited unlimited _ _ (closer k ⇒ go (at_closer n) o (closed k ∷ []) ∷ openings v (inside k n o)) (λ n p. tt) (λ b p. tt)
      (λ p. tt, limited_openings v (inside k n o))

  limited_ended : (v : Bool) (o : Opens) → EachAnswer Limited unlimited (after_statement v o)
  limited_ended true o = each_also Limited unlimited semicolon (go at_statement o []) (statements true o) (λ p. tt) (limited_statements true o)
  limited_ended false o = limited_statements false o

  limited_member : (g : Group) (o : Opens) → Entries Limited unlimited (member g o)
  limited_member in_sequence o = (λ p. tt, (λ p. tt, tt))
  limited_member in_row o = (λ p. tt, (λ p. tt, tt))
  limited_member in_set o = (λ p. tt, (λ p. tt, tt))

  limited_scalar : (c : Place) (o : Opens) (f : Whole → Whole → Next) (l : List Entry) → ((lo hi : Whole) (p : Span) → Limited (range lo hi on p) (f lo hi)) →
      Entries Limited unlimited l → EachAnswer Limited unlimited (a_scalar c o f l)
  limited_scalar c o f l h t = each_scalar Limited unlimited c o f l (λ n p. tt) (λ w p. tt) (λ w p. tt) (λ x p. tt) (λ t p. tt) h (λ p. tt) (λ p. tt) t

  limited_members : (v : Bool) (g : Group) (o : Opens) → EachAnswer Limited unlimited (members v g o)
  limited_members true g o = limited_scalar (within g) o (λ lo hi. never) (member g o) (λ lo hi p. tt) (limited_member g o)
  limited_members false g o = each_only Limited unlimited (member g o) (limited_member g o)

  limited_follows : (c : Place) (o : Opens) → EachAnswer Limited unlimited (follows m c o)
  limited_follows alone o = limited_ended m.pvl o
  limited_follows (within g) o = limited_members m.version_1 g o

  limited_else : (a : Else) (o : Opens) → Entries Limited unlimited (else a o)
  limited_else no_else o = tt
  limited_else any_value o = (λ p. tt, (λ p. tt, tt))
  limited_else a_row o = (λ p. tt, tt)
  limited_else a_set_end o = (λ p. tt, tt)

  limited_range : (v : Bool) (a : Else) (o : Opens) (lo hi : Whole) (p : Span) → Limited (range lo hi on p) (else_range v a o lo hi)
  limited_range v no_else o lo hi p = tt
  limited_range true any_value o lo hi p = tt
  limited_range false any_value o lo hi p = tt
  limited_range v a_row o lo hi p = tt
  limited_range v a_set_end o lo hi p = tt

  limited_rows : (v : Bool) (o : Opens) → Entries Limited unlimited (rows v o)
  limited_rows v o =
      entries_when Limited unlimited v lpar (go (at_scalar (within in_row) no_else) o (sequence ∷ []))
      (comma ⇒ go at_next_row o [] ∷ rpar ⇒ go at_semicolon o (sequence_end ∷ []) ∷ []) (λ h p. tt) (λ p. tt, (λ p. tt, tt))

  limited_powers : (v : Bool) (c : Place) (op : Op) (p : Span) (o : Opens) → Entries Limited unlimited (powers v c op p o)
  limited_powers v c op p o =
      (λ q. tt, entries_when Limited unlimited v caret (go (at_exponent c op p) o []) (factors c o (a_unit op p one ∷ [])) (λ h q. tt) (λ q. tt, (λ q. tt, (λ q. tt, tt))))

  limited_offers : (q : State) (o : Opens) → EachAnswer Limited unlimited (offers m q o)
  limited_offers at_statement o = limited_statements m.pvl o
  limited_offers at_semicolon o = limited_ended m.pvl o
  limited_offers at_equals o = each_only Limited unlimited (equals ⇒ go (at_scalar alone any_value) o [] ∷ []) (λ p. tt, tt)
  limited_offers at_pointer o = each_name Limited unlimited (λ n p. go at_equals o (pointer p ∷ [])) (λ n p. tt)
  limited_offers (at_opener k) o = each_only Limited unlimited (equals ⇒ go (at_opened k) o [] ∷ []) (λ p. tt, tt)
  limited_offers (at_opened k) o = each_name Limited unlimited (λ n p. go at_semicolon (inside k n o) (opened k p ∷ [])) (λ n p. tt)
  limited_offers (at_closer n) o = each_also Limited unlimited equals (go (at_closed n) o []) (after_statement m.pvl o) (λ p. tt) (limited_ended m.pvl o)
  limited_offers (at_closed n) o =
      each_name Limited unlimited (λ n' p. limit (name_discrete n' n) 7 at_semicolon o []) (λ n' p. limited (name_discrete n' n) (name n') p 7 at_semicolon o [] name_differs)
  limited_offers (at_scalar c a) o = limited_scalar c o (else_range m.version_1 a o) (else a o) (limited_range m.version_1 a o) (limited_else a o)
  limited_offers (at_number c) o = each_also Limited unlimited less (go (at_unit c first) o []) (follows m c o) (λ p. tt) (limited_follows c o)
  limited_offers (at_member g) o = limited_follows (within g) o
  limited_offers at_row o = each_only Limited unlimited (rows m.version_1 o) (limited_rows m.version_1 o)
  limited_offers at_next_row o = each_only Limited unlimited (row_begins o ∷ []) (λ p. tt, tt)
  limited_offers (at_unit c op) o = each_name Limited unlimited (λ n p. go (at_power c op p) o []) (λ n p. tt)
  limited_offers (at_power c op p) o = each_only Limited unlimited (powers m.version_1 c op p o) (limited_powers m.version_1 c op p o)
  limited_offers (at_exponent c op p) o =
      each_whole Limited unlimited (λ w q. limit (dec_le w.size 99) 5 (at_factor c) o (a_unit op p w ∷ []))
      (λ w q. limited (dec_le w.size 99) (integer w) q 5 (at_factor c) o (a_unit op p w ∷ []) exponent_past)
  limited_offers (at_factor c) o = each_only Limited unlimited (factors c o []) (λ p. tt, (λ p. tt, (λ p. tt, tt)))
  limited_offers at_end o = each_only Limited unlimited [] tt

  -- the code of a refusal is the one that the rules give
  code_of : {q : State} {o : Opens} {es : List Placed} {rs : List Row} (x : Placed) (c : ℕ) → Reach m strict at_statement outside es q o rs →
      (n : Next) → dispatch (offers m q o) x ≡ n → judge strict n ≡ refuses c → Limited x n → Code m es x c
  code_of {es} x c t never e f l =
      subst (Code m es x) (code_same f) (cannot_stand (refused→not_viable m relaxed x (relax t) (ap (judge relaxed) e)))
  code_of x c t (go q o r) e f l = absurd (refuses_goes (sym f))
  code_of {es} (el on p) c t (past c' q o r) e f l =
      subst (Code m es (el on p)) (code_same f) (past_limit (reach→viable m relaxed (reach_more m relaxed (el on p) (relax t) (ap (judge relaxed) e))) l)

  pub refused_at : {q : State} {o : Opens} {es : List Placed} {rs : List Row} (x : Placed) {c : ℕ} → Reach m strict at_statement outside es q o rs →
      step m strict q o x ≡ refuses c → Refused m es x c
  refused_at {q} {o} x {c} t e =
      record {
        until = reach→viable m strict t;
        fault = refused→not_viable m strict x t e;
        code = code_of x c t (dispatch (offers m q o) x) refl e (limited_offers q o x);
      }

  -- ---- (c) a refused reading: the elements before the fault begin a label, those with it do not, and the code is the rules'
  pub refusal : (es : List Placed) (c : ℕ) (x : Placed) → reading m strict es ≡ refused c x →
      (before : List Placed) × (after : List Placed) × (es ≡ before ++ (x ∷ after)) × Refused m before x c
  refusal es c x e = at_last es (subst (Trace m strict at_statement outside es) e (trace m strict at_statement outside es))
    where
      at_last : (es : List Placed) → Trace m strict at_statement outside es (refused c x) →
          (before : List Placed) × (after : List Placed) × (es ≡ before ++ (x ∷ after)) × Refused m before x c
      at_last es (some_refused {xs = before} ys t f) = (before, ys, refl, refused_at x t f)

  -- ---- the other way round: the rules' refusal is the reading's

  limit_code : Elem → ℕ
  limit_code (name n) = 7
  limit_code (the k) = 8
  limit_code (end b) = 9
  limit_code (integer w) = 5
  limit_code (based w) = 0
  limit_code (real x) = 0
  limit_code (moment t) = 0
  limit_code (range lo hi) = 0
  limit_code text = 0
  limit_code symbol = 0

  one_limit : {e : Elem} {c : ℕ} → PastLimit e c → c ≡ limit_code e
  unfolding limit_code
  one_limit exponent_past = refl
  one_limit name_differs = refl
  one_limit (too_deep k) = refl
  one_limit (begun_too_deep k) = refl
  one_limit not_set_off = refl

  pub same_code : {es : List Placed} {x : Placed} {c c' : ℕ} → Code m es x c → Code m es x c' → c ≡ c'
  same_code (cannot_stand h) (cannot_stand h') = refl
  same_code (cannot_stand h) (past_limit v l) = absurd (h v)
  same_code (past_limit v l) (cannot_stand h) = absurd (h v)
  same_code (past_limit v l) (past_limit v' l') = one_limit l ∙ sym (one_limit l')

  -- a beginning of a label is not refused
  pub viable→taken : {es : List Placed} {y : RunOutcome} → Trace m strict at_statement outside es y → Viable m strict es →
      (q : State) × (o : Opens) × (rs : List Row) × Reach m strict at_statement outside es q o rs
  viable→taken (all_taken t) v = (_, _, _, t)
  viable→taken (some_refused {x = x} ys t e) v =
      absurd (refused→not_viable m strict x t e (ys ++ v.0, v.1, simp append_assoc (simp append_assoc at v.2)))

  at_fault : (before after : List Placed) (x : Placed) (c : ℕ) {q : State} {o : Opens} {rs : List Row} → Refused m before x c →
      Reach m strict at_statement outside before q o rs → (a : Answer) → step m strict q o x ≡ a → reading m strict (before ++ (x ∷ after)) ≡ refused c x
  at_fault before after x c {q} {o} {rs} r t (refuses c') e =
      reach_run m strict t (x ∷ after)
      ∙ ap (λ (a : Answer). prepend rs (carry a x (λ q' o'. run m strict q' o' after))) e
      ∙ ap (λ (i : ℕ). refused i x) (same_code (refused_at x t e).code r.code)
  at_fault before after x c r t (goes q' o' r') e = absurd (r.fault (reach→viable m strict (reach_more m strict x t e)))

  pub refused→reading : (before after : List Placed) (x : Placed) (c : ℕ) → Refused m before x c → reading m strict (before ++ (x ∷ after)) ≡ refused c x
  refused→reading before after x c r =
      let t = viable→taken (trace m strict at_statement outside before) r.until in
      at_fault before after x c r t.3 (step m strict t.0 t.1 x) refl

  -- ---- a reading that ends early
  pub early : (es : List Placed) (q : State) (o : Opens) (rs : List Row) → reading m strict es ≡ ended q o rs →
      ((rows : List Row) → ended q o rs ≡ ended at_end outside rows → ⊥) → Early m es
  early es q o rs e h = record { until = taken→viable m strict es e; short = λ rows l. h rows (sym e ∙ label→run m strict l) }

  -- the relaxed grammar takes every label, with the same rows
  pub strict→relaxed : {xs : List Placed} {rs : List Row} → Label m strict xs rs → Label m relaxed xs rs
  strict→relaxed l = accepted→label m relaxed (relax (complete m strict l))
