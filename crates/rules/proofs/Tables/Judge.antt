-- Every table is proper or improper, and at one place: the verdict that is computed is the rules', both ways.
use Prim.Native.Nat.{ℕ, zero, suc, ◌+◌, ◌≤◌, ◌<◌}
use mathlib.Core.Bool.{Bool, true, false, cond, ◌&&◌, false≢true, true≢false}
use mathlib.Core.Path.{◌≡◌, refl, sym, ap, subst, ◌∙◌}
use mathlib.Core.List.{List, [], ◌∷◌, ◌++◌, append-nil}
use native.Mathlib.Omega.{arith}
use lib.ListN.{length, length-append}
use Rattle.rules.specs.Reading.{longest}
use Rattle.rules.specs.Data.{Row, attribute, pointer, opened, closed, an_integer, a_real, a_moment, a_text, a_symbol, a_unit, sequence, sequence_end, set, set_end, last}
use Rattle.rules.specs.Table.{encode, table}
use Rattle.rules.specs.Proper.{Verdict, proper_rows, improper_at, Ruled, is_proper, is_improper}
use Rattle.rules.proofs.Tables.Tests.{and_true, and_left, and_right}
use Rattle.rules.proofs.Machine.Rows.{sort, Await, t_statement, t_value, t_first, t_set_first, t_in_row, t_row, t_end, t_number, t_units, t_member, Kinds, To, to_none, to, sort_step}
use Rattle.rules.proofs.Tables.Proper.{Going, going_end}
use Rattle.rules.proofs.Machine.Decoding.{Decoded, nothing, got, decode}
use Rattle.rules.proofs.Tables.DecodeSound.{decode_sound}
use Rattle.rules.proofs.Tables.Once.{improper_once, proper_not_improper, proper_once}
use Rattle.rules.proofs.Tables.Walk.{Fine, going_start, going_on, going_done, step_at, stop_at}
use Rattle.rules.proofs.Machine.Checks.{value_test, span_test}
use Rattle.rules.proofs.Tables.Decided.{value_decides, span_decides}
use Rattle.rules.proofs.Machine.Rows.{is_at_end}
use Rattle.rules.proofs.Machine.Splits.{is_nil}
use Rattle.rules.proofs.Machine.Verdicts.{RowStep, stops, steps, step_to, step_with, ending, on_step, walk, judge_table}

-- ---- one row

stops_steps : {r : Row} {s : List ℕ} {t : Await} {o : Kinds} → stops ≡ steps r s t o → ⊥
stops_steps e = let w : ◌≡◌ {A = ℕ} 0 1 = cc in omega arith

steps_same : {r r' : Row} {s s' : List ℕ} {t t' : Await} {o o' : Kinds} → steps r s t o ≡ steps r' s' t' o' → got r s ≡ got r' s'
steps_same e = cc

steps_to : {r r' : Row} {s s' : List ℕ} {t t' : Await} {o o' : Kinds} → steps r s t o ≡ steps r' s' t' o' → to t o ≡ to t' o'
steps_to e = cc

steps_row : {r r' : Row} {s s' : List ℕ} {t t' : Await} {o o' : Kinds} → steps r s t o ≡ steps r' s' t' o' → r ≡ r'
steps_row e = cc

-- a verdict tells what it is
pub same_rows : {rs qs : List Row} → proper_rows rs ≡ proper_rows qs → rs ≡ qs
same_rows e = cc

pub not_both : {rs : List Row} {at : ℕ} → proper_rows rs ≡ improper_at at → ⊥
not_both e = let z : ◌≡◌ {A = ℕ} 0 1 = cc in omega arith

module _ (given : List ℕ) (t : Await) (o : Kinds) where
  -- a step is a row that is read, and fine
  stepped : (d : Decoded) {r : Row} {s : List ℕ} {t' : Await} {o' : Kinds} → step_with given t o d ≡ steps r s t' o' → (d ≡ got r s) × Fine given t o r t' o'
  stepped nothing e = absurd (stops_steps e)
  stepped (got r₁ s₁) {r} {s} {t'} {o'} e = go (value_test r₁ && span_test given r₁) refl e
    where
      inner : (n : To) → sort_step t o (sort r₁) ≡ n → value_test r₁ && span_test given r₁ ≡ true → step_to r₁ s₁ n ≡ steps r s t' o' → (got r₁ s₁ ≡ got r s) × Fine given t o r t' o'
      inner to_none f h e = absurd (stops_steps e)
      inner (to t₁ o₁) f h e =
          let x : Fine given t o r₁ t' o' = record {
            value = (value_decides r₁).1 (and_left (value_test r₁) (span_test given r₁) h);
            holds = (span_decides given r₁).1 (and_right (value_test r₁) (span_test given r₁) h);
            step = f ∙ steps_to e;
          } in
          (steps_same e, subst (λ (q : Row). Fine given t o q t' o') (steps_row e) x)

      go : (c : Bool) → value_test r₁ && span_test given r₁ ≡ c → cond c (step_to r₁ s₁ (sort_step t o (sort r₁))) stops ≡ steps r s t' o' → (got r₁ s₁ ≡ got r s) × Fine given t o r t' o'
      go true h e = inner (sort_step t o (sort r₁)) refl h e
      go false h e = absurd (stops_steps e)

  -- where it stops, no row that is read is fine
  stopped : (d : Decoded) → step_with given t o d ≡ stops → (r : Row) (s : List ℕ) → d ≡ got r s → (t' : Await) (o' : Kinds) → Fine given t o r t' o' → ⊥
  stopped d e r s f t' o' x =
      let h : value_test r && span_test given r ≡ true = and_true ((value_decides r).0 x.value) ((span_decides given r).0 x.holds) in
      let g : step_with given t o (got r s) ≡ steps r s t' o' = rw h (ap (step_to r s) x.step) in
      stops_steps (sym e ∙ ap (step_with given t o) f ∙ g)

-- ---- all rows

at_end : (t : Await) → is_at_end t ≡ true → t ≡ t_end
at_end t_statement h = absurd (false≢true h)
at_end t_value h = absurd (false≢true h)
at_end t_first h = absurd (false≢true h)
at_end t_set_first h = absurd (false≢true h)
at_end t_in_row h = absurd (false≢true h)
at_end t_row h = absurd (false≢true h)
at_end t_end h = refl
at_end (t_number c) h = absurd (false≢true h)
at_end (t_units c) h = absurd (false≢true h)
at_end (t_member g) h = absurd (false≢true h)

no_more : (s : List ℕ) → is_nil s ≡ true → s ≡ []
no_more [] h = refl
no_more (b ∷ s) h = absurd (false≢true h)

pub encode_size : (r : Row) → 1 ≤ length (encode r)
encode_size (attribute p) = omega arith
encode_size (pointer p) = omega arith
encode_size (opened k p) = omega arith
encode_size (closed k) = omega arith
encode_size (an_integer w) = omega arith
encode_size (a_real x) = omega arith
encode_size (a_moment t) = omega arith
encode_size (a_text p) = omega arith
encode_size (a_symbol p) = omega arith
encode_size (a_unit op p w) = omega arith
encode_size sequence = omega arith
encode_size sequence_end = omega arith
encode_size set = omega arith
encode_size set_end = omega arith
encode_size (last n) = omega arith

fewer_left : (rest : List ℕ) (r : Row) (s : List ℕ) → decode rest ≡ got r s → length s < length rest
fewer_left rest r s e =
    let h : length rest ≡ length (encode r) + length s = ap length (decode_sound rest r s e) ∙ length-append (encode r) s in
    omega (arith, encode_size r)

module _ (given : List ℕ) (l : length given ≤ longest) (lent : List ℕ) where
  short : length given < 65536
  short = omega arith

  ended : {t : Await} {o : Kinds} (done : List Row) (rest : List ℕ) → lent ≡ table done ++ rest → Going given done t o →
      ((r : Row) (s : List ℕ) → decode rest ≡ got r s → (t' : Await) (o' : Kinds) → Fine given t o r t' o' → ⊥) → Ruled given lent (ending done t rest)
  ended {t} {o} done rest e g n = go (is_at_end t && is_nil rest) refl
    where
      go : (c : Bool) → (is_at_end t && is_nil rest) ≡ c → Ruled given lent (cond c (proper_rows done) (improper_at (length (table done))))
      go true h =
          let a : t ≡ t_end = at_end t (and_left (is_at_end t) (is_nil rest) h) in
          let b : rest ≡ [] = no_more rest (and_right (is_at_end t) (is_nil rest) h) in
          let g' : Going given done t_end o = subst (λ (x : Await). Going given done x o) a g in
          is_proper (e ∙ ap (λ (s : List ℕ). table done ++ s) b ∙ append-nil (table done)) (going_done given (subst (Going given done t_end) (going_end g') g'))
      go false h = is_improper (stop_at given short lent done rest e g n (λ a b. true≢false (sym (rw (a, b)) ∙ h)))

  walk_sound : (k : ℕ) (t : Await) (o : Kinds) (done : List Row) (rest : List ℕ) → length rest < k → lent ≡ table done ++ rest → Going given done t o →
      Ruled given lent (walk k given t o done rest)
  walk_sound zero t o done rest h e g = absurd (omega arith)
  walk_sound (suc k) t o done rest h e g =
      turn (step_with given t o (decode rest)) refl
      (λ r s t' o' d f. walk_sound k t' o' (done ++ (r ∷ [])) s (omega (arith, fewer_left rest r s d)) (step_at given lent done rest r s e d) (going_on given r g f))
    where
      turn : (x : RowStep) → step_with given t o (decode rest) ≡ x →
          ((r : Row) (s : List ℕ) (t' : Await) (o' : Kinds) → decode rest ≡ got r s → Fine given t o r t' o' → Ruled given lent (walk k given t' o' (done ++ (r ∷ [])) s)) →
          Ruled given lent (on_step x (ending done t rest) (λ r s t' o'. walk k given t' o' (done ++ (r ∷ [])) s))
      turn stops q ih = ended done rest e g (stopped given t o (decode rest) q)
      turn (steps r s t' o') q ih = let p = stepped given t o (decode rest) q in ih r s t' o' p.0 p.1

  -- every table has a verdict
  pub verdict_sound : Ruled given lent (judge_table given lent)
  unfolding judge_table
  verdict_sound = walk_sound (suc (length lent)) t_statement [] [] lent (omega arith) refl (going_start given)

  -- and only one
  pub verdict_once : {v v' : Verdict} → Ruled given lent v → Ruled given lent v' → v ≡ v'
  verdict_once (is_proper {rows = rs} e p) (is_proper {rows = rs'} e' p') = ap proper_rows (proper_once given short rs rs' p p' (sym e ∙ e'))
  verdict_once (is_proper {rows = rs} e p) (is_improper {at = i} x) = absurd (proper_not_improper given short lent i (rs, e, p) x)
  verdict_once (is_improper {at = i} x) (is_proper {rows = rs} e p) = absurd (proper_not_improper given short lent i (rs, e, p) x)
  verdict_once (is_improper {at = i} x) (is_improper {at = j} y) = ap improper_at (improper_once given short lent i j x y)

  pub verdict_complete : {v : Verdict} → Ruled given lent v → judge_table given lent ≡ v
  verdict_complete h = verdict_once verdict_sound h
