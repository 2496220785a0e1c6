-- For every list of bytes exactly one outcome; a label follows the rules in exactly one way; and every outcome can be given in the numbers of the paper.
use Prim.Native.Nat.{ℕ, ◌+◌, ◌≤◌}
use native.Mathlib.Omega.{arith}
use mathlib.Core.Bool.{Bool}
use mathlib.Core.Path.{◌≡◌, refl, sym, ap, subst, ◌∙◌}
use mathlib.Core.List.{List, ◌∷◌, ◌++◌}
use lib.ListN.{length, length-append}
use Rattle.rules.specs.Data.{Elem, Placed, Row, Opens, outside}
use Rattle.rules.specs.Modes.{Mode}
use Rattle.rules.specs.Grammar.{strict, Label}
use Rattle.rules.specs.Faults.{PastLimit, exponent_past, name_differs, too_deep, begun_too_deep, not_set_off, Code, cannot_stand, past_limit}
use Rattle.rules.specs.Elements.{Gap, Spells, placed, Cut, none_more, next, Breaks, open_at_end, open_at, foreign, Fault, no_element, no_form, broken_text, broken_symbol, broken_comment, empty_symbol, long_symbol}
use Rattle.rules.specs.Elements as Elements
use Rattle.rules.specs.Reading.{Outcome, accepted, refused, Judged, follows, misspelled, misplaced, ends_early}
use Rattle.rules.proofs.Elements.Next.{same_ahead, next_complete}
use Rattle.rules.proofs.Machine.Elements.{next_element, finds}
use Rattle.rules.proofs.Machine.Statements.{State, at_end, goes, step}
use Rattle.rules.proofs.Grammar.Run.{Reach, here, by_step}
use Rattle.rules.proofs.Grammar.Complete.{refuses_goes, complete}
use Rattle.rules.proofs.Grammar.Theorems.{unique}
use Rattle.rules.proofs.Machine.Labels.{judge_label}
use Rattle.rules.proofs.Reading.Reader.{judge_sound, judge_complete, cut_length, end_refuses}

-- an outcome tells what it is
pub accepted_same : {rows rows' : List Row} {i j : ℕ} → accepted rows i ≡ accepted rows' j → rows ≡ rows'
accepted_same e = cc

pub accepted_refused : {rows : List Row} {i c j : ℕ} → accepted rows i ≡ refused c j → ⊥
accepted_refused {rows} {i} {c} {j} e = let z : ◌≡◌ {A = ℕ} 0 1 = cc in omega arith

module _ (m : Mode) where
  -- the rules accept or refuse every list of bytes, with one table, or one code and place
  pub one_outcome : (l : List ℕ) → (z : Outcome) × Judged m l z × ((z' : Outcome) → Judged m l z' → z' ≡ z)
  one_outcome l = (judge_label m l, judge_sound m l, λ z' j. sym (judge_complete m j))

  -- ---- one way

  -- after one element of a cut, another cut of the same bytes: it has the same element, and is the same from there on
  another : {q q' : State} {o o' : Opens} {i n j : ℕ} {e : Elem} {g w l : List ℕ} {xs : List Placed} {r : List Row} → Gap m g (w ++ l) → Spells m w e n l →
      step m strict q o (placed i g w e n) ≡ goes q' o' r →
      ((ys : List Placed) (k : ℕ) (t : List ℕ) (rs : List Row) → Cut m (i + length g + length w) l ys k t → Reach m strict q' o' ys at_end outside rs → (xs ≡ ys) × (j ≡ k)) →
      {b t : List ℕ} {ys : List Placed} {k : ℕ} {rs : List Row} → b ≡ g ++ (w ++ l) → Cut m i b ys k t → Reach m strict q o ys at_end outside rs → (placed i g w e n ∷ xs ≡ ys) × (j ≡ k)
  another {i = i} {n = n} {e = e} {g = g} {w = w} x s h ih p none_more here = absurd (refuses_goes (sym (end_refuses m outside (placed i g w e n)) ∙ h))
  another {q} {q'} {o} {o'} {i} {n} {e = e} {g = g} {w = w} {l = l} {xs = xs} x s h ih {t = t} {k = k} p (next {q = n₂} {l = l₂} {e = e₂} {es = ys} g₂ w₂ x₂ s₂ c₂) (by_step {q' = q₂} {o' = o₂} {r = r₂} {rs = rs₂} h₂ t₂) =
      let f = same_ahead (sym (next_complete m (finds x s)) ∙ ap (next_element m) (sym p) ∙ next_complete m (finds x₂ s₂)) in
      let one : placed i g w e n ≡ placed i g₂ w₂ e₂ n₂ = rw (f.elem, f.left, f.gap, f.bytes) in
      let both : goes _ _ _ ≡ goes q₂ o₂ r₂ = sym h ∙ ap (step m strict q o) one ∙ h₂ in
      let qs : q₂ ≡ q' = cc in
      let os : o₂ ≡ o' = cc in
      let c : Cut m (i + length g + length w) l ys k t = rw (f.gap, f.bytes, f.rest) c₂ in
      let a = ih ys k t rs₂ c (subst (λ (y : State). Reach m strict y o' ys at_end outside rs₂) qs (subst (λ (y : Opens). Reach m strict q₂ y ys at_end outside rs₂) os t₂)) in
      (ap (λ (y : Placed). y ∷ xs) one ∙ ap (λ (zs : List Placed). placed i g₂ w₂ e₂ n₂ ∷ zs) a.0, a.1)

  same_cut : {q : State} {o : Opens} {i j : ℕ} {l r : List ℕ} {es : List Placed} {rs : List Row} → Cut m i l es j r → Reach m strict q o es at_end outside rs →
      (ys : List Placed) (k : ℕ) (t : List ℕ) (qs : List Row) → Cut m i l ys k t → Reach m strict q o ys at_end outside qs → (es ≡ ys) × (j ≡ k)
  same_cut none_more here ys k t qs none_more u = (refl, refl)
  same_cut none_more here ys k t qs (next {i} {q = n} {e = e} g w x s c) (by_step h u) = absurd (refuses_goes (sym (end_refuses m outside (placed i g w e n)) ∙ h))
  same_cut (next g w x s c) (by_step {q' = q₁} e t) ys k b qs d u = another x s e (λ ys' k' t' qs' d' u'. same_cut {q = q₁} c t ys' k' t' qs' d' u') refl d u

  -- the elements, the rows and the place past END of a label that follows the rules
  pub one_way : {l r r' : List ℕ} {es es' : List Placed} {i i' : ℕ} {rows rows' : List Row} → Cut m 0 l es i r → Label m strict es rows → Cut m 0 l es' i' r' → Label m strict es' rows' →
      (es ≡ es') × (rows ≡ rows') × (i ≡ i')
  one_way {r' = r'} {es' = es'} {i' = i'} {rows' = rows'} c L d N =
      let a = same_cut c (complete m strict L) es' i' r' rows' d (complete m strict N) in
      (a.0, unique m strict L (subst (λ (x : List Placed). Label m strict x rows') (sym a.0) N), a.1)

  -- ---- what the reader can give

  pub record InRange (least most : ℕ) (n : ℕ) : Type 0 where
    pub from : least ≤ n
    pub upto : n ≤ most

  break_code : {p : ℕ → Bool} {r : List ℕ} {c : ℕ} → Breaks p r c → InRange 2 10 c
  break_code open_at_end = omega arith
  break_code (open_at h) = omega arith
  break_code (foreign h) = omega arith

  fault_code : {r : List ℕ} {c : ℕ} → Fault m r c → InRange 2 10 c
  fault_code (no_element f g h k) = omega arith
  fault_code (no_form t f) = omega arith
  fault_code (Elements.past_limit t f) = omega arith
  fault_code (broken_text t h b) = break_code b
  fault_code (broken_symbol t h b) = break_code b
  fault_code (broken_comment t h b) = break_code b
  fault_code empty_symbol = omega arith
  fault_code (long_symbol t h) = omega arith

  limit_code : {e : Elem} {c : ℕ} → PastLimit e c → InRange 2 10 c
  limit_code exponent_past = omega arith
  limit_code name_differs = omega arith
  limit_code (too_deep k) = omega arith
  limit_code (begun_too_deep k) = omega arith
  limit_code not_set_off = omega arith

  refusal_code : {es : List Placed} {x : Placed} {c : ℕ} → Code m es x c → InRange 2 10 c
  refusal_code (cannot_stand n) = omega arith
  refusal_code (past_limit v l) = limit_code l

  -- the code of a refusal, and its place, which lies in the input or at its end
  pub refusal_given : {l : List ℕ} {c i : ℕ} → Judged m l (refused c i) → InRange 2 10 c × (i ≤ length l)
  refusal_given (misspelled {g = g} {r} k E x f) = (fault_code f, omega (arith, cut_length m k, length-append g r))
  refusal_given (misplaced {g = g} {w} {r} k E x s R) = (refusal_code R.code, omega (arith, cut_length m k, length-append g (w ++ r)))
  refusal_given (ends_early k E x) = (omega arith, omega arith)

  -- the place past END of a label that is accepted
  pub acceptance_given : {l : List ℕ} {rows : List Row} {i : ℕ} → Judged m l (accepted rows i) → i ≤ length l
  acceptance_given (follows c L) = omega (arith, cut_length m c)
