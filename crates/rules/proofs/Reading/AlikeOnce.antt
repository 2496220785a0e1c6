-- Labels read alike leave no choice: the outcome of the one fixes that of the other, and so does what a call says.
use Prim.Native.Nat.{ℕ, ◌+◌, ◌≤◌, ◌<◌}
use native.Mathlib.Omega.{arith}
use mathlib.Core.Path.{◌≡◌, refl, sym, ap, ap₂, subst, subst₂, ◌∙◌}
use mathlib.Core.List.{List, ◌++◌}
use lib.ListN.{length, length-append, take}
use lib.Seq.{take-append_seam}
use Rattle.rules.specs.Data.{Row}
use Rattle.rules.specs.Modes.{Mode}
use Rattle.rules.specs.Table.{table}
use Rattle.rules.specs.Reading.{longest, Outcome, accepted, refused, Said, says}
use Rattle.rules.specs.Proper.{proper_rows, Ruled}
use Rattle.rules.specs.Meaning.{meaning}
use Rattle.rules.specs.SameElements.{OneElement, spelled, any_word, any_symbol, Through, Listed, to_the_end, through_end, and_then, SameElements, SamePlace, the_first, further, LastPlace, the_only, behind, AlikeRead, both_accepted, both_refused, both_at_the_end, AlikeSaid, both_stored, both_not_read, both_ended}
use Rattle.rules.proofs.Elements.Next.{spells_some}
use Rattle.rules.proofs.Reading.Outcomes.{accepted_same, accepted_refused}
use Rattle.rules.proofs.Tables.Judge.{same_rows, verdict_once}

some_bytes : {m : Mode} {w r : List ℕ} → OneElement m w r → 0 < length w
some_bytes (spelled s) = spells_some s
some_bytes (any_word t) = omega arith
some_bytes (any_symbol t) = omega arith

-- ---- places

module _ {m : Mode} where
  -- an element starts within the bytes
  within_bytes : {i p p' : ℕ} {l ps ps' : List ℕ} {ws : List (List ℕ)} {t : Through} → Listed m i l ws ps t → SamePlace ps ps' p p' → (i ≤ p) × (p < i + length l)
  within_bytes (to_the_end x) q = elim q [ ]
  within_bytes (through_end {g = g} {w = w} {r = r} x s k o) the_first =
      (omega arith, omega (arith, some_bytes s, length-append g (w ++ r), length-append w r))
  within_bytes (through_end x s k o) (further q) = elim q [ ]
  within_bytes (and_then {g = g} {w = w} {l = r} x s k a) the_first =
      (omega arith, omega (arith, some_bytes s, length-append g (w ++ r), length-append w r))
  within_bytes (and_then {g = g} {w = w} {l = r} x s k a) (further q) =
      let h = within_bytes a q in
      (omega (arith, h.0), omega (arith, h.1, length-append g (w ++ r), length-append w r))

  -- and no two start at one place
  one_place : {i p p' p₁ p₂ : ℕ} {l ps ps' : List ℕ} {ws : List (List ℕ)} {t : Through} → Listed m i l ws ps t → SamePlace ps ps' p p₁ → SamePlace ps ps' p' p₂ → p ≡ p' → p₁ ≡ p₂
  one_place (to_the_end x) q q' e = elim q [ ]
  one_place (through_end x s k o) the_first the_first e = refl
  one_place (through_end x s k o) the_first (further q) e = elim q [ ]
  one_place (through_end x s k o) (further q) q' e = elim q [ ]
  one_place (and_then x s k a) the_first the_first e = refl
  one_place (and_then x s k a) the_first (further q) e = absurd (omega (arith, some_bytes s, (within_bytes a q).0))
  one_place (and_then x s k a) (further q) the_first e = absurd (omega (arith, some_bytes s, (within_bytes a q).0))
  one_place (and_then x s k a) (further q) (further q') e = one_place a q q' e

-- the last places are one pair
one_last : {p q p₁ p₂ : ℕ} {ps ps' : List ℕ} → LastPlace ps ps' p p₁ → LastPlace ps ps' q p₂ → p₁ ≡ p₂
one_last the_only the_only = refl
one_last the_only (behind s) = elim s [ ]
one_last (behind s) the_only = elim s [ ]
one_last (behind s) (behind s') = one_last s s'

-- ---- outcomes

-- Two outcomes of one label: the same refusal, or tables of equal meaning and equal length, and the same place.
pub data Once (l : List ℕ) : Outcome → Outcome → Type 0 where
  one_refusal : {c p : ℕ} → Once l (refused c p) (refused c p)
  one_acceptance : {rows rows' : List Row} {i : ℕ} → meaning l rows ≡ meaning l rows' → length (table rows) ≡ length (table rows') → Once l (accepted rows i) (accepted rows' i)

abbrev place_of : Outcome → ℕ
place_of (accepted rows i) = i
place_of (refused c i) = i

abbrev code_of : Outcome → ℕ
code_of (accepted rows i) = 0
code_of (refused c i) = c

same_refusal : {l : List ℕ} {c c' p p' : ℕ} → c ≡ c' → p ≡ p' → Once l (refused c p) (refused c' p')
same_refusal {l} {c} {c'} {p} {p'} e f = subst₂ (λ (x y : ℕ). Once l (refused c p) (refused x y)) e f one_refusal

module _ {m : Mode} {l l' ps ps' : List ℕ} (a : SameElements m l l' ps ps') where
  also_here : {p p' p₁ p₂ : ℕ} → p ≡ p' → SamePlace ps ps' p p₁ → SamePlace ps ps' p' p₂ → p₁ ≡ p₂
  also_here e s s' = one_place a.in_one s s' e

  no_end : {p p₁ : ℕ} → p ≡ length l → SamePlace ps ps' p p₁ → ⊥
  no_end e s = omega (arith, (within_bytes a.in_one s).1)

  once : {z z' z₁ z₂ : Outcome} → z ≡ z' → AlikeRead l l' ps ps' z z₁ → AlikeRead l l' ps ps' z' z₂ → Once l' z₁ z₂
  once e (both_accepted {rows' = qs} {p' = p₁} x y s) (both_accepted {rows' = qs'} {p' = p₂} x' y' s') =
      let r = accepted_same e in
      subst (λ (n : ℕ). Once l' (accepted qs (p₁ + 3)) (accepted qs' (n + 3))) (one_last s s')
      (one_acceptance (sym x ∙ ap (meaning l) r ∙ x') (sym y ∙ ap (λ (t : List Row). length (table t)) r ∙ y'))
  once e (both_accepted x y s) (both_refused s') = absurd (accepted_refused e)
  once e (both_accepted x y s) both_at_the_end = absurd (accepted_refused e)
  once e (both_refused s) (both_accepted x y s') = absurd (accepted_refused (sym e))
  once e (both_refused s) (both_refused s') = same_refusal (ap code_of e) (also_here (ap place_of e) s s')
  once e (both_refused s) both_at_the_end = absurd (no_end (ap place_of e) s)
  once e both_at_the_end (both_accepted x y s') = absurd (accepted_refused (sym e))
  once e both_at_the_end (both_refused s') = absurd (no_end (sym (ap place_of e)) s')
  once e both_at_the_end both_at_the_end = same_refusal (ap code_of e) refl

  -- the one label's outcome leaves one for the other
  pub alike_once : {z z₁ z₂ : Outcome} → AlikeRead l l' ps ps' z z₁ → AlikeRead l l' ps ps' z z₂ → Once l' z₁ z₂
  alike_once x y = once refl x y

-- ---- calls

-- Two calls over one label: the same numbers; and if the code is 0, tables of equal meaning in the rooms.
pub data SaidOnce (l : List ℕ) : Said → List ℕ → Said → List ℕ → Type 0 where
  one_table : (rest rest' : List ℕ) {t t' : List ℕ} {rows rows' : List Row} {i n : ℕ} → Ruled l t (proper_rows rows) → Ruled l t' (proper_rows rows') → meaning l rows ≡ meaning l rows' →
      length t ≡ n → length t' ≡ n → SaidOnce l (says 0 i n) (t ++ rest) (says 0 i n) (t' ++ rest')
  no_table : {c i : ℕ} {room room' : List ℕ} → 0 < c → SaidOnce l (says c i 0) room (says c i 0) room'

said_refusal : {l : List ℕ} {c c' p p' : ℕ} {room room' : List ℕ} → 0 < c → c ≡ c' → p ≡ p' → SaidOnce l (says c p 0) room (says c' p' 0) room'
said_refusal {l} {c} {c'} {p} {p'} {room} {room'} h e f = subst₂ (λ (x y : ℕ). SaidOnce l (says c p 0) room (says x y 0) room') e f (no_table h)

-- the bytes at the front, as many
front_same : (t u rest rest' : List ℕ) → length t ≡ length u → t ++ rest ≡ u ++ rest' → t ≡ u
front_same t u rest rest' e f = sym (take-append_seam t rest) ∙ ap₂ take e f ∙ take-append_seam u rest'

module _ {m : Mode} {l l' ps ps' : List ℕ} (a : SameElements m l l' ps ps') (short : length l ≤ longest) where
  -- the table at the front of a room has one list of rows
  one_rows : (t u rest rest' : List ℕ) {rows rows' : List Row} → length t ≡ length u → t ++ rest ≡ u ++ rest' → Ruled l t (proper_rows rows) → Ruled l u (proper_rows rows') → rows ≡ rows'
  one_rows t u rest rest' {rows} e f v w =
      let same : t ≡ u = front_same t u rest rest' e f in
      same_rows (verdict_once l short u (subst (λ (s : List ℕ). Ruled l s (proper_rows rows)) same v) w)

  told : {s s' s₁ s₂ : Said} {after after' after₁ after₂ : List ℕ} → s ≡ s' → after ≡ after' → AlikeSaid l l' ps ps' s after s₁ after₁ → AlikeSaid l l' ps ps' s' after' s₂ after₂ →
      SaidOnce l' s₁ after₁ s₂ after₂
  told e f (both_stored rest rest₁ {t = t} {t' = t₁} {p' = p₁} v v₁ x n s) (both_stored rest' rest₂ {t = u} {t' = u₁} {p' = p₂} w w₁ y k s') =
      let h : length t ≡ length u = ap (λ (z : Said). z.size) e in
      let z : length u₁ ≡ length t₁ = sym k ∙ sym h ∙ n in
      subst₂ (λ (i j : ℕ). SaidOnce l' (says 0 (p₁ + 3) (length t₁)) (t₁ ++ rest₁) (says 0 (i + 3) j) (u₁ ++ rest₂)) (one_last s s') (sym z)
      (one_table rest₁ rest₂ v₁ w₁ (sym x ∙ ap (meaning l) (one_rows t u rest rest' h f v w) ∙ y) refl z)
  told e f (both_stored rest rest₁ v v₁ x n s) (both_not_read h s') = absurd (omega (arith, h, ap (λ (z : Said). z.code) e))
  told e f (both_stored rest rest₁ v v₁ x n s) (both_ended h) = absurd (omega (arith, h, ap (λ (z : Said). z.code) e))
  told e f (both_not_read h s) (both_stored rest rest₁ v v₁ x n s') = absurd (omega (arith, h, ap (λ (z : Said). z.code) e))
  told e f (both_not_read h s) (both_not_read h' s') = said_refusal h (ap (λ (z : Said). z.code) e) (also_here a (ap (λ (z : Said). z.place) e) s s')
  told e f (both_not_read h s) (both_ended h') = absurd (no_end a (ap (λ (z : Said). z.place) e) s)
  told e f (both_ended h) (both_stored rest rest₁ v v₁ x n s') = absurd (omega (arith, h, ap (λ (z : Said). z.code) e))
  told e f (both_ended h) (both_not_read h' s') = absurd (no_end a (sym (ap (λ (z : Said). z.place) e)) s')
  told e f (both_ended h) (both_ended h') = said_refusal h (ap (λ (z : Said). z.code) e) refl

  -- what the one call says and leaves in its room leaves one answer for the other
  pub said_once : {s s₁ s₂ : Said} {after after₁ after₂ : List ℕ} → AlikeSaid l l' ps ps' s after s₁ after₁ → AlikeSaid l l' ps ps' s after s₂ after₂ → SaidOnce l' s₁ after₁ s₂ after₂
  said_once x y = told refl refl x y
