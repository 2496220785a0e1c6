-- A label has one list of elements at most, and has it exactly when no fault stands outside its elements.
use Prim.Native.Nat.{ℕ, ◌+◌, ◌≤◌}
use native.Mathlib.Omega.{arith}
use mathlib.Core.Bool.{Bool, true, false, cond, true≢false}
use mathlib.Core.Logic.{◌↔◌}
use mathlib.Core.Option.{Option, none, some, some-injective, some-ne-none}
use mathlib.Core.Path.{◌≡◌, refl, sym, ap, ap₂, subst, ◌∙◌}
use mathlib.Core.List.{List, [], ◌∷◌, ◌++◌, append_assoc, append_cancel_left}
use lib.Dec.{eqb}
use lib.ListN.{length}
use Rattle.rules.specs.Bytes.{front, Run}
use Rattle.rules.specs.Modes.{Mode}
use Rattle.rules.specs.Data.{Elem}
use Rattle.rules.specs.Elements.{sets_off, in_text, in_symbol, in_word, Gap, Spells, word, sign, one_star, two_stars, one_slash, quoted_text, quoted_symbol, Fault}
use Rattle.rules.specs.SameElements.{OneElement, spelled, any_word, any_symbol, is_end_word, Through, first_end_word, Listed, to_the_end, through_end, and_then, FaultOutside, fault_here, fault_later}
use Rattle.rules.proofs.Machine.Splits.{Split, split_run, behind_first}
use Rattle.rules.proofs.Words.Runs.{run_split}
use Rattle.rules.proofs.Machine.Elements.{Begin, a_word, a_blank, a_star, a_slash, a_quote, an_apostrophe, no_start, a_sign, begin, Ahead, comes, faulty, none_left, next_element, finds, faults, ends}
use Rattle.rules.proofs.Elements.Begin.{sign_begins}
use Rattle.rules.proofs.Elements.Pieces.{begin_word}
use Rattle.rules.proofs.Elements.Next.{next_complete}
use Rattle.rules.proofs.Reading.ElementTwice as Twice
use Rattle.rules.proofs.Reading.Listing.{Cover, listed, spoilt, cover}

-- ---- the element at the front of the bytes, and what is behind it, as a function

abbrev closed : ℕ → Split → Split
closed b s = (b ∷ (s.0 ++ b ∷ []), behind_first s.1)

abbrev front_of : Begin → ℕ → List ℕ → Split
front_of a_word b l = split_run in_word (b ∷ l)
front_of a_blank b l = ([], b ∷ l)
front_of a_star b l = cond (front (λ c. eqb c 42) l) (42 ∷ 42 ∷ [], behind_first l) (42 ∷ [], l)
front_of a_slash b l = (47 ∷ [], l)
front_of a_quote b l = closed 34 (split_run in_text l)
front_of an_apostrophe b l = closed 39 (split_run in_symbol l)
front_of no_start b l = ([], b ∷ l)
front_of (a_sign f) b l = (b ∷ [], l)

abbrev front_split : Mode → List ℕ → Split
front_split m [] = ([], [])
front_split m (b ∷ l) = front_of (begin m b) b l

-- the gap before what is found
abbrev gap_of : Ahead → Option (List ℕ)
gap_of (comes e q g w r) = some g
gap_of (faulty c g) = some g
gap_of none_left = none

-- a fault, if it is one, has no code of 2 or 3
abbrev Sound : Ahead → Type 0
Sound (comes e q g w r) = Unit {0}
Sound (faulty c g) = 4 ≤ c
Sound none_left = Unit {0}

-- a list of elements, their places, and how it ends
abbrev pub HasList : Mode → List ℕ → Type 0
HasList m l = (ws : List (List ℕ)) × (ps : List ℕ) × (t : Through) × Listed m 0 l ws ps t

module _ (m : Mode) where
  word_front : {b : ℕ} {w r : List ℕ} → Run in_word (b ∷ w) r → front_split m ((b ∷ w) ++ r) ≡ (b ∷ w, r)
  word_front {b} {w} {r} t = ap (λ (x : Begin). front_of x b (w ++ r)) (begin_word m t) ∙ run_split t

  symbol_front : {t r : List ℕ} → Run in_symbol t (39 ∷ r) → front_split m ((39 ∷ (t ++ 39 ∷ [])) ++ r) ≡ (39 ∷ (t ++ 39 ∷ []), r)
  symbol_front h = simp append_assoc (ap (closed 39) (run_split h))

  spelled_front : {w r : List ℕ} {e : Elem} {q : ℕ} → Spells m w e q r → front_split m (w ++ r) ≡ (w, r)
  spelled_front (word t f) = word_front t
  spelled_front (sign {b} {r = r} h) = ap (λ (x : Begin). front_of x b r) (sign_begins m b h)
  spelled_front (one_star h) = rw h
  spelled_front two_stars = refl
  spelled_front (one_slash h) = refl
  spelled_front (quoted_text h) = simp append_assoc (ap (closed 34) (run_split h))
  spelled_front (quoted_symbol h k) = symbol_front h

  front_is : {w r : List ℕ} → OneElement m w r → front_split m (w ++ r) ≡ (w, r)
  front_is (spelled s) = spelled_front s
  front_is (any_word t) = word_front t
  front_is (any_symbol h) = symbol_front h

  -- what is found where an element stands
  record There (l g : List ℕ) : Type 0 where
    what : Ahead
    is : next_element m l ≡ what
    gap : gap_of what ≡ some g
    sound : Sound what

  there : {g w r : List ℕ} → Gap m g (w ++ r) → OneElement m w r → There (g ++ (w ++ r)) g
  there {g} {w} {r} x s = go (is_end_word w) refl
    where
      either : Twice.Both m w r r → There (g ++ (w ++ r)) g
      either (Twice.both_spelled y z) = record { what = _; is = next_complete m (finds x y); gap = refl; sound = tt }
      either (Twice.both_faulty y z n) = record { what = _; is = next_complete m (faults x y); gap = refl; sound = n }

      go : (b : Bool) → is_end_word w ≡ b → There (g ++ (w ++ r)) g
      go true h = let y = Twice.spells_end s h in either (Twice.both_spelled y y)
      go false h = either (Twice.both s s h)

  -- what is found at the input's end
  at_end : {g : List ℕ} → Gap m g [] → next_element m g ≡ none_left
  at_end g = next_complete m (ends g)

  -- an element and a gap before it are one thing
  once : {g g' w w' r r' : List ℕ} → Gap m g (w ++ r) → OneElement m w r → Gap m g' (w' ++ r') → OneElement m w' r' → g ++ (w ++ r) ≡ g' ++ (w' ++ r') → (g ≡ g') × (w ≡ w') × (r ≡ r')
  once {g} {g'} {w} {w'} {r} {r'} x s x' s' e =
      let a = there x s in
      let b = there x' s' in
      let h : g ≡ g' = some-injective g g' (sym a.gap ∙ ap gap_of (sym a.is ∙ ap (next_element m) e ∙ b.is) ∙ b.gap) in
      let k : w ++ r ≡ w' ++ r' = append_cancel_left g' (w ++ r) (w' ++ r') (ap (λ (t : List ℕ). t ++ (w ++ r)) (sym h) ∙ e) in
      let f = sym (front_is s) ∙ ap (front_split m) k ∙ front_is s' in
      (h, ap (λ (t : Split). t.0) f, ap (λ (t : Split). t.1) f)

  -- at the input's end there is none
  none_there : {g g' w r : List ℕ} → Gap m g [] → Gap m g' (w ++ r) → OneElement m w r → g ≡ g' ++ (w ++ r) → ⊥
  none_there x x' s e =
      let b = there x' s in
      some-ne-none _ (sym (ap gap_of (sym (at_end x) ∙ ap (next_element m) e ∙ b.is) ∙ b.gap))

  -- the elements of a label, their places, and how they end
  same_list : {i i' : ℕ} {l l' ps ps' : List ℕ} {ws ws' : List (List ℕ)} {t t' : Through} → Listed m i l ws ps t → Listed m i' l' ws' ps' t' → i ≡ i' → l ≡ l' → (ws ≡ ws') × (ps ≡ ps') × (t ≡ t')
  same_list (to_the_end x) (to_the_end x') h e = (refl, refl, refl)
  same_list (to_the_end x) (through_end x' s' k' o') h e = absurd (none_there x x' s' e)
  same_list (to_the_end x) (and_then x' s' k' a') h e = absurd (none_there x x' s' e)
  same_list (through_end x s k o) (to_the_end x') h e = absurd (none_there x' x s (sym e))
  same_list (and_then x s k a) (to_the_end x') h e = absurd (none_there x' x s (sym e))
  same_list (through_end x s k o) (and_then x' s' k' a') h e = absurd (true≢false (sym k ∙ ap is_end_word (once x s x' s' e).1 ∙ k'))
  same_list (and_then x s k a) (through_end x' s' k' o') h e = absurd (true≢false (sym k' ∙ ap is_end_word (sym (once x s x' s' e).1) ∙ k))
  same_list (through_end x s k o) (through_end x' s' k' o') h e =
      let z = once x s x' s' e in (
        ap (λ (w : List ℕ). w ∷ []) z.1,
        ap₂ (λ (i : ℕ) (g : List ℕ). (i + length g) ∷ []) h z.0,
        ap first_end_word (sym o ∙ ap (sets_off m) z.2 ∙ o'),
      )
  same_list (and_then x s k a) (and_then x' s' k' a') h e =
      let z = once x s x' s' e in
      let j = ap₂ (λ (i : ℕ) (g : List ℕ). i + length g) h z.0 in
      let y = same_list a a' (ap₂ (λ (n : ℕ) (w : List ℕ). n + length w) j z.1) z.2 in
      (ap₂ (λ (w : List ℕ) (ws : List (List ℕ)). w ∷ ws) z.1 y.0, ap₂ (λ (p : ℕ) (ps : List ℕ). p ∷ ps) j y.1, y.2)

  -- a label has one list of elements at most
  pub listed_once : {i : ℕ} {l ps ps' : List ℕ} {ws ws' : List (List ℕ)} {t t' : Through} → Listed m i l ws ps t → Listed m i l ws' ps' t' → (ws ≡ ws') × (ps ≡ ps') × (t ≡ t')
  listed_once a b = same_list a b refl refl

  -- no fault of code 2 or 3 stands where an element stands
  no_fault : {g g' w r r' : List ℕ} {c : ℕ} → Gap m g (w ++ r) → OneElement m w r → Gap m g' r' → Fault m r' c → c ≤ 3 → g ++ (w ++ r) ≡ g' ++ r' → ⊥
  no_fault x s y f n e =
      let a = there x s in
      let k = subst Sound (sym a.is ∙ ap (next_element m) e ∙ next_complete m (faults y f)) a.sound in
      omega (arith, k)

  no_fault_outside : {i : ℕ} {l l' ps : List ℕ} {ws : List (List ℕ)} {t : Through} → Listed m i l ws ps t → FaultOutside m l' → l ≡ l' → ⊥
  no_fault_outside (to_the_end x) (fault_here y f n) e = some-ne-none _ (sym (ap gap_of (sym (at_end x) ∙ ap (next_element m) e ∙ next_complete m (faults y f))))
  no_fault_outside (to_the_end x) (fault_later y s h b) e = none_there x y s e
  no_fault_outside (through_end x s k o) (fault_here y f n) e = no_fault x s y f n e
  no_fault_outside (through_end x s k o) (fault_later y s' h b) e = true≢false (sym k ∙ ap is_end_word (once x s y s' e).1 ∙ h)
  no_fault_outside (and_then x s k a) (fault_here y f n) e = no_fault x s y f n e
  no_fault_outside (and_then x s k a) (fault_later y s' h b) e = no_fault_outside a b (once x s y s' e).2

  -- a label whose elements are set out has no fault outside them
  pub listed_no_fault : {i : ℕ} {l ps : List ℕ} {ws : List (List ℕ)} {t : Through} → Listed m i l ws ps t → FaultOutside m l → ⊥
  listed_no_fault a b = no_fault_outside a b refl

  -- a label has a list of elements exactly when no fault stands outside them, up to its first END
  pub listed_exactly : (l : List ℕ) → HasList m l ↔ (FaultOutside m l → ⊥)
  listed_exactly l = (λ h. listed_no_fault h.3, λ h. go h (cover m l))
    where
      go : (FaultOutside m l → ⊥) → Cover m 0 l → HasList m l
      go h (listed x) = (_, _, _, x)
      go h (spoilt x) = absurd (h x)
