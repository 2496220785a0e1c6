-- Which labels have a list of elements: every accepted one, and of the others all but those that have, up to their first END, a fault of code 2 or 3,
-- which is no element's.
use Prim.Native.Nat.{ℕ, zero, suc, ◌+◌, ◌≤◌, ◌<◌}
use native.Mathlib.Omega.{arith}
use mathlib.Core.Bool.{Bool, true, false, true≢false}
use mathlib.Core.Path.{◌≡◌, refl, sym, ap, ◌∙◌}
use mathlib.Core.List.{List, [], ◌∷◌, ◌++◌, append_assoc}
use lib.ListN.{length, length-append}
use Rattle.rules.specs.Bytes.{stops}
use Rattle.rules.specs.Data.{Span, Elem, end, Placed, ◌on◌, Row, Opens}
use Rattle.rules.specs.Modes.{Mode}
use Rattle.rules.specs.Grammar.{strict}
use Rattle.rules.specs.Elements.{sets_off, Gap, Cut, none_more, next, Spells, Breaks, open_at_end, open_at, foreign, Fault, no_element, no_form, past_limit, broken_text, broken_symbol, broken_comment, empty_symbol, long_symbol}
use Rattle.rules.specs.Reading.{accepted, Judged, follows}
use Rattle.rules.specs.SameElements.{OneElement, spelled, any_word, any_symbol, is_end_word, Through, first_end_word, Listed, to_the_end, through_end, and_then, FaultOutside, fault_here, fault_later, SameElements}
use Rattle.rules.proofs.Machine.Statements.{State, goes, step, is_end}
use Rattle.rules.proofs.Grammar.Run.{Reach, here, by_step}
use Rattle.rules.proofs.Grammar.Complete.{refuses_goes, complete}
use Rattle.rules.proofs.Reading.StepTwice.{leads}
use Rattle.rules.proofs.Elements.Pieces.{is_element, piece_complete}
use Rattle.rules.proofs.Reading.ElementTwice.{other_than_end, spells_end}
use Rattle.rules.proofs.Reading.Modes.{ends_offers}
use Rattle.rules.proofs.Machine.Elements.{NextIs, finds, faults, ends}
use Rattle.rules.proofs.Elements.Next.{spells_some, next_sound}

breaks_code : {p : ℕ → Bool} {r : List ℕ} {c : ℕ} → Breaks p r c → c ≤ 3
breaks_code open_at_end = omega arith
breaks_code (open_at h) = omega arith
breaks_code (foreign h) = omega arith

module _ (m : Mode) where
  -- two labels with equal lists that end alike have the same elements
  pub listed_same : {l l' ps ps' : List ℕ} {ws : List (List ℕ)} {t : Through} → Listed m 0 l ws ps t → Listed m 0 l' ws ps' t → SameElements m l l' ps ps'
  listed_same {ws = ws} {t = t} a b = record { elements = ws; through = t; in_one = a; in_other = b }

  -- a list of elements, or a fault outside the elements
  pub data Cover (i : ℕ) (l : List ℕ) : Type 0 where
    listed : {ws : List (List ℕ)} {ps : List ℕ} {t : Through} → Listed m i l ws ps t → Cover i l
    spoilt : FaultOutside m l → Cover i l

  -- a fault is an element's, or of code 2 or 3
  data Whose : List ℕ → Type 0 where
    an_element's : {w r : List ℕ} → OneElement m w r → 0 < length w → Whose (w ++ r)
    no_element's : {r : List ℕ} {c : ℕ} → Fault m r c → c ≤ 3 → Whose r

  whose : {r : List ℕ} {c : ℕ} → Fault m r c → Whose r
  whose (no_element f g h k) = no_element's (no_element f g h k) (omega arith)
  whose (no_form t f) = an_element's (any_word t) (omega arith)
  whose (past_limit t f) = an_element's (any_word t) (omega arith)
  whose (broken_text t h k) = no_element's (broken_text t h k) (breaks_code k)
  whose (broken_symbol t h k) = no_element's (broken_symbol t h k) (breaks_code k)
  whose (broken_comment t h k) = no_element's (broken_comment t h k) (breaks_code k)
  whose empty_symbol = an_element's (any_symbol {t = []} (stops refl)) (omega arith)
  whose (long_symbol {t} {r} u h) =
      let x : Whose ((39 ∷ (t ++ 39 ∷ [])) ++ r) = an_element's (any_symbol u) (omega arith) in
      simp append_assoc at x

  one_more : {i : ℕ} {g w r : List ℕ} → Gap m g (w ++ r) → OneElement m w r → Cover (i + length g + length w) r → Cover i (g ++ (w ++ r))
  one_more {i} {g} {w} {r} gap s k = go (is_end_word w) refl k
    where
      go : (t : Bool) → is_end_word w ≡ t → Cover (i + length g + length w) r → Cover i (g ++ (w ++ r))
      go true h k = listed (through_end gap s h refl)
      go false h (listed k) = listed (and_then gap s h k)
      go false h (spoilt k) = spoilt (fault_later gap s h k)

  covers : (k i : ℕ) (l : List ℕ) → length l < k → Cover i l
  covers zero i l h = absurd (omega arith)
  covers (suc k) i l h = go h (λ j r. covers k j r) (next_sound m l)
    where
      at_fault : {g r : List ℕ} → length (g ++ r) < suc k → ((j : ℕ) (r : List ℕ) → length r < k → Cover j r) → Gap m g r → Whose r → Cover i (g ++ r)
      at_fault {g} n ih gap (an_element's {w} {r} s p) = one_more gap s (ih _ r (omega (arith, length-append g (w ++ r), length-append w r)))
      at_fault n ih gap (no_element's f c) = spoilt (fault_here gap f c)

      go : {l : List ℕ} {f : _} → length l < suc k → ((j : ℕ) (r : List ℕ) → length r < k → Cover j r) → NextIs m l f → Cover i l
      go n ih (finds {g} {w} {r} gap s) = one_more gap (spelled s) (ih _ r (omega (arith, spells_some s, length-append g (w ++ r), length-append w r)))
      go n ih (faults gap f) = at_fault n ih gap (whose f)
      go n ih (ends gap) = listed (to_the_end gap)

  -- every label has the one or the other
  pub cover : (l : List ℕ) → Cover 0 l
  cover l = covers (suc (length l)) 0 l (omega arith)

  -- ---- accepted labels

  same_element : {w r : List ℕ} {e e' : Elem} {q q' : ℕ} → Spells m w e q r → Spells m w e' q' r → e ≡ e'
  same_element s s' = let h = sym (piece_complete m (is_element s)) ∙ piece_complete m (is_element s') in cc

  end_off : {w r : List ℕ} {e : Elem} {n : ℕ} (q : State) (o : Opens) (p : Span) {q' : State} {o' : Opens} {rs : List Row} → Spells m w e n r → is_end_word w ≡ true →
      step m strict q o (e on p) ≡ goes q' o' rs → sets_off m r ≡ true
  end_off {w} {r} {e} q o p s h k = go (sets_off m r) refl
    where
      go : (b : Bool) → sets_off m r ≡ b → sets_off m r ≡ true
      go true x = x
      go false x =
          let z : e ≡ end false = same_element s (spells_end (spelled s) h) ∙ ap end x in
          absurd (refuses_goes (sym (ends_offers m q o p).1 ∙ ap (λ (y : Elem). step m strict q o (y on p)) (sym z) ∙ k))

  -- the elements from an offset through an END that is set off
  abbrev Ends : ℕ → List ℕ → Type 0
  Ends i l = (ws : List (List ℕ)) × (ps : List ℕ) × Listed m i l ws ps (first_end_word true)

  through : {i : ℕ} {g w l : List ℕ} → Gap m g (w ++ l) → OneElement m w l → (is_end_word w ≡ true → sets_off m l ≡ true) → (is_end_word w ≡ false → Ends (i + length g + length w) l) → Ends i (g ++ (w ++ l))
  through {i} {g} {w} {l} gap s f k = go (is_end_word w) refl
    where
      go : (b : Bool) → is_end_word w ≡ b → Ends i (g ++ (w ++ l))
      go true h = (_, _, through_end gap s h (f h))
      go false h = let z = k h in (_, _, and_then gap s h z.2)

  cut_listed : {q q'' : State} {o o'' : Opens} {i j : ℕ} {l r : List ℕ} {es : List Placed} {rs : List Row} → Cut m i l es j r → Reach m strict q o es q'' o'' rs → is_end q ≡ false → is_end q'' ≡ true → Ends i l
  cut_listed none_more here x y = absurd (true≢false (sym y ∙ x))
  cut_listed {q} {o = o} (next {e = e} g w gap s c) (by_step {q' = q₁} h t) x y =
      through gap (spelled s) (λ k. end_off q o _ s k h) (λ k. cut_listed {q = q₁} c t (leads m q o e _ h ∙ other_than_end s k) y)

  -- every accepted label has a list of elements, through an END that is set off
  pub accepted_listed : {l : List ℕ} {rows : List Row} {i : ℕ} → Judged m l (accepted rows i) → (ws : List (List ℕ)) × (ps : List ℕ) × Listed m 0 l ws ps (first_end_word true)
  accepted_listed (follows c L) = cut_listed c (complete m strict L) refl refl
