-- A word at a place, in the rules' terms: the element that it is, past its limit, or of no form.
use Prim.Native.Nat.{ℕ, ◌≤◌, ◌<◌}
use mathlib.Core.Bool.{Bool, true, false, ◌&&◌, ◌||◌, true≢false}
use mathlib.Core.Path.{◌≡◌, refl, sym, ap, subst, ◌∙◌}
use mathlib.Core.List.{List, [], ◌∷◌, ◌++◌, map}
use native.Mathlib.Omega.{arith}
use lib.Dec.{eqb}
use lib.ListN.{length, get_or, drop, drop_of_length-le}
use Rattle.rules.specs.Bytes.{fold, Run, stops, goes_on}
use Rattle.rules.specs.Data.{Elem, name, end, ◌on◌}
use Rattle.rules.specs.Modes.{base}
use Rattle.rules.specs.Words.{Form, Past, Formless}
use Rattle.rules.proofs.Machine.Words.{Classified}
use Rattle.rules.specs.Elements.{is_blank, in_word, sets_off, Spells, word, Fault, no_form, past_limit}
use Rattle.classes.specs.Places.{part, EndsAt, as_span, name_at}
use Rattle.words.specs.Says.{Answer, verdict_of, Means}
use Rattle.words.specs.declared.Fixed.{Fixed}
use Rattle.words.specs.declared.Real.{Real}
use Rattle.words.specs.declared.Moment.{Moment}
use Rattle.std.specs.Prelude.{Ok, Err}
use Rattle.words.specs.declared.Value.TheVariants as values
use Rattle.words.specs.declared.Value.{Value}
use Rattle.words.specs.declared.Unfit.{Unfit}
use Rattle.words.specs.declared.Unfit.TheVariants as unfits
use Rattle.elements.specs.Faults.{code_of}
use Rattle.elements.specs.Places.{WordBegins}
use Rattle.elements.specs.Next.{placed_of, place_of, ElementAt, FaultAt}
use Rattle.elements.specs.declared.Element.{Element}
use Rattle.elements.specs.declared.Element.TheVariants.{Name, The, End, Integer, Based, Float, Time}
use Rattle.elements.specs.declared.Fault as code
use Rattle.elements.specs.declared.Fault.TheVariants.{NoForm, PastLimit}
use Rattle.classes.proofs.Runs.{unroll, joined}
use Rattle.classes.proofs.Parts.{part_length}
use Rattle.elements.proofs.Finding.{stand, fails}

some_word : {l a r : List ℕ} → a ++ r ≡ l → Run in_word a r → in_word l ≡ true → 0 < length a
some_word e (stops h) k = absurd (true≢false (sym k ∙ ap in_word (sym e) ∙ h))
some_word e (goes_on h t) k = omega arith

-- the word is not empty
long : (l : List ℕ) (at e : ℕ) → WordBegins l at → EndsAt in_word l at e → at < e
long l at e b r = omega (arith, some_word (joined l at e r.from) r.is b.is, part_length l at e r.within)

spelled : (w r : List ℕ) (x : Elem) → 0 < length w → Run in_word w r → Form base (sets_off base r) w x → Spells base w x 0 r
spelled [] r x h t f = absurd (omega arith)
spelled (b ∷ w) r x h t f = word t f

over : (w r : List ℕ) → 0 < length w → Run in_word w r → Past base (sets_off base r) w → Fault base (w ++ r) 5
over [] r h t f = absurd (omega arith)
over (b ∷ w) r h t f = past_limit t f

shapeless : (w r : List ℕ) → 0 < length w → Run in_word w r → Formless base w → Fault base (w ++ r) 4
shapeless [] r h t f = absurd (omega arith)
shapeless (b ∷ w) r h t f = no_form t f

-- ---- END set off

pub off_at_end : (l : List ℕ) (at : ℕ) → at ≡ length l → true ≡ sets_off base (drop at l)
off_at_end l at h = let k : length l ≤ at = omega arith in rw (drop_of_length-le l k)

no_semicolon : (a c : Bool) → a ≡ (a || (c && false))
no_semicolon true c = refl
no_semicolon false true = refl
no_semicolon false false = refl

pub off_by_blank : (l : List ℕ) (at : ℕ) (t : Bool) → at ≤ length l → (at ≡ length l → ⊥) → t ≡ is_blank (get_or l at 0) → t ≡ sets_off base (drop at l)
off_by_blank l at t w n h = let k : at < length l = omega arith in rw (unroll l at k) (h ∙ no_semicolon (is_blank (get_or l at 0)) (eqb (get_or l at 0) 59))

-- ---- each value

name_is : (l : List ℕ) (at e : ℕ) → name (name_at l at e) on as_span at e ≡ name (map fold (part l at e)) on as_span at e
unfolding name_at
name_is l at e = refl

module _ (l : List ℕ) (at e : ℕ) (b : WordBegins l at) (r : EndsAt in_word l at e) (v : Answer) (m : Means (part l at e) v) where
  is_element : (x : Elem) (d : Element) → Form base (sets_off base (drop e l)) (part l at e) x → placed_of l d ≡ x on as_span at e → place_of d ≡ at → ElementAt l at (d, e)
  is_element x d f p z =
      let less = long l at e b r in
      stand l at e 0 at e d x p (omega arith) (omega arith) z less r.within (spelled (part l at e) (drop e l) x (omega (arith, less, part_length l at e r.within)) r.is f)

  -- what the rules say of the word, whatever is said of it
  here : (u : Answer) → v ≡ u → Classified base (sets_off base (drop e l)) (part l at e) (verdict_of (part l at e) (sets_off base (drop e l)) u)
  here u q = subst (λ (x : Answer). Classified base (sets_off base (drop e l)) (part l at e) (verdict_of (part l at e) (sets_off base (drop e l)) x)) q (m.means (sets_off base (drop e l)))

  module _ (u : Value) (h : v ≡ Ok u) where
    pub word_name : u ≡ values.Name → ElementAt l at (Name at e, e)
    word_name q = is_element _ (Name at e) (here (Ok values.Name) (h ∙ ap Ok q)) (name_is l at e) refl

    pub word_end : (f : Bool) → u ≡ values.End → f ≡ sets_off base (drop e l) → ElementAt l at (End f at e, e)
    word_end f q g = is_element _ (End f at e) (here (Ok values.End) (h ∙ ap Ok q)) (ap (λ (y : Bool). end y on as_span at e) g) refl

    pub word_fixed : (k : Fixed) → u ≡ values.The k → ElementAt l at (The k at e, e)
    word_fixed k q = is_element _ (The k at e) (here (Ok (values.The k)) (h ∙ ap Ok q)) refl refl

    pub word_integer : (s : Bool) (n : ℕ) → u ≡ values.Integer s n → ElementAt l at (Integer s n at e, e)
    word_integer s n q = is_element _ (Integer s n at e) (here (Ok (values.Integer s n)) (h ∙ ap Ok q)) refl refl

    pub word_based : (s : Bool) (n : ℕ) → u ≡ values.Based s n → ElementAt l at (Based s n at e, e)
    word_based s n q = is_element _ (Based s n at e) (here (Ok (values.Based s n)) (h ∙ ap Ok q)) refl refl

    pub word_float : (x : Real) → u ≡ values.Float x → ElementAt l at (Float x at e, e)
    word_float x q = is_element _ (Float x at e) (here (Ok (values.Float x)) (h ∙ ap Ok q)) refl refl

    pub word_time : (t : Moment) → u ≡ values.Time t → ElementAt l at (Time t at e, e)
    word_time t q = is_element _ (Time t at e) (here (Ok (values.Time t)) (h ∙ ap Ok q)) refl refl

  fault_here : (f : code.Fault) → Fault base (part l at e ++ drop e l) (code_of f) → FaultAt l at (f, at)
  fault_here f h = fails l at f b.within (subst (λ (t : List ℕ). Fault base t (code_of f)) (joined l at e r.from) h)

  some_bytes : 0 < length (part l at e)
  some_bytes = omega (arith, long l at e b r, part_length l at e r.within)

  module _ (u : Unfit) (h : v ≡ Err u) where
    pub word_past : u ≡ unfits.PastLimit → FaultAt l at (PastLimit, at)
    word_past q = fault_here PastLimit (over (part l at e) (drop e l) some_bytes r.is (here (Err unfits.PastLimit) (h ∙ ap Err q)))

    pub word_formless : u ≡ unfits.NoForm → FaultAt l at (NoForm, at)
    word_formless q = fault_here NoForm (shapeless (part l at e) (drop e l) some_bytes r.is (here (Err unfits.NoForm) (h ∙ ap Err q)))
