-- What an offer has for an element of the code, by the element's number.
use Prim.Native.Nat.{ℕ}
use native.Mathlib.Omega.{arith}
use mathlib.Core.Path.{◌≡◌, refl, sym, ap, ◌∙◌}
use mathlib.Core.Bool.{Bool, true, false, true≢false, cond}
use mathlib.Core.List.{List, [], ◌∷◌}
use lib.Dec.{eqb, ltb}
use borrow.Author.Tests.{eqb-true, eq-eqb, ne_eqb, ltb-true}
use Rattle.rules.specs.Data as rule
use Rattle.rules.specs.Data.{Fixed-discrete}
use Rattle.rules.proofs.Machine.Statements.{Entry, ◌⇒◌, Next, never, Offer, find, chosen, dispatch, also, only, a_name, a_whole}
use Rattle.words.specs.Says.{fixed_of}
use Rattle.steps.specs.Signs.{code_of, word_code, sign_of}
use Rattle.elements.specs.Next.{placed_of}
use Rattle.elements.specs.declared.Element.{Element}
use Rattle.elements.specs.declared.Element.TheVariants.{Name, The, End, Integer, Based, Float, Time, Text, Symbol}
use Rattle.words.specs.declared.Fixed as code
use Rattle.words.specs.declared.Fixed.TheVariants as signs

-- the entry of a number
abbrev pub look : List Entry → ℕ → Next
look [] c = never
look (j ⇒ n ∷ l) c = cond (eqb (code_of j) c) n (look l c)

-- ---- different elements have different numbers

abbrev decode : ℕ → rule.Fixed
decode c =
    cond (eqb c 1) rule.OBJECT (cond (eqb c 2) rule.END_OBJECT (cond (eqb c 3) rule.GROUP (cond (eqb c 4) rule.END_GROUP (cond (eqb c 5) rule.BEGIN_OBJECT (cond (eqb c 6) rule.BEGIN_GROUP
    (cond (eqb c 61) rule.equals (cond (eqb c 44) rule.comma (cond (eqb c 42) rule.star (cond (eqb c 47) rule.slash (cond (eqb c 94) rule.caret (cond (eqb c 60) rule.less (cond (eqb c 62) rule.greater
    (cond (eqb c 40) rule.lpar (cond (eqb c 41) rule.rpar (cond (eqb c 123) rule.lbrace (cond (eqb c 125) rule.rbrace (cond (eqb c 33) rule.power rule.semicolon)))))))))))))))))

decoded : (k : rule.Fixed) → decode (code_of k) ≡ k
decoded rule.OBJECT = refl
decoded rule.END_OBJECT = refl
decoded rule.GROUP = refl
decoded rule.END_GROUP = refl
decoded rule.BEGIN_OBJECT = refl
decoded rule.BEGIN_GROUP = refl
decoded rule.equals = refl
decoded rule.comma = refl
decoded rule.star = refl
decoded rule.slash = refl
decoded rule.caret = refl
decoded rule.less = refl
decoded rule.greater = refl
decoded rule.lpar = refl
decoded rule.rpar = refl
decoded rule.lbrace = refl
decoded rule.rbrace = refl
decoded rule.power = refl
decoded rule.semicolon = refl

apart : (j k : rule.Fixed) → (j ≡ k → ⊥) → code_of j ≡ code_of k → ⊥
apart j k h q = h (sym (decoded j) ∙ ap decode q ∙ decoded k)

-- ---- an entry, found or passed over

entry_of : (j k : rule.Fixed) (n m : Next) (d : Dec (j ≡ k)) → chosen d n m ≡ cond (eqb (code_of j) (code_of k)) n m
entry_of j k n m (yes p) = rw (eq-eqb (code_of j) (code_of k) (ap code_of p))
entry_of j k n m (no h) = rw (ne_eqb (code_of j) (code_of k) (apart j k h))

finds : (l : List Entry) (k : rule.Fixed) → find l k ≡ look l (code_of k)
finds [] k = refl
finds (j ⇒ n ∷ l) k = entry_of j k n (find l k) (Fixed-discrete j k) ∙ ap (λ (m : Next). cond (eqb (code_of j) (code_of k)) n m) (finds l k)

none : (n : ℕ) → 0 ≡ n → ltb 0 n ≡ true → ⊥
none n e h = omega (arith, ltb-true 0 n h)

-- an element of the number n has the offer's entry of that number
pub hit : (f : Offer) (label : List ℕ) (e : Element) (n : ℕ) → sign_of e ≡ n → ltb 0 n ≡ true → dispatch f (placed_of label e) ≡ look f.fixed n
unfolding sign_of
hit f label (The k a b) n q h = finds f.fixed (fixed_of k) ∙ ap (look f.fixed) q
hit f label (Name a b) n q h = absurd (none n q h)
hit f label (End v a b) n q h = absurd (none n q h)
hit f label (Integer m v a b) n q h = absurd (none n q h)
hit f label (Based m v a b) n q h = absurd (none n q h)
hit f label (Float x a b) n q h = absurd (none n q h)
hit f label (Time x a b) n q h = absurd (none n q h)
hit f label (Text a b) n q h = absurd (none n q h)
hit f label (Symbol a b) n q h = absurd (none n q h)

-- an element of another number passes an entry over
pub pass : (f : Offer) (label : List ℕ) (e : Element) (j : rule.Fixed) (n : Next) →
    (sign_of e ≡ code_of j → ⊥) → dispatch (also (j ⇒ n) f) (placed_of label e) ≡ dispatch f (placed_of label e)
unfolding sign_of
pass f label (The k a b) j n h =
    entry_of j (fixed_of k) n (find f.fixed (fixed_of k)) (Fixed-discrete j (fixed_of k))
    ∙ rw (ne_eqb (code_of j) (code_of (fixed_of k)) (λ q. h (sym q)))
pass f label (Name a b) j n h = refl
pass f label (End v a b) j n h = refl
pass f label (Integer m v a b) j n h = refl
pass f label (Based m v a b) j n h = refl
pass f label (Float x a b) j n h = refl
pass f label (Time x a b) j n h = refl
pass f label (Text a b) j n h = refl
pass f label (Symbol a b) j n h = refl

-- where nothing is listed, nothing is taken
pub none_taken : (label : List ℕ) (e : Element) → dispatch (only []) (placed_of label e) ≡ never
none_taken label (The k a b) = refl
none_taken label (Name a b) = refl
none_taken label (End v a b) = refl
none_taken label (Integer m v a b) = refl
none_taken label (Based m v a b) = refl
none_taken label (Float x a b) = refl
none_taken label (Time x a b) = refl
none_taken label (Text a b) = refl
none_taken label (Symbol a b) = refl

-- ---- what an element is not

abbrev pub NoName : Element → Type 0
NoName e = (a b : ℕ) → e ≡ Name a b → ⊥

abbrev pub NoWord : Element → Type 0
NoWord e = (k : code.Fixed) (a b : ℕ) → e ≡ The k a b → ⊥

abbrev pub NoEnd : Element → Type 0
NoEnd e = (v : Bool) (a b : ℕ) → e ≡ End v a b → ⊥

abbrev pub NoWhole : Element → Type 0
NoWhole e = (m : Bool) (v a b : ℕ) → e ≡ Integer m v a b → ⊥

-- ---- words and signs of the code, told apart

abbrev sign_at : ℕ → code.Fixed
sign_at c =
    cond (eqb c 1) signs.Object (cond (eqb c 2) signs.EndObject (cond (eqb c 3) signs.Group (cond (eqb c 4) signs.EndGroup (cond (eqb c 5) signs.BeginObject
    (cond (eqb c 61) signs.Equals (cond (eqb c 44) signs.Comma (cond (eqb c 42) signs.Star (cond (eqb c 47) signs.Slash (cond (eqb c 94) signs.Caret (cond (eqb c 60) signs.Less (cond (eqb c 62) signs.Greater
    (cond (eqb c 40) signs.OpenParen (cond (eqb c 41) signs.CloseParen (cond (eqb c 123) signs.OpenBrace (cond (eqb c 125) signs.CloseBrace signs.Power)))))))))))))))

sign_again : (k : code.Fixed) → sign_at (word_code k) ≡ k
sign_again signs.Object = refl
sign_again signs.EndObject = refl
sign_again signs.Group = refl
sign_again signs.EndGroup = refl
sign_again signs.BeginObject = refl
sign_again signs.Equals = refl
sign_again signs.Comma = refl
sign_again signs.Star = refl
sign_again signs.Slash = refl
sign_again signs.Caret = refl
sign_again signs.Less = refl
sign_again signs.Greater = refl
sign_again signs.OpenParen = refl
sign_again signs.CloseParen = refl
sign_again signs.OpenBrace = refl
sign_again signs.CloseBrace = refl
sign_again signs.Power = refl

sign_once : {j k : code.Fixed} → word_code j ≡ word_code k → j ≡ k
sign_once {j} {k} h = sym (sign_again j) ∙ ap sign_at h ∙ sign_again k

-- the test of a word or sign is the test of the numbers
pub told : (j k : code.Fixed) (f : Bool) → (f ≡ true → j ≡ k) → (f ≡ false → j ≡ k → ⊥) → f ≡ eqb (word_code j) (word_code k)
told j k true h i = sym (eq-eqb (word_code j) (word_code k) (ap word_code (h refl)))
told j k false h i = sym (ne_eqb (word_code j) (word_code k) (λ q. i refl (sign_once q)))

pub signed : {e : Element} {k : code.Fixed} {a b : ℕ} → e ≡ The k a b → sign_of e ≡ word_code k
unfolding sign_of
signed q = ap sign_of q

no_number : (k : code.Fixed) → false ≡ eqb 0 (word_code k)
no_number signs.Object = refl
no_number signs.EndObject = refl
no_number signs.Group = refl
no_number signs.EndGroup = refl
no_number signs.BeginObject = refl
no_number signs.Equals = refl
no_number signs.Comma = refl
no_number signs.Star = refl
no_number signs.Slash = refl
no_number signs.Caret = refl
no_number signs.Less = refl
no_number signs.Greater = refl
no_number signs.OpenParen = refl
no_number signs.CloseParen = refl
no_number signs.OpenBrace = refl
no_number signs.CloseBrace = refl
no_number signs.Power = refl

-- an element of another sort is none of them
pub no_sign : (e : Element) (k : code.Fixed) → NoWord e → false ≡ eqb (sign_of e) (word_code k)
unfolding sign_of
no_sign (The j a b) k h = absurd (h j a b refl)
no_sign (Name a b) k h = no_number k
no_sign (End v a b) k h = no_number k
no_sign (Integer m v a b) k h = no_number k
no_sign (Based m v a b) k h = no_number k
no_sign (Float x a b) k h = no_number k
no_sign (Time x a b) k h = no_number k
no_sign (Text a b) k h = no_number k
no_sign (Symbol a b) k h = no_number k

-- the element has another number
pub record Isnt (e : Element) (n : ℕ) : Type 0 where
  pub isnt : sign_of e ≡ n → ⊥

pub is_not : {e : Element} {f : Bool} {n : ℕ} → f ≡ eqb (sign_of e) n → f ≡ false → Isnt e n
is_not {e} {n = n} h k = record { isnt = λ q. true≢false (sym (eq-eqb (sign_of e) n q) ∙ sym h ∙ k) }

pub is_it : (e : Element) {f : Bool} {n : ℕ} → f ≡ eqb (sign_of e) n → f ≡ true → sign_of e ≡ n
is_it e {n = n} h k = eqb-true (sign_of e) n (sym h ∙ k)

-- ---- several entries passed over

abbrev pub keys : List Entry → List ℕ
keys [] = []
keys (j ⇒ n ∷ l) = code_of j ∷ keys l

abbrev pub Avoids : Element → List ℕ → Type 0
Avoids e [] = Unit {0}
Avoids e (n ∷ ns) = Isnt e n × Avoids e ns

pub pass_all : (l : List Entry) (label : List ℕ) (e : Element) → Avoids e (keys l) → dispatch (only l) (placed_of label e) ≡ never
pass_all [] label e h = none_taken label e
pass_all (j ⇒ n ∷ l) label e h = pass (only l) label e j n h.0.isnt ∙ pass_all l label e h.1

-- ---- offers of one sort of element

pub not_name : (f : rule.Name → rule.Span → Next) (label : List ℕ) (e : Element) → NoName e → dispatch (a_name f) (placed_of label e) ≡ never
not_name f label (Name a b) h = absurd (h a b refl)
not_name f label (The k a b) h = refl
not_name f label (End v a b) h = refl
not_name f label (Integer m v a b) h = refl
not_name f label (Based m v a b) h = refl
not_name f label (Float x a b) h = refl
not_name f label (Time x a b) h = refl
not_name f label (Text a b) h = refl
not_name f label (Symbol a b) h = refl

pub not_whole : (f : rule.Whole → rule.Span → Next) (label : List ℕ) (e : Element) → NoWhole e → dispatch (a_whole f) (placed_of label e) ≡ never
not_whole f label (Integer m v a b) h = absurd (h m v a b refl)
not_whole f label (Name a b) h = refl
not_whole f label (The k a b) h = refl
not_whole f label (End v a b) h = refl
not_whole f label (Based m v a b) h = refl
not_whole f label (Float x a b) h = refl
not_whole f label (Time x a b) h = refl
not_whole f label (Text a b) h = refl
not_whole f label (Symbol a b) h = refl
