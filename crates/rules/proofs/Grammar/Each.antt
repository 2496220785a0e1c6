-- What holds of every answer of an offer, element by element: one lemma for each kind of offer.
use mathlib.Core.Path.{◌≡◌, refl, subst}
use mathlib.Core.Bool.{Bool, true, false}
use mathlib.Core.List.{List, [], ◌∷◌}
use Rattle.rules.specs.Data.{Span, Whole, Real, Moment, Name, Fixed, Fixed-discrete, name, the, end, integer, based, real, moment, range, text, symbol, Placed, ◌on◌, an_integer, a_real, a_moment, a_text, a_symbol, Opens}
use Rattle.rules.proofs.Machine.Statements.{Place, at_number, Next, never, go, Entry, ◌⇒◌, Offer, chosen, find, dispatch, only, a_name, a_whole, a_statement, also, after, a_scalar, when}

pub chosen_case : {P A : Type 0} (d : Dec P) (a b : A) (G : A → Type 0) → (P → G a) → G b → G (chosen d a b)
chosen_case (yes h) a b G f g = f h
chosen_case (no h) a b G f g = g

module _ (G : Placed → Next → Type 0) (no : (x : Placed) → G x (never)) where
  abbrev pub Entries : List Entry → Type 0
  Entries [] = Unit {0}
  Entries (k ⇒ n ∷ l) = ((p : Span) → G (the k on p) n) × Entries l

  -- an entry that the mode may lack
  pub entries_when : (b : Bool) (k : Fixed) (n : Next) (l : List Entry) → (b ≡ true → (p : Span) → G (the k on p) n) → Entries l → Entries (when b (k ⇒ n) l)
  entries_when true k n l h t = (h refl, t)
  entries_when false k n l h t = t

  abbrev pub EachAnswer : Offer → Type 0
  EachAnswer f = (x : Placed) → G x (dispatch f x)

  find_entry : (j k : Fixed) (p : Span) (n n' : Next) → ((p : Span) → G (the j on p) n) → G (the k on p) n' → G (the k on p) (chosen (Fixed-discrete j k) n n')
  find_entry j k p n n' f g = chosen_case (Fixed-discrete j k) n n' (G (the k on p)) (λ e. subst (λ (i : Fixed). G (the i on p) n) e (f p)) g

  find_each : (l : List Entry) → Entries l → (k : Fixed) (p : Span) → G (the k on p) (find l k)
  find_each [] h k p = no (the k on p)
  find_each (j ⇒ n ∷ l) h k p = find_entry j k p n (find l k) h.0 (find_each l h.1 k p)

  pub each_only : (l : List Entry) → Entries l → EachAnswer (only l)
  each_only l h (name n on p) = no (name n on p)
  each_only l h (the k on p) = find_each l h k p
  each_only l h (end b on p) = no (end b on p)
  each_only l h (integer w on p) = no (integer w on p)
  each_only l h (based w on p) = no (based w on p)
  each_only l h (real x on p) = no (real x on p)
  each_only l h (moment t on p) = no (moment t on p)
  each_only l h (range lo hi on p) = no (range lo hi on p)
  each_only l h (text on p) = no (text on p)
  each_only l h (symbol on p) = no (symbol on p)

  pub each_name : (f : Name → Span → Next) → ((n : Name) (p : Span) → G (name n on p) (f n p)) → EachAnswer (a_name f)
  each_name f h (name n on p) = h n p
  each_name f h (the k on p) = no (the k on p)
  each_name f h (end b on p) = no (end b on p)
  each_name f h (integer w on p) = no (integer w on p)
  each_name f h (based w on p) = no (based w on p)
  each_name f h (real x on p) = no (real x on p)
  each_name f h (moment t on p) = no (moment t on p)
  each_name f h (range lo hi on p) = no (range lo hi on p)
  each_name f h (text on p) = no (text on p)
  each_name f h (symbol on p) = no (symbol on p)

  pub each_whole : (f : Whole → Span → Next) → ((w : Whole) (p : Span) → G (integer w on p) (f w p)) → EachAnswer (a_whole f)
  each_whole f h (name n on p) = no (name n on p)
  each_whole f h (the k on p) = no (the k on p)
  each_whole f h (end b on p) = no (end b on p)
  each_whole f h (integer w on p) = h w p
  each_whole f h (based w on p) = no (based w on p)
  each_whole f h (real x on p) = no (real x on p)
  each_whole f h (moment t on p) = no (moment t on p)
  each_whole f h (range lo hi on p) = no (range lo hi on p)
  each_whole f h (text on p) = no (text on p)
  each_whole f h (symbol on p) = no (symbol on p)

  pub each_statement : (f : Name → Span → Next) (g : Bool → Span → Next) (l : List Entry) →
      ((n : Name) (p : Span) → G (name n on p) (f n p)) → ((b : Bool) (p : Span) → G (end b on p) (g b p)) → Entries l → EachAnswer (a_statement f g l)
  each_statement f g l hf hg hl (name n on p) = hf n p
  each_statement f g l hf hg hl (the k on p) = find_each l hl k p
  each_statement f g l hf hg hl (end b on p) = hg b p
  each_statement f g l hf hg hl (integer w on p) = no (integer w on p)
  each_statement f g l hf hg hl (based w on p) = no (based w on p)
  each_statement f g l hf hg hl (real x on p) = no (real x on p)
  each_statement f g l hf hg hl (moment t on p) = no (moment t on p)
  each_statement f g l hf hg hl (range lo hi on p) = no (range lo hi on p)
  each_statement f g l hf hg hl (text on p) = no (text on p)
  each_statement f g l hf hg hl (symbol on p) = no (symbol on p)

  pub each_also : (j : Fixed) (n : Next) (f : Offer) → ((p : Span) → G (the j on p) n) → EachAnswer f → EachAnswer (also (j ⇒ n) f)
  each_also j n' f h g (name n on p) = g (name n on p)
  each_also j n' f h g (the k on p) = find_entry j k p n' (find f.fixed k) h (g (the k on p))
  each_also j n' f h g (end b on p) = g (end b on p)
  each_also j n' f h g (integer w on p) = g (integer w on p)
  each_also j n' f h g (based w on p) = g (based w on p)
  each_also j n' f h g (real x on p) = g (real x on p)
  each_also j n' f h g (moment t on p) = g (moment t on p)
  each_also j n' f h g (range lo hi on p) = g (range lo hi on p)
  each_also j n' f h g (text on p) = g (text on p)
  each_also j n' f h g (symbol on p) = g (symbol on p)

  -- a scalar: the element alone, or a number that units may follow
  pub each_scalar : (c : Place) (o : Opens) (f : Whole → Whole → Next) (l : List Entry) →
      ((n : Name) (p : Span) → G (name n on p) (go (after c) o (a_symbol p ∷ []))) → ((w : Whole) (p : Span) → G (integer w on p) (go (at_number c) o (an_integer w ∷ []))) →
      ((w : Whole) (p : Span) → G (based w on p) (go (at_number c) o (an_integer w ∷ []))) → ((x : Real) (p : Span) → G (real x on p) (go (at_number c) o (a_real x ∷ []))) →
      ((t : Moment) (p : Span) → G (moment t on p) (go (after c) o (a_moment t ∷ []))) →
      ((lo hi : Whole) (p : Span) → G (range lo hi on p) (f lo hi)) → ((p : Span) → G (text on p) (go (after c) o (a_text p ∷ []))) →
      ((p : Span) → G (symbol on p) (go (after c) o (a_symbol p ∷ []))) → Entries l → EachAnswer (a_scalar c o f l)
  each_scalar c o f l hn hw hb hr hm hg ht hs hl (name n on p) = hn n p
  each_scalar c o f l hn hw hb hr hm hg ht hs hl (the k on p) = find_each l hl k p
  each_scalar c o f l hn hw hb hr hm hg ht hs hl (end b on p) = no (end b on p)
  each_scalar c o f l hn hw hb hr hm hg ht hs hl (integer w on p) = hw w p
  each_scalar c o f l hn hw hb hr hm hg ht hs hl (based w on p) = hb w p
  each_scalar c o f l hn hw hb hr hm hg ht hs hl (real x on p) = hr x p
  each_scalar c o f l hn hw hb hr hm hg ht hs hl (moment t on p) = hm t p
  each_scalar c o f l hn hw hb hr hm hg ht hs hl (range lo hi on p) = hg lo hi p
  each_scalar c o f l hn hw hb hr hm hg ht hs hl (text on p) = ht p
  each_scalar c o f l hn hw hb hr hm hg ht hs hl (symbol on p) = hs p
