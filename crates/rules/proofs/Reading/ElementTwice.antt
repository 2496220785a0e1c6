-- One and the same element, as bytes, in two labels: both spell it alike, or both have the same fault there.
use Prim.Native.Nat.{ℕ, ◌-◌, ◌≤◌}
use native.Mathlib.Omega.{arith}
use mathlib.Core.Bool.{Bool, true, false, cond, false≢true}
use mathlib.Core.Option.{some, some-ne-none}
use mathlib.Core.Path.{◌≡◌, refl, sym, subst, ◌∙◌}
use mathlib.Core.List.{List, [], ◌∷◌, ◌++◌, map, append_assoc}
use borrow.Author.Tests.{eqb-true}
use lib.Dec.{leb, eqb}
use lib.ListN.{length}
use Rattle.rules.specs.Bytes.{between, lower, letter, fold, word_byte, front, Run, goes_on}
use Rattle.rules.specs.Data.{Fixed, Elem, name, the, end, integer, based, real, moment, range, text, symbol}
use Rattle.rules.specs.Modes.{Mode}
use Rattle.rules.specs.Values.{Written, an_identifier, named, value}
use Rattle.rules.specs.Words.{in_radix, pointed, bare, upper_t, lower_t, from_to, Shape, identifier_word, integer_word, based_word, real_word, date_word, time_word, date_time_word, range_word, Form, is_identifier}
use Rattle.rules.specs.Elements.{sign_of, in_symbol, in_word, sets_off, Spells, word, sign, one_star, two_stars, one_slash, quoted_text, quoted_symbol, Fault, no_form, past_limit, empty_symbol, long_symbol}
use Rattle.rules.specs.SameElements.{OneElement, spelled, any_word, any_symbol, is_end_word}
use Rattle.rules.proofs.Words.Identifiers.{identifier_pass}
use Rattle.rules.proofs.Words.Runs.{run_all, run_stops, all_run}
use Rattle.rules.proofs.Machine.Elements.{Begin, a_word, a_blank, a_star, a_slash, a_quote, an_apostrophe, no_start, a_sign, begin}
use Rattle.rules.proofs.Elements.Begin.{sign_begins}
use Rattle.rules.proofs.Elements.Pieces.{sized_kept, classified}
use Rattle.rules.proofs.Machine.Words.{WordVerdict, is, over, formless, classify, Classified}
use Rattle.rules.proofs.Tables.Tests.{and_left, and_right, or_second}
use Rattle.rules.proofs.Reading.StepTwice.{ending}
use Rattle.rules.proofs.Reading.EndWord.{end_form_word}

-- ---- a word that is not END is the same, set off or not

value_any : {m : Mode} {w : List ℕ} {v : Written} → Shape m w v → is_end_word w ≡ false → (off off' : Bool) → value m off v ≡ value m off' v
value_any (identifier_word i) h off off' = rw h
value_any (integer_word i) h off off' = refl
value_any (based_word (in_radix u s a l)) h off off' = refl
value_any (real_word (pointed s a b l x)) h off off' = refl
value_any (real_word (bare s u x)) h off off' = refl
value_any (date_word k) h off off' = refl
value_any (time_word k) h off off' = refl
value_any (date_time_word (upper_t j k)) h off off' = refl
value_any (date_time_word (lower_t j k)) h off off' = refl
value_any (range_word p (from_to s u i)) h off off' = refl

-- ---- an element in two labels

not_end : {m : Mode} {off : Bool} {w : List ℕ} (e : Elem) → Form m off w e → is_end_word w ≡ false → ending e ≡ false
not_end (name n) f h = refl
not_end (the k) f h = refl
not_end (end b) f h = sym (end_form_word f) ∙ h
not_end (integer n) f h = refl
not_end (based n) f h = refl
not_end (real x) f h = refl
not_end (moment x) f h = refl
not_end (range lo hi) f h = refl
not_end text f h = refl
not_end symbol f h = refl

-- a word other than END is another element than END
pub other_than_end : {m : Mode} {w r : List ℕ} {e : Elem} {q : ℕ} → Spells m w e q r → is_end_word w ≡ false → ending e ≡ false
other_than_end (word {e = e} t f) h = not_end e f h
other_than_end (sign k) h = refl
other_than_end (one_star k) h = refl
other_than_end two_stars h = refl
other_than_end (one_slash k) h = refl
other_than_end (quoted_text t) h = refl
other_than_end (quoted_symbol t k) h = refl

-- what the bytes `w` are before the one rest and before the other
pub data Both (m : Mode) (w r r' : List ℕ) : Type 0 where
  both_spelled : {e : Elem} {q : ℕ} → Spells m w e q r → Spells m w e q r' → Both m w r r'
  both_faulty : {c : ℕ} → Fault m (w ++ r) c → Fault m (w ++ r') c → 4 ≤ c → Both m w r r'

abbrev IsSign : Begin → Type 0
IsSign a_word = ⊥
IsSign a_blank = ⊥
IsSign a_star = ⊥
IsSign a_slash = ⊥
IsSign a_quote = ⊥
IsSign an_apostrophe = ⊥
IsSign no_start = ⊥
IsSign (a_sign f) = Unit {0}

word_no_sign : (m : Mode) (b : ℕ) {f : Fixed} → word_byte b ≡ true → sign_of m b ≡ some f → ⊥
word_no_sign m b h k = let z : begin m b ≡ a_word = rw h in subst IsSign (sym (sign_begins m b k) ∙ z) tt

-- a word begins with a byte of words
begins_word : {b : ℕ} {w r : List ℕ} → Run in_word (b ∷ w) r → word_byte b ≡ true
begins_word (goes_on h t) = h

module _ {m : Mode} where
  -- what follows a word is no byte of one
  spelled_word_ends : {b : ℕ} {w r : List ℕ} {e : Elem} {q : ℕ} → Spells m (b ∷ w) e q r → word_byte b ≡ true → in_word r ≡ false
  spelled_word_ends (word t f) h = run_stops t
  spelled_word_ends (sign {b} k) h = absurd (word_no_sign m b h k)
  spelled_word_ends (one_star k) h = absurd (false≢true h)
  spelled_word_ends two_stars h = absurd (false≢true h)
  spelled_word_ends (one_slash k) h = absurd (false≢true h)
  spelled_word_ends (quoted_text t) h = absurd (false≢true h)
  spelled_word_ends (quoted_symbol t k) h = absurd (false≢true h)

  word_ends : {b : ℕ} {w r : List ℕ} → OneElement m (b ∷ w) r → word_byte b ≡ true → in_word r ≡ false
  word_ends (spelled s) h = spelled_word_ends s h
  word_ends (any_word t) h = run_stops t
  word_ends (any_symbol t) h = absurd (false≢true h)

  -- what follows a lone * or / is no *
  star_ends : {r : List ℕ} → OneElement m (42 ∷ []) r → front (λ b. eqb b 42) r ≡ false
  star_ends (spelled (word (goes_on h t) f)) = absurd (false≢true h)
  star_ends (spelled (sign k)) = absurd (some-ne-none _ (sym k))
  star_ends (spelled (one_star k)) = k
  star_ends (any_word (goes_on h t)) = absurd (false≢true h)

  slash_ends : {r : List ℕ} → OneElement m (47 ∷ []) r → front (λ b. eqb b 42) r ≡ false
  slash_ends (spelled (word (goes_on h t) f)) = absurd (false≢true h)
  slash_ends (spelled (sign k)) = absurd (some-ne-none _ (sym k))
  slash_ends (spelled (one_slash k)) = k
  slash_ends (any_word (goes_on h t)) = absurd (false≢true h)

  classed_both : {b : ℕ} {w r r' : List ℕ} → Run in_word (b ∷ w) r → Run in_word (b ∷ w) r' → is_end_word (b ∷ w) ≡ false → (v : WordVerdict) → Classified m (sets_off m r) (b ∷ w) v → Both m (b ∷ w) r r'
  classed_both {r = r} {r' = r'} t t' h (is e) f = both_spelled (word t f) (word t' (f.0, f.1, value_any f.1 h (sets_off m r') (sets_off m r) ∙ f.2))
  classed_both {r = r} {r' = r'} t t' h over f = both_faulty (past_limit t f) (past_limit t' (f.0, f.1, value_any f.1 h (sets_off m r') (sets_off m r) ∙ f.2)) (omega arith)
  classed_both t t' h formless f = both_faulty (no_form t f) (no_form t' f) (omega arith)

  word_both : {b : ℕ} {w r r' : List ℕ} → Run in_word (b ∷ w) r → OneElement m (b ∷ w) r' → is_end_word (b ∷ w) ≡ false → Both m (b ∷ w) r r'
  word_both {b} {w} {r} t x h = classed_both t (all_run (run_all t) (word_ends x (begins_word t))) h (classify m (sets_off m r) (b ∷ w)) (classified m (sets_off m r) (b ∷ w))

  symbol_both : (t : List ℕ) {r r' : List ℕ} → Run in_symbol t (39 ∷ r) → Run in_symbol t (39 ∷ r') → Both m (39 ∷ (t ++ 39 ∷ [])) r r'
  symbol_both [] u u' = both_faulty empty_symbol empty_symbol (omega arith)
  symbol_both (b ∷ t) {r} {r'} u u' = go (leb (length (b ∷ t)) 255) refl
    where
      long : (s : List ℕ) → Run in_symbol (b ∷ t) (39 ∷ s) → leb (length (b ∷ t)) 255 ≡ false → Fault m ((39 ∷ ((b ∷ t) ++ 39 ∷ [])) ++ s) 5
      long s v h = simp append_assoc (long_symbol v h)

      go : (k : Bool) → leb (length (b ∷ t)) 255 ≡ k → Both m (39 ∷ ((b ∷ t) ++ 39 ∷ [])) r r'
      go true h = both_spelled (quoted_symbol u (sized_kept (length t) h)) (quoted_symbol u' (sized_kept (length t) h))
      go false h = both_faulty (long r u h) (long r' u' h) (omega arith)

  spelled_both : {w r r' : List ℕ} {e : Elem} {q : ℕ} → Spells m w e q r → OneElement m w r' → is_end_word w ≡ false → Both m w r r'
  spelled_both (word t f) x h = word_both t x h
  spelled_both (sign k) x h = both_spelled (sign k) (sign k)
  spelled_both (one_star k) x h = both_spelled (one_star k) (one_star (star_ends x))
  spelled_both two_stars x h = both_spelled two_stars two_stars
  spelled_both (one_slash k) x h = both_spelled (one_slash k) (one_slash (slash_ends x))
  spelled_both (quoted_text t) x h = both_spelled (quoted_text t) (quoted_text (all_run (run_all t) refl))
  spelled_both (quoted_symbol {t} u k) x h = symbol_both t u (all_run (run_all u) refl)

  -- an element other than END
  pub both : {w r r' : List ℕ} → OneElement m w r → OneElement m w r' → is_end_word w ≡ false → Both m w r r'
  both (spelled s) x h = spelled_both s x h
  both (any_word t) x h = word_both t x h
  both (any_symbol {t} u) x h = symbol_both t u (all_run (run_all u) refl)

-- ---- END

folds_letter : (b k : ℕ) → eqb (fold b) k ≡ true → letter k ≡ true → letter b ≡ true
folds_letter b k h l = go (lower b) refl (eqb-true (fold b) k h)
  where
    go : (t : Bool) → lower b ≡ t → cond t (b - 32) b ≡ k → letter b ≡ true
    go true e f = or_second (between 65 90 b) (lower b) e
    go false e f = subst (λ (n : ℕ). letter n ≡ true) (sym f) l

-- the letters of END are an identifier
is_identifier_lem : (w : List ℕ) → is_end_word w ≡ true → is_identifier w ≡ true
is_identifier_lem [] h = absurd (false≢true h)
is_identifier_lem (a ∷ []) h = absurd (false≢true (and_right (eqb (fold a) 69) false h))
is_identifier_lem (a ∷ b ∷ []) h = absurd (false≢true (and_right (eqb (fold b) 78) false (and_right (eqb (fold a) 69) _ h)))
is_identifier_lem (a ∷ b ∷ c ∷ []) h =
    let k = and_right (eqb (fold a) 69) _ h in
    let i = and_right (eqb (fold b) 78) _ k in
    let x = folds_letter a 69 (and_left (eqb (fold a) 69) _ h) refl in
    let y = folds_letter b 78 (and_left (eqb (fold b) 78) _ k) refl in
    let z = folds_letter c 68 (and_left (eqb (fold c) 68) _ i) refl in
    identifier_pass (a ∷ b ∷ c ∷ []) ∙ rw (x, y, z) refl
is_identifier_lem (a ∷ b ∷ c ∷ d ∷ w) h =
    absurd (false≢true (and_right (eqb (fold c) 68) false (and_right (eqb (fold b) 78) _ (and_right (eqb (fold a) 69) _ h))))

end_named : (pvl off : Bool) (w : List ℕ) → is_end_word w ≡ true → named pvl off (map fold w) ≡ some (end off)
end_named pvl off w h = rw h

end_word : {m : Mode} {b : ℕ} {w r : List ℕ} → Run in_word (b ∷ w) r → is_end_word (b ∷ w) ≡ true → Spells m (b ∷ w) (end (sets_off m r)) 0 r
end_word {m} {b} {w} {r} t h =
    word t (an_identifier (map fold (b ∷ w)), identifier_word (is_identifier_lem (b ∷ w) h), end_named m.pvl (sets_off m r) (b ∷ w) h)

-- the word END is the element END, and whether it is set off
pub spells_end : {m : Mode} {w r : List ℕ} → OneElement m w r → is_end_word w ≡ true → Spells m w (end (sets_off m r)) 0 r
spells_end (any_word t) h = end_word t h
spells_end (any_symbol t) h = absurd (false≢true h)
spells_end (spelled (word t f)) h = end_word t h
spells_end (spelled (sign {b} k)) h = absurd (false≢true (and_right (eqb (fold b) 69) false h))
spells_end (spelled (one_star k)) h = absurd (false≢true h)
spells_end (spelled two_stars) h = absurd (false≢true h)
spells_end (spelled (one_slash k)) h = absurd (false≢true h)
spells_end (spelled (quoted_text t)) h = absurd (false≢true h)
spells_end (spelled (quoted_symbol t k)) h = absurd (false≢true h)
