-- The one pass over the bytes of an identifier is equal to the rules' test.
use Prim.Native.Nat.{ℕ}
use mathlib.Core.Bool.{Bool, true, false, not, ◌&&◌, true≢false, and-false}
use mathlib.Core.Path.{◌≡◌, refl, sym, ap, ◌∙◌}
use mathlib.Core.List.{List, [], ◌∷◌}
use borrow.Author.Tests.{eqb-true}
use lib.Dec.{eqb}
use lib.ListN.{drop}
use Rattle.rules.specs.Bytes.{ascii, letter, alnum, front, pair, anywhere}
use Rattle.rules.specs.Values.{same, each}
use Rattle.rules.specs.Words.{name_byte, is_identifier}
use Rattle.rules.proofs.Machine.Words.{next_more, more}

-- ---- the rules' test, but for the first letter

abbrev clean : List ℕ → Bool
clean w = each name_byte w && (not (anywhere (pair 95 95) w) && not (anywhere (λ s. same s (ascii "_")) w))

no_under : (b : ℕ) → alnum b ≡ true → eqb b 95 ≡ false
no_under b h = go (eqb b 95) refl
  where
    go : (t : Bool) → eqb b 95 ≡ t → t ≡ false
    go true e = absurd (true≢false (sym h ∙ ap alnum (eqb-true b 95 e)))
    go false e = refl

clean_plain : (b : ℕ) (s : List ℕ) → alnum b ≡ true → clean (b ∷ s) ≡ clean s
clean_plain b s h = rw (no_under b h, h)

clean_under : (b : ℕ) (s : List ℕ) → alnum b ≡ true → clean (95 ∷ b ∷ s) ≡ clean s
clean_under b s h = rw (no_under b h, h)

clean_other : (b : ℕ) (s : List ℕ) → alnum b ≡ false → eqb b 95 ≡ false → clean (b ∷ s) ≡ false
clean_other b s h e = rw (h, e)

clean_under_other : (b : ℕ) (s : List ℕ) → alnum b ≡ false → eqb b 95 ≡ false → clean (95 ∷ b ∷ s) ≡ false
clean_under_other b s h e = rw (h, e)

-- behind an underscore, or not
abbrev behind : Bool → List ℕ → List ℕ
behind false s = s
behind true s = 95 ∷ s

clean_more : (u : Bool) (s : List ℕ) → clean (behind u s) ≡ more u s
clean_more false [] = refl
clean_more true [] = refl
clean_more u (b ∷ s) = go (λ v. clean_more v s) u (alnum b) refl (eqb b 95) refl
  where
    go : ((v : Bool) → clean (behind v s) ≡ more v s) → (u x : Bool) → alnum b ≡ x → (y : Bool) → eqb b 95 ≡ y →
        clean (behind u (b ∷ s)) ≡ next_more x y u (more false s) (more true s)
    go ih false true e y f = clean_plain b s e ∙ ih false
    go ih true true e y f = clean_under b s e ∙ ih false
    go ih false false e true f = ap (λ (c : ℕ). clean (c ∷ s)) (eqb-true b 95 f) ∙ ih true
    go ih true false e true f = ap (λ (c : ℕ). clean (95 ∷ c ∷ s)) (eqb-true b 95 f) ∙ and-false (each name_byte s)
    go ih false false e false f = clean_other b s e f
    go ih true false e false f = clean_under_other b s e f

-- ---- the test is the pass

letter_clean : (b : ℕ) (s : List ℕ) → letter b ≡ true → clean (b ∷ s) ≡ more false s
letter_clean b s h = clean_plain b s (rw h) ∙ clean_more false s

pub identifier_pass : (w : List ℕ) → is_identifier w ≡ (front letter w && more false (drop 1 w))
identifier_pass [] = refl
identifier_pass (b ∷ s) = go (letter b) refl
  where
    go : (t : Bool) → letter b ≡ t → (t && clean (b ∷ s)) ≡ (t && more false s)
    go true h = letter_clean b s h
    go false h = refl
