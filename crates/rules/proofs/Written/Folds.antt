-- Upper case: twice is once, and it changes no test that names and symbols are judged by.
use Prim.Native.Nat.{ℕ, ◌-◌, ◌≤◌}
use mathlib.Core.Path.{◌≡◌, refl, sym, ap₂, ◌∙◌}
use mathlib.Core.Bool.{Bool, true, false, cond, ◌&&◌}
use mathlib.Core.List.{List, [], ◌∷◌}
use native.Mathlib.Omega.{arith}
use borrow.Author.Tests.{ne_eqb}
use lib.Dec.{eqb}
use lib.ListN.{drop, length-map}
use Rattle.rules.specs.Bytes.{lower, letter, alnum, fold, front}
use Rattle.rules.specs.Values.{each}
use Rattle.rules.specs.Written.{is_name}
use Rattle.rules.specs.Meaning.{fold_all}
use Rattle.rules.proofs.Machine.Words.{more}
use Rattle.rules.specs.Words.{is_identifier}
use Rattle.rules.proofs.Words.Identifiers.{identifier_pass}
use Rattle.rules.proofs.Machine.Checks.{symbol_byte, is_symbol}
use Rattle.rules.proofs.Tables.Tests.{and_true, not_as, between_in, between_out, between_below, between_above}

-- what a lower case byte and its upper case are
record Lowered (b : ℕ) : Type 0 where
  least : 97 ≤ b
  most : b ≤ 122

lowered : (b : ℕ) → lower b ≡ true → Lowered b
lowered b h = record { least = (between_out 97 122 b h).0; most = (between_out 97 122 b h).1 }

-- a function of bytes that is the same at b and b - 32 for lower case bytes does not see case
unseen : {A : Type 0} (f : ℕ → A) → ((b : ℕ) → Lowered b → f (b - 32) ≡ f b) → (b : ℕ) → f (fold b) ≡ f b
unseen f h b = go (lower b) refl
  where
    go : (t : Bool) → lower b ≡ t → f (cond t (b - 32) b) ≡ f b
    go true e = h b (lowered b e)
    go false e = refl

upper_no : (b : ℕ) → Lowered b → lower (b - 32) ≡ false
upper_no b l = between_below 97 122 (b - 32) (omega (arith, l.least, l.most))

pub fold_again : (b : ℕ) → fold (fold b) ≡ fold b
fold_again b = go (lower b) refl
  where
    go : (t : Bool) → lower b ≡ t → cond (lower (cond t (b - 32) b)) (cond t (b - 32) b - 32) (cond t (b - 32) b) ≡ cond t (b - 32) b
    go true e = rw (upper_no b (lowered b e))
    go false e = rw e

pub fold_all_again : (w : List ℕ) → fold_all (fold_all w) ≡ fold_all w
fold_all_again [] = refl
fold_all_again (b ∷ w) = ap₂ (λ (x : ℕ) (y : List ℕ). x ∷ y) (fold_again b) (fold_all_again w)

letter_low : (b : ℕ) → Lowered b → letter b ≡ true
letter_low b l = rw (between_in 97 122 b l.least l.most, between_above 65 90 b (omega (arith, l.least)))

letter_up : (b : ℕ) → Lowered b → letter (b - 32) ≡ true
letter_up b l = rw (between_in 65 90 (b - 32) (omega (arith, l.least)) (omega (arith, l.most)))

letter_fold : (b : ℕ) → letter (fold b) ≡ letter b
letter_fold b = unseen letter (λ b l. letter_up b l ∙ sym (letter_low b l)) b

alnum_fold : (b : ℕ) → alnum (fold b) ≡ alnum b
alnum_fold b = unseen alnum (λ b l. rw (letter_up b l, letter_low b l)) b

under_fold : (b : ℕ) → eqb (fold b) 95 ≡ eqb b 95
under_fold b = unseen (λ b. eqb b 95) (λ b l. ne_eqb (b - 32) 95 (λ e. omega (arith, l.least, l.most)) ∙ sym (ne_eqb b 95 (λ e. omega (arith, l.least, l.most)))) b

symbol_fold : (b : ℕ) → symbol_byte (fold b) ≡ symbol_byte b
symbol_fold b =
    unseen symbol_byte (λ b l. and_true (between_in 32 126 (b - 32) (omega (arith, l.least)) (omega (arith, l.most))) (not_as _ (ne_eqb (b - 32) 39 (λ e. omega (arith, l.least, l.most))))
    ∙ sym (and_true (between_in 32 126 b (omega (arith, l.least)) (omega (arith, l.most))) (not_as _ (ne_eqb b 39 (λ e. omega (arith, l.least, l.most)))))) b

more_fold : (u : Bool) (s : List ℕ) → more u (fold_all s) ≡ more u s
more_fold u [] = refl
more_fold u (b ∷ s) = rw (alnum_fold, under_fold, more_fold false s, more_fold true s)

pub identifier_fold : (w : List ℕ) → is_identifier (fold_all w) ≡ is_identifier w
identifier_fold w = identifier_pass (fold_all w) ∙ go w ∙ sym (identifier_pass w)
  where
    go : (w : List ℕ) → (front letter (fold_all w) && more false (drop 1 (fold_all w))) ≡ (front letter w && more false (drop 1 w))
    go [] = refl
    go (b ∷ s) = rw (letter_fold, more_fold false s)

pub name_fold : (w : List ℕ) → is_name (fold_all w) ≡ is_name w
unfolding is_name
name_fold w = rw (identifier_fold w, fold_all_again w, length-map w fold)

all_fold : (p : ℕ → Bool) → ((b : ℕ) → p (fold b) ≡ p b) → (s : List ℕ) → each p (fold_all s) ≡ each p s
all_fold p h [] = refl
all_fold p h (b ∷ s) = rw (h b, all_fold p h s)

pub is_symbol_fold : (w : List ℕ) → is_symbol (fold_all w) ≡ is_symbol w
unfolding is_symbol
is_symbol_fold w = rw (all_fold symbol_byte symbol_fold w, length-map w fold)
