-- Digits with bounds on how many they are, as the code finds them.
use Prim.Native.Nat.{ℕ, ◌-◌}
use mathlib.Core.Bool.{Bool, true, false}
use mathlib.Core.Path.{◌≡◌, sym, subst, ◌∙◌}
use mathlib.Core.List.{List}
use Rattle.std.specs.Prelude.{Option, Some, None}
use Rattle.rules.specs.Bytes.{digit, between}
use Rattle.rules.proofs.Machine.Patterns.{G, run}
use Rattle.forms.specs.declared.Span.{Span}
use Rattle.forms.specs.Laid.{Answer, piece, Between, as_many, not_as_many, DigitsTo, DigitsAt, digits_at}
use Rattle.forms.specs.Forms.{FormAt, on}
use Rattle.forms.proofs.Reading.{r_run, r_short}

-- the test of the code
module _ (a e most : ℕ) (t : Bool) (h : t ≡ between 1 most (e - a)) where
  pub many : t ≡ true → Between a e most (Some (piece a e))
  many q = as_many (sym h ∙ q)

  pub too_many : t ≡ false → Between a e most None
  too_many q = not_as_many (sym h ∙ q)

module _ (a e most : ℕ) (o : Option Span) (b : Between a e most o) where
  pub not_many : o ≡ None → between 1 most (e - a) ≡ false
  not_many q = go (subst (Between a e most) q b)
    where
      go : Between a e most None → between 1 most (e - a) ≡ false
      go (not_as_many h) = h

  pub with_many : (s : Span) → o ≡ Some s → (P : Span → Type 0) → (between 1 most (e - a) ≡ true → P (piece a e)) → P s
  with_many s q P k = go (subst (Between a e most) q b) P k
    where
      go : {s : Span} → Between a e most (Some s) → (P : Span → Type 0) → (between 1 most (e - a) ≡ true → P (piece a e)) → P s
      go (as_many h) P k = k h

module _ (w : List ℕ) (at most : ℕ) (o : Option Span) (d : DigitsAt w at most o) where
  pub with_digits : (s : Span) → o ≡ Some s → (P : Span → Type 0) → ((e : ℕ) → DigitsTo w at e → between 1 most (e - at) ≡ true → P (piece at e)) → P s
  with_digits s q P k = go d q
    where
      go : {o : Option Span} → DigitsAt w at most o → o ≡ Some s → P s
      go (digits_at {e} t b) q = with_many at e most _ b s q P (k e t)

  pub few : {k : List ℕ → G} (r : Answer) → o ≡ None → r ≡ None → FormAt (run digit (between 1 most) k) w at r
  few {k} r q z = rw z (go d q)
    where
      go : {o : Option Span} → DigitsAt w at most o → o ≡ None → FormAt (run digit (between 1 most) k) w at None
      go (digits_at {e} t b) q = r_short w at e t (not_many at e most _ b q)

  pub some_digits : {k : List ℕ → G} (s : Span) (r : Answer) → o ≡ Some s → FormAt (k (on w s)) w s.upto r → FormAt (run digit (between 1 most) k) w at r
  some_digits {k} s r q g = with_digits s q (λ s. FormAt (k (on w s)) w s.upto r → FormAt (run digit (between 1 most) k) w at r) (λ e t m g. r_run w at e r t m g) g
