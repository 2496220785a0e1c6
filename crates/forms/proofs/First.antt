-- What a word is by its first byte.
use Prim.Native.Nat.{ℕ, ◌≤◌}
use mathlib.Core.Bool.{Bool, true, false, not, false≢true}
use mathlib.Core.Path.{◌≡◌, refl, sym, ap, subst, ◌∙◌}
use mathlib.Core.List.{List, [], ◌∷◌}
use native.Mathlib.Nat.{zero-add}
use native.Mathlib.Omega.{arith}
use lib.Dec.{eqb}
use lib.ListN.{length, get_or, drop}
use Rattle.rules.specs.Bytes.{digit, front, letter}
use Rattle.rules.proofs.Machine.Patterns.{G, run}
use Rattle.rules.proofs.Machine.Words.{zero_or_more, g_after, g_word, more}
use Rattle.classes.specs.Places.{ByteAt}
use Rattle.std.specs.Prelude.{Some, None}
use Rattle.forms.specs.declared.Form.TheVariants.{Name}
use Rattle.forms.specs.Laid.{Answer, SignTo, no_form, name}
use Rattle.forms.specs.Forms.{FormAt, Signed}
use Rattle.rules.specs.Modes.{base}
use Rattle.rules.proofs.Words.Identifiers.{identifier_pass}
use Rattle.forms.proofs.Places.{sign_to, sign_within}
use Rattle.forms.proofs.Reading.{r_yes, r_no, r_signed}

front_first : (c : ℕ → Bool) (w : List ℕ) → c 0 ≡ false → front c w ≡ c (get_or w 0 0)
front_first c [] z = sym z
front_first c (b ∷ s) z = refl

module _ (w : List ℕ) (x : ℕ) (y : ByteAt w 0 x) (t : Bool) (k : t ≡ letter x) where
  lettered : (b : Bool) → t ≡ b → front letter w ≡ b
  lettered b h = front_first letter w refl ∙ ap letter (sym y.is) ∙ sym k ∙ h

  pub letter_there : t ≡ true → 1 ≤ length w
  letter_there h = go w (lettered true h)
    where
      go : (l : List ℕ) → front letter l ≡ true → 1 ≤ length l
      go [] e = absurd (false≢true e)
      go (b ∷ s) e = omega arith

  pub shape_name : (u : Bool) → t ≡ true → u ≡ more false (drop 1 w) → u ≡ true → FormAt (g_word base) w 0 (Some Name)
  shape_name u h e f = r_yes w 0 (Some Name) (lettered true h) (record { matched = rw (identifier_pass w, lettered true h, sym e ∙ f); laid = name })

  pub shape_unnamed : (u : Bool) → t ≡ true → u ≡ more false (drop 1 w) → u ≡ false → FormAt (g_word base) w 0 None
  shape_unnamed u h e f = r_yes w 0 None (lettered true h) (record { matched = rw (identifier_pass w, lettered true h, sym e ∙ f); laid = no_form })

  pub sign_there : (n : ℕ) → Signed x n → n ≤ length w
  sign_there n s = subst (λ (i : ℕ). i ≤ length w) (zero-add n) (sign_within w 0 x n (omega arith) y s)

  -- the digits begin behind the sign
  pub sign_laid : (n : ℕ) → Signed x n → SignTo w 0 (eqb x 45) n
  sign_laid n s = subst (SignTo w 0 (eqb x 45)) (zero-add n) (sign_to w 0 x n y s)

  pub shape_number : (n : ℕ) (r : Answer) → t ≡ false → Signed x n → FormAt (run digit zero_or_more (g_after base (not (eqb n 0)) (eqb x 45))) w n r → FormAt (g_word base) w 0 r
  shape_number n r h s g =
      let d : Bool → Bool → G = λ s neg. run digit zero_or_more (g_after base s neg) in
      r_no w 0 r (lettered false h) (r_signed d w 0 x r y s (subst (λ (i : ℕ). FormAt (d (not (eqb n 0)) (eqb x 45)) w i r) (sym (zero-add n)) g))
