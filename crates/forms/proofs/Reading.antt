-- The pattern of words at a place of a word: one or two laws for each of its constructs.
use Prim.Native.Nat.{ℕ, ◌+◌, ◌-◌, ◌≤◌, ◌<◌}
use mathlib.Core.Bool.{Bool, true, false, not, cond, ◌||◌, ◌&&◌, false≢true, true≢false}
use mathlib.Core.Option.{none, some, Option}
use mathlib.Core.Path.{◌≡◌, refl, sym, ap, subst, ◌∙◌}
use mathlib.Core.List.{List, [], ◌∷◌}
use native.Mathlib.Nat.{add-zero}
use native.Mathlib.Omega.{arith}
use borrow.Author.Tests.{eq-eqb, ne_eqb, leb-true}
use lib.Dec.{eqb, leb}
use lib.ListN.{length, get_or, drop, drop_of_length-le}
use Rattle.rules.specs.Bytes.{between, front}
use Rattle.rules.specs.Values.{Written}
use Rattle.rules.proofs.Machine.Splits.{Split, split_run, is_nil}
use Rattle.rules.proofs.Words.Runs.{run_split}
use Rattle.rules.proofs.Machine.Patterns.{G, stop, byte, check, run, fork, matches, provided}
use Rattle.rules.proofs.Machine.Words.{next_is, g_signs}
use Rattle.classes.specs.Places.{part, EndsAt, ByteAt}
use Rattle.std.specs.Prelude.{None}
use Rattle.forms.specs.Laid.{Answer, Laid, no_form}
use Rattle.forms.specs.Forms.{written, FormAt, Signed, minus, plus, unsigned}
use Rattle.classes.proofs.Runs.{unroll, joined, front_byte}
use Rattle.classes.proofs.Parts.{part_length}

at_end : (w : List ℕ) (at : ℕ) → at ≡ length w → drop at w ≡ []
at_end w at h = let k : length w ≤ at = omega arith in drop_of_length-le w k

pub r_stop : {v : Written} (w : List ℕ) (at : ℕ) (r : Answer) → at ≡ length w → some v ≡ written w r → Laid w r → FormAt (stop v) w at r
r_stop {v} w at r h e l = record { matched = ap (matches (stop v)) (at_end w at h) ∙ e; laid = l }

pub r_trailing : {v : Written} (w : List ℕ) (at : ℕ) → at < length w → FormAt (stop v) w at None
r_trailing {v} w at h = record { matched = ap (matches (stop v)) (unroll w at h); laid = no_form }

pub r_byte : {g : G} (w : List ℕ) (at b : ℕ) (r : Answer) → at < length w → get_or w at 0 ≡ b → FormAt g w (at + 1) r → FormAt (byte b g) w at r
r_byte {g} w at b r h e s = record { matched = ap (matches (byte b g)) (unroll w at h) ∙ rw (eq-eqb (get_or w at 0) b e) s.matched; laid = s.laid }

-- a byte other than the one asked, or none
pub r_other : {g : G} (w : List ℕ) (at b : ℕ) → eqb 0 b ≡ false → (get_or w at 0 ≡ b → ⊥) → FormAt (byte b g) w at None
r_other {g} w at b z n = record { matched = go (drop at w) (front_byte w at b z ∙ ne_eqb (get_or w at 0) b n); laid = no_form }
  where
    go : (s : List ℕ) → front (λ x. eqb x b) s ≡ false → matches (byte b g) s ≡ none
    go [] h = refl
    go (a ∷ s) h = rw h

pub r_check : {g : G} {b : Bool} (w : List ℕ) (at : ℕ) (r : Answer) → b ≡ true → FormAt g w at r → FormAt (check b g) w at r
r_check w at r h s = record { matched = rw h s.matched; laid = s.laid }

pub r_fails : {g : G} {b : Bool} (w : List ℕ) (at : ℕ) → b ≡ false → FormAt (check b g) w at None
r_fails w at h = record { matched = rw h; laid = no_form }

spanned : (c n : ℕ → Bool) (k : List ℕ → G) (w : List ℕ) (at e : ℕ) → EndsAt (front c) w at e →
    matches (run c n k) (drop at w) ≡ provided (n (length (part w at e))) (matches (k (part w at e)) (drop e w))
spanned c n k w at e r =
    ap (λ (s : Split). provided (n (length s.0)) (matches (k s.0) s.1)) (ap (split_run (front c)) (sym (joined w at e r.from)) ∙ run_split r.is)

pub r_run : {c n : ℕ → Bool} {k : List ℕ → G} (w : List ℕ) (at e : ℕ) (r : Answer) → EndsAt (front c) w at e → n (e - at) ≡ true → FormAt (k (part w at e)) w e r → FormAt (run c n k) w at r
r_run {c} {n} {k} w at e r t h s = record { matched = spanned c n k w at e t ∙ rw (part_length w at e t.within, h) s.matched; laid = s.laid }

pub r_short : {c n : ℕ → Bool} {k : List ℕ → G} (w : List ℕ) (at e : ℕ) → EndsAt (front c) w at e → n (e - at) ≡ false → FormAt (run c n k) w at None
r_short {c} {n} {k} w at e t h = record { matched = spanned c n k w at e t ∙ rw (part_length w at e t.within, h); laid = no_form }

pub r_is : {g h : G} (w : List ℕ) (at b : ℕ) (r : Answer) → eqb 0 b ≡ false → get_or w at 0 ≡ b → FormAt g w at r → FormAt (fork (next_is b) g h) w at r
r_is w at b r z e s = record { matched = rw (front_byte w at b z, eq-eqb (get_or w at 0) b e) s.matched; laid = s.laid }

pub r_isnt : {g h : G} (w : List ℕ) (at b : ℕ) (r : Answer) → eqb 0 b ≡ false → (get_or w at 0 ≡ b → ⊥) → FormAt h w at r → FormAt (fork (next_is b) g h) w at r
r_isnt w at b r z n s = record { matched = rw (front_byte w at b z, ne_eqb (get_or w at 0) b n) s.matched; laid = s.laid }

pub r_nil : {g h : G} (w : List ℕ) (at : ℕ) (r : Answer) → at ≡ length w → FormAt g w at r → FormAt (fork is_nil g h) w at r
r_nil w at r e s = record { matched = rw (ap is_nil (at_end w at e)) s.matched; laid = s.laid }

pub r_more : {g h : G} (w : List ℕ) (at : ℕ) (r : Answer) → at < length w → FormAt h w at r → FormAt (fork is_nil g h) w at r
r_more w at r e s = record { matched = rw (ap is_nil (unroll w at e)) s.matched; laid = s.laid }

pub r_yes : {t : List ℕ → Bool} {g h : G} (w : List ℕ) (at : ℕ) (r : Answer) → t (drop at w) ≡ true → FormAt g w at r → FormAt (fork t g h) w at r
r_yes w at r e s = record { matched = rw e s.matched; laid = s.laid }

pub r_no : {t : List ℕ → Bool} {g h : G} (w : List ℕ) (at : ℕ) (r : Answer) → t (drop at w) ≡ false → FormAt h w at r → FormAt (fork t g h) w at r
r_no w at r e s = record { matched = rw e s.matched; laid = s.laid }

-- a sign, or none
pub r_signed : (k : Bool → Bool → G) (w : List ℕ) (at x : ℕ) (r : Answer) → ByteAt w at x → {n : ℕ} → Signed x n →
    FormAt (k (not (eqb n 0)) (eqb x 45)) w (at + n) r → FormAt (g_signs k) w at r
r_signed k w at x r y (minus q) g =
    let m : at < length w = omega (arith, y.inside) in
    r_is w at 45 r refl (sym y.is ∙ q) (r_byte w at 45 r m (sym y.is ∙ q) (subst (λ (neg : Bool). FormAt (k true neg) w (at + 1) r) (eq-eqb x 45 q) g))
r_signed k w at x r y (plus n q) g =
    let m : at < length w = omega (arith, y.inside) in
    r_isnt w at 45 r refl (λ z. n (y.is ∙ z)) (r_is w at 43 r refl (sym y.is ∙ q) (r_byte w at 43 r m (sym y.is ∙ q) (subst (λ (neg : Bool). FormAt (k true neg) w (at + 1) r) (ne_eqb x 45 n) g)))
r_signed k w at x r y (unsigned n n₂) g =
    r_isnt w at 45 r refl (λ z. n (y.is ∙ z)) (r_isnt w at 43 r refl (λ z. n₂ (y.is ∙ z))
    (subst (λ (i : ℕ). FormAt (k false false) w i r) (add-zero at) (subst (λ (neg : Bool). FormAt (k false neg) w (at + 0) r) (ne_eqb x 45 n) g)))

abbrev pub mark : ℕ → Bool
mark b = eqb b 69 || eqb b 101

-- E or e, and what follows either
pub r_mark : {g : G} (w : List ℕ) (at : ℕ) (r : Answer) → at < length w → mark (get_or w at 0) ≡ true → FormAt g w (at + 1) r → FormAt (fork (next_is 69) (byte 69 g) (byte 101 g)) w at r
r_mark {g} w at r h e s = record { matched = ap (matches (fork (next_is 69) (byte 69 g) (byte 101 g))) (unroll w at h) ∙ go (eqb (get_or w at 0) 69) (eqb (get_or w at 0) 101) (matches g (drop (at + 1) w)) e ∙ s.matched; laid = s.laid }
  where
    go : (a b : Bool) (x : Option Written) → (a || b) ≡ true → cond a (provided a x) (provided b x) ≡ x
    go true b x h = refl
    go false true x h = refl
    go false false x h = absurd (false≢true h)

pub r_unmarked : {g : G} (w : List ℕ) (at : ℕ) → at < length w → mark (get_or w at 0) ≡ false → FormAt (fork (next_is 69) (byte 69 g) (byte 101 g)) w at None
r_unmarked {g} w at h e = record { matched = ap (matches (fork (next_is 69) (byte 69 g) (byte 101 g))) (unroll w at h) ∙ go (eqb (get_or w at 0) 69) (eqb (get_or w at 0) 101) (matches g (drop (at + 1) w)) e; laid = no_form }
  where
    go : (a b : Bool) (x : Option Written) → (a || b) ≡ false → cond a (provided a x) (provided b x) ≡ none
    go true b x h = absurd (true≢false h)
    go false true x h = absurd (true≢false h)
    go false false x h = refl

-- what has no form has none behind a check
pub r_only : {g : G} (b : Bool) (w : List ℕ) (at : ℕ) → FormAt g w at None → FormAt (check b g) w at None
r_only {g} b w at s = record { matched = go b (matches g (drop at w)) s.matched; laid = no_form }
  where
    go : (b : Bool) (x : Option Written) → x ≡ none → provided b x ≡ none
    go true x h = h
    go false x h = refl

pub not_four : (n : ℕ) → (n ≡ 4 → ⊥) → between 4 4 n ≡ false
not_four n h = go (leb 4 n) (leb n 4) refl refl
  where
    go : (a b : Bool) → leb 4 n ≡ a → leb n 4 ≡ b → (a && b) ≡ false
    go true true p q = absurd (h (omega (arith, leb-true 4 n p, leb-true n 4 q)))
    go true false p q = refl
    go false b p q = refl
