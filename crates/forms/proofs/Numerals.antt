-- Numbers at a place of a word: one lemma for each answer of the code.
use Prim.Native.Nat.{ℕ, ◌+◌, ◌-◌, ◌≤◌, ◌<◌}
use mathlib.Core.Bool.{Bool, true, false, not, cond, ◌&&◌}
use mathlib.Core.Option.{none, Option}
use mathlib.Core.Path.{◌≡◌, refl, sym, ap, ◌∙◌}
use mathlib.Core.List.{List, [], ◌∷◌, ◌++◌}
use native.Mathlib.Omega.{arith}
use borrow.Author.Tests.{eq-eqb, ne_eqb, not-true, not-false, eqb-true, le-leb, lt-leb}
use lib.Dec.{eqb}
use lib.ListN.{length, get_or, drop, length-append}
use Rattle.rules.specs.Bytes.{digit, between, front, alnum, pair}
use Rattle.rules.specs.Values.{Written, a_decimal, number}
use Rattle.rules.proofs.Machine.Patterns.{G, byte, check, run, fork, matches, provided}
use Rattle.rules.proofs.Machine.Words.{next_is, g_minutes, g_days, marked, some_of, zero_or_more, g_integer, g_scale, g_based, g_after}
use Rattle.classes.specs.Places.{part, EndsAt, ByteAt}
use Rattle.std.specs.Prelude.{Option as Maybe, Some, None}
use Rattle.forms.specs.declared.Form.TheVariants.{Whole as WholeF, Radix, Decimal}
use Rattle.forms.specs.Laid.{Answer, Between, SignTo, BasedTo, MantissaTo, PowerTo, whole, radix, unscaled, scaled}
use Rattle.forms.specs.Forms.{FormAt, Signed, on, stamped, in_radix_at, in_power, g_pointed, g_plain}
use Rattle.classes.proofs.Runs.{unroll}
use Rattle.forms.specs.declared.Span.{Span}
use Rattle.forms.specs.declared.Stamp.TheVariants.{Undated}
use Rattle.rules.specs.Modes.{base}
use Rattle.classes.proofs.Parts.{part_length}
use Rattle.forms.proofs.Counts.{not_many, with_many}
use Rattle.forms.proofs.Reading.{r_stop, r_trailing, r_byte, r_other, r_check, r_fails, r_run, r_short, r_is, r_isnt, r_nil, r_more, r_yes, r_no, r_signed, r_mark, r_unmarked, r_only, not_four, mark}

-- how many digits
none_of : (w : List ℕ) (a e : ℕ) → e ≤ length w → e ≡ a → some_of (length (part w a e)) ≡ false
none_of w a e h q = ap some_of (part_length w a e h) ∙ lt-leb 1 (e - a) (omega arith)

some_are : (w : List ℕ) (a e : ℕ) → a ≤ e → e ≤ length w → (e ≡ a → ⊥) → some_of (length (part w a e)) ≡ true
some_are w a e l h n = ap some_of (part_length w a e h) ∙ le-leb 1 (e - a) (omega arith)

-- ---- based integers

module _ (w : List ℕ) (r : Span) (neg : Bool) (at e : ℕ) (d : EndsAt (front alnum) w at e) where
  abbrev InRadix : Answer → Type 0
  InRadix f = FormAt (run alnum some_of (in_radix_at w r neg)) w at f

  pub radix_none : e ≡ at → InRadix None
  radix_none q = r_short w at e d (lt-leb 1 (e - at) (omega arith))

  module _ (n : e ≡ at → ⊥) (x : ℕ) (y : ByteAt w e x) where
    some_here : some_of (e - at) ≡ true
    some_here = le-leb 1 (e - at) (omega (arith, d.from))

    pub radix_open : (x ≡ 35 → ⊥) → InRadix None
    radix_open k = r_run w at e None d some_here (r_other w e 35 refl (λ z. k (y.is ∙ z)))

    pub radix_more : x ≡ 35 → (e + 1 ≡ length w → ⊥) → InRadix None
    radix_more q k =
        let m : e < length w = omega (arith, y.inside) in
        r_run w at e None d some_here (r_byte w e 35 None m (sym y.is ∙ q) (r_trailing w (e + 1) (omega arith)))

    pub radix_ends : BasedTo w r neg at → x ≡ 35 → e + 1 ≡ length w → InRadix (Some (Radix r neg (record { from = at; upto = e })))
    radix_ends b q k =
        let m : e < length w = omega (arith, y.inside) in
        r_run w at e _ d some_here (r_byte w e 35 _ m (sym y.is ∙ q) (r_stop w (e + 1) _ k refl (radix b d)))

pub based_signed : (w : List ℕ) (r : Span) (at x n : ℕ) (f : Answer) → ByteAt w at x → Signed x n →
    FormAt (run alnum some_of (in_radix_at w r (eqb x 45))) w (at + n) f → FormAt (g_based (number (on w r))) w at f
based_signed w r at x n f y s g = r_signed (λ s neg. run alnum some_of (in_radix_at w r neg)) w at x f y s g

-- ---- reals

module _ (w : List ℕ) (neg below : Bool) (at e : ℕ) (d : EndsAt (front digit) w at e) where
  abbrev Power : List ℕ → List ℕ → Answer → Type 0
  Power ds fs r = FormAt (run digit some_of (in_power neg ds fs below)) w at r

  pub power_none : (ds fs : List ℕ) → e ≡ at → Power ds fs None
  power_none ds fs q = r_short w at e d (lt-leb 1 (e - at) (omega arith))

  pub power_more : (ds fs : List ℕ) → (e ≡ at → ⊥) → (e ≡ length w → ⊥) → Power ds fs None
  power_more ds fs n k = r_run w at e None d (le-leb 1 (e - at) (omega (arith, d.from))) (r_trailing w e (omega (arith, d.within)))

  pub power_ends : (ds fs : Span) → PowerTo w neg ds fs below at → (e ≡ at → ⊥) → e ≡ length w → Power (on w ds) (on w fs) (Some (Decimal neg ds fs below (record { from = at; upto = e })))
  power_ends ds fs p n k = r_run w at e _ d (le-leb 1 (e - at) (omega (arith, d.from))) (r_stop w e _ k refl (scaled p d))

module _ (w : List ℕ) (neg : Bool) (ds fs : List ℕ) (at : ℕ) where
  pub power_signed : (r : Answer) (x n : ℕ) → ByteAt w at x → Signed x n → FormAt (run digit some_of (in_power neg ds fs (eqb x 45))) w (at + n) r → FormAt (g_integer (a_decimal neg ds fs)) w at r
  power_signed r x n y s g = r_signed (λ s below. run digit some_of (in_power neg ds fs below)) w at x r y s g

  module _ (in_range : at ≤ length w) (not_end : at ≡ length w → ⊥) (t : Bool) (e : t ≡ mark (get_or w at 0)) where
    pub scale_other : not t ≡ true → FormAt (g_scale (a_decimal neg ds fs)) w at None
    scale_other n = let m : at < length w = omega arith in r_more w at None m (r_unmarked w at m (sym e ∙ not-true t n))

    pub scale_power : (r : Answer) → not t ≡ false → FormAt (g_integer (a_decimal neg ds fs)) w (at + 1) r → FormAt (g_scale (a_decimal neg ds fs)) w at r
    scale_power r n g = let m : at < length w = omega arith in r_more w at r m (r_mark w at r m (sym e ∙ not-false t n) g)

pub scale_ends : (w : List ℕ) (neg : Bool) (ds fs : Span) (at : ℕ) → MantissaTo w neg ds fs at → at ≡ length w → FormAt (g_scale (a_decimal neg (on w ds) (on w fs))) w at (Some (Decimal neg ds fs false (record { from = 0; upto = 0 })))
scale_ends w neg ds fs at m h = r_nil w at _ h (r_stop w at _ h refl (unscaled m h))

module _ (w : List ℕ) (neg : Bool) (from at e : ℕ) (ok : (from ≤ at) × (at < length w)) (d : EndsAt (front digit) w (at + 1) e) where
  abbrev Pointed : Answer → Type 0
  Pointed r = FormAt (g_pointed neg (part w from at)) w (at + 1) r

  both_sides : length (part w from at ++ part w (at + 1) e) ≡ (at - from) + (e - (at + 1))
  both_sides =
      let a : at ≤ length w = omega (arith, ok.1) in
      length-append (part w from at) (part w (at + 1) e) ∙ rw (part_length w from at a, part_length w (at + 1) e d.within)

  pub pointed_none : e - from ≡ 1 → Pointed None
  pointed_none q = r_run w (at + 1) e None d refl (r_fails w e (ap some_of both_sides ∙ lt-leb 1 ((at - from) + (e - (at + 1))) (omega (arith, ok.0, d.from))))

  pub pointed_some : (r : Answer) → (e - from ≡ 1 → ⊥) → FormAt (g_scale (a_decimal neg (part w from at) (part w (at + 1) e))) w e r → Pointed r
  pointed_some r n g = r_run w (at + 1) e r d refl (r_check w e r (ap some_of both_sides ∙ le-leb 1 ((at - from) + (e - (at + 1))) (omega (arith, ok.0, d.from))) g)

-- ---- what begins with digits and is no number

module _ (w : List ℕ) (at : ℕ) (m : at < length w) where
  abbrev Plain : Answer → Type 0
  Plain r = FormAt (g_plain (part w 0 at)) w at r

  pub plain_no_radix : get_or w at 0 ≡ 35 → at ≡ 0 → Plain None
  plain_no_radix e q = r_is w at 35 None refl e (r_fails w at (none_of w 0 at (omega arith) q))

  pub plain_based : (r : Answer) → get_or w at 0 ≡ 35 → (at ≡ 0 → ⊥) → FormAt (g_based (number (on w (record { from = 0; upto = at })))) w (at + 1) r → Plain r
  plain_based r e n g = r_is w at 35 r refl e (r_check w at r (some_are w 0 at (omega arith) (omega arith) n) (r_byte w at 35 r m e g))

  module _ (n : get_or w at 0 ≡ 35 → ⊥) where
    hours : (t : Bool) → between 1 2 (at - 0) ≡ t → between 1 2 (length (part w 0 at)) ≡ t
    hours t k = let a : at ≤ length w = omega arith in ap (between 1 2) (part_length w 0 at a) ∙ k

    module _ (e : get_or w at 0 ≡ 58) (o : Maybe Span) (b : Between 0 at 2 o) where
      pub plain_no_hour : (r : Answer) → o ≡ None → r ≡ None → Plain r
      plain_no_hour r f z = rw z (r_isnt w at 35 None refl n (r_is w at 58 None refl e (r_fails w at (hours false (not_many 0 at 2 o b f)))))

      pub plain_time : (h : Span) (r : Answer) → o ≡ Some h → FormAt (g_minutes (on w h) (stamped w Undated)) w (at + 1) r → Plain r
      plain_time h r f g = with_many 0 at 2 o b h f (λ h. FormAt (g_minutes (on w h) (stamped w Undated)) w (at + 1) r → Plain r)
          (λ k g. r_isnt w at 35 r refl n (r_is w at 58 r refl e (r_check w at r (hours true k) (r_byte w at 58 r m e g)))) g

    module _ (n₂ : get_or w at 0 ≡ 58 → ⊥) where
      dated_or : (r : Answer) → FormAt (check (between 4 4 (length (part w 0 at))) (byte 45 (g_days (part w 0 at)))) w at r → Plain r
      dated_or r g = r_isnt w at 35 r refl n (r_isnt w at 58 r refl n₂ g)

      pub plain_other : (get_or w at 0 ≡ 45 → ⊥) → Plain None
      plain_other n₃ = dated_or None (r_only (between 4 4 (length (part w 0 at))) w at (r_other w at 45 refl n₃))

      pub plain_no_year : (at ≡ 4 → ⊥) → Plain None
      plain_no_year k = dated_or None (r_fails w at (let a : at ≤ length w = omega arith in ap (between 4 4) (part_length w 0 at a) ∙ not_four (at - 0) (λ q. k (omega arith))))

      pub plain_date : (r : Answer) → get_or w at 0 ≡ 45 → at ≡ 4 → FormAt (g_days (part w 0 4)) w 5 r → Plain r
      plain_date r e q g = dated_or r (r_check w at r (let a : at ≤ length w = omega arith in ap (between 4 4) (part_length w 0 at a) ∙ ap (λ (n : ℕ). between 4 4 (n - 0)) q) (r_byte w at 45 r m e (rw q g)))

-- ---- numbers

-- Two periods are read as one is: no exponent begins with the second.
paired : (neg : Bool) (ds : List ℕ) (g h : G) (s : List ℕ) →
    matches (fork (pair 46 46) (check false g) (fork (next_is 46) (byte 46 (g_pointed neg ds)) h)) s ≡ matches (fork (next_is 46) (byte 46 (g_pointed neg ds)) h) s
paired neg ds g h [] = refl
paired neg ds g h (a ∷ []) = go (eqb a 46)
  where
    go : (x : Bool) → cond (x && false) none (cond x (provided x (matches (g_pointed neg ds) [])) (matches h (a ∷ []))) ≡ cond x (provided x (matches (g_pointed neg ds) [])) (matches h (a ∷ []))
    go true = refl
    go false = refl
paired neg ds g h (a ∷ b ∷ s) = go (eqb a 46) (eqb b 46) refl
  where
    dead : b ≡ 46 → none ≡ matches (g_pointed neg ds) (b ∷ s)
    dead q = rw q (closed (some_of (length (ds ++ []))))
      where
        closed : (x : Bool) → ◌≡◌ {A = Option Written} none (provided x none)
        closed true = refl
        closed false = refl

    go : (x y : Bool) → eqb b 46 ≡ y → cond (x && y) none (cond x (provided x (matches (g_pointed neg ds) (b ∷ s))) (matches h (a ∷ b ∷ s))) ≡ cond x (provided x (matches (g_pointed neg ds) (b ∷ s))) (matches h (a ∷ b ∷ s))
    go true true e = dead (eqb-true b 46 e)
    go true false e = refl
    go false y e = refl

r_pair : (neg : Bool) (ds : List ℕ) {g h : G} (w : List ℕ) (at : ℕ) (r : Answer) → FormAt (fork (next_is 46) (byte 46 (g_pointed neg ds)) h) w at r →
    FormAt (fork (pair 46 46) (check false g) (fork (next_is 46) (byte 46 (g_pointed neg ds)) h)) w at r
r_pair neg ds {g} {h} w at r s = record { matched = paired neg ds g h (drop at w) ∙ s.matched; laid = s.laid }

module _ (w : List ℕ) (neg : Bool) (from at : ℕ) (d : EndsAt (front digit) w from at) where
  abbrev Numbered : Answer → Type 0
  Numbered r = FormAt (run digit zero_or_more (g_after base (not (eqb from 0)) neg)) w from r

  pub number_none : at ≡ length w → at ≡ from → Numbered None
  number_none h q = r_run w from at None d refl (r_nil w at None h (r_fails w at (none_of w from at d.within q)))

  pub number_whole : SignTo w 0 neg from → at ≡ length w → (at ≡ from → ⊥) → Numbered (Some (WholeF neg (record { from = from; upto = at })))
  number_whole s h n = r_run w from at _ d refl (r_nil w at _ h (r_check w at _ (some_are w from at d.from d.within n) (r_stop w at _ h refl (whole s d))))

  module _ (not_end : at ≡ length w → ⊥) where
    inside : at < length w
    inside = omega (arith, d.within)

    pub number_pointed : (r : Answer) → get_or w at 0 ≡ 46 → FormAt (g_pointed neg (part w from at)) w (at + 1) r → Numbered r
    number_pointed r e g = r_run w from at r d refl (r_more w at r inside (r_pair neg (part w from at) w at r (r_is w at 46 r refl e (r_byte w at 46 r inside e g))))

    module _ (n : get_or w at 0 ≡ 46 → ⊥) (t : Bool) (k : t ≡ mark (get_or w at 0)) where
      marks : (b : Bool) → t ≡ b → marked (drop at w) ≡ b
      marks b h = ap marked (unroll w at inside) ∙ sym k ∙ h

      pub number_no_mantissa : t ≡ true → at ≡ from → Numbered None
      number_no_mantissa f q = r_run w from at None d refl (r_more w at None inside (r_pair neg (part w from at) w at None (r_isnt w at 46 None refl n
          (r_yes w at None (marks true f) (r_fails w at (none_of w from at d.within q))))))

      pub number_scaled : (r : Answer) → t ≡ true → (at ≡ from → ⊥) → FormAt (g_integer (a_decimal neg (part w from at) [])) w (at + 1) r → Numbered r
      number_scaled r f q g = r_run w from at r d refl (r_more w at r inside (r_pair neg (part w from at) w at r (r_isnt w at 46 r refl n
          (r_yes w at r (marks true f) (r_check w at r (some_are w from at d.from d.within q) (r_mark w at r inside (sym k ∙ f) g))))))

      plain_or : (r : Answer) → t ≡ false → FormAt (check (not (not (eqb from 0))) (g_plain (part w from at))) w at r → Numbered r
      plain_or r f g = r_run w from at r d refl (r_more w at r inside (r_pair neg (part w from at) w at r (r_isnt w at 46 r refl n (r_no w at r (marks false f) g))))

      pub number_signed : t ≡ false → (from ≡ 0 → ⊥) → Numbered None
      number_signed f z = plain_or None f (r_fails w at (ap (λ (b : Bool). not (not b)) (ne_eqb from 0 z)))

      pub number_plain : (r : Answer) → t ≡ false → from ≡ 0 → FormAt (g_plain (part w 0 at)) w at r → Numbered r
      number_plain r f z g = plain_or r f (r_check w at r (ap (λ (b : Bool). not (not b)) (eq-eqb from 0 z)) (rw z g))
