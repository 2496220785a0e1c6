-- Tables in one way only: the rows of a proper table are its own, the place of code 12 is one place, and a proper table has none.
use Prim.Native.Nat.{ℕ, ◌^◌, ◌≤◌, ◌<◌}
use mathlib.Core.Path.{◌≡◌, refl, sym, ap, ap₂, ◌∙◌, subst}
use mathlib.Core.List.{List, [], ◌∷◌, ◌++◌, append_assoc, append-nil}
use native.Mathlib.Omega.{arith}
use lib.ListN.{length}
use Rattle.rules.specs.Proper.{Each, none, one, Held, Holds, Proper, Begins, Improper}
use Rattle.rules.specs.Data.{Span, Whole, Moment, Row, attribute, pointer, opened, closed, an_integer, a_real, a_moment, a_text, a_symbol, a_unit, sequence, sequence_end, set, set_end, last}
use Rattle.rules.specs.Table.{encode, table}
use Rattle.rules.proofs.Machine.Limits.{Within, MomentHeld, date_alone, time_alone, date_and_time, Valued, Codes, Short}
use Rattle.rules.proofs.Tables.Proper.{begins→going}
use Rattle.rules.proofs.Tables.DecodeComplete.{encode_one, encode_some}

short : (Allowed : List ℕ → Type 0) (given : List ℕ) (p : Span) → length given < 65536 → Held Allowed given p → Short p
short Allowed given p l h = record { from_short = omega (arith, h.ordered, h.inside); upto_short = omega (arith, h.inside) }

-- below a wider limit too
wider : (limit : ℕ) {most : ℕ} {w : Whole} → Within most w → most ≤ limit → Within limit w
wider limit h l = record { below = omega (arith, h.below, l); zero_plain = h.zero_plain }

moment_codes : (t : Moment) → MomentHeld t → Codes (a_moment t)
moment_codes t (date_alone p d u) =
    let z : Within (2 ^ 15) t.offset = rw u.offset (record { below = omega arith; zero_plain = λ e. refl }) in
    (omega (arith, d.year_most), omega (arith, u.nanoseconds), z)
moment_codes t (time_alone p u m) = (omega (arith, u.year), omega (arith, m.nanoseconds_most), wider (2 ^ 15) m.offset_most (omega arith))
moment_codes t (date_and_time p d m) = (omega (arith, d.year_most), omega (arith, m.nanoseconds_most), wider (2 ^ 15) m.offset_most (omega arith))

module _ (given : List ℕ) (l : length given < 65536) where
  pub codes : (r : Row) → Valued r → Holds given r → Codes r
  codes (attribute p) v h = short _ given p l h
  codes (pointer p) v h = short _ given p l h
  codes (opened k p) v h = short _ given p l h
  codes (closed k) v h = tt
  codes (an_integer w) v h = v
  codes (a_real x) v h = (wider (2 ^ 63) v.number (omega arith), wider (2 ^ 15) v.power (omega arith))
  codes (a_moment t) v h = moment_codes t v
  codes (a_text p) v h = short _ given p l h
  codes (a_symbol p) v h = short _ given p l h
  codes (a_unit op p w) v h = (short _ given p l h, wider (2 ^ 7) v (omega arith))
  codes sequence v h = tt
  codes sequence_end v h = tt
  codes set v h = tt
  codes set_end v h = tt
  codes (last n) v h = omega arith

  pub all_codes : (rs : List Row) → Each Valued rs → Each (Holds given) rs → Each Codes rs
  all_codes [] none none = none
  all_codes (r ∷ rs) (one v vs) (one h hs) = one (codes r v h) (all_codes rs vs hs)

  begins_codes : (rs : List Row) → Begins given rs → Each Codes rs
  begins_codes rs b = let g = begins→going rs b in all_codes rs g.2.values g.2.spans

  -- what begins with more begins with less
  fewer : (done : List Row) (r : Row) (rs : List Row) → Begins given (done ++ (r ∷ rs)) → Begins given (done ++ (r ∷ []))
  fewer done r rs b = (rs ++ b.0, simp append_assoc (simp append_assoc at b.1))

  move : (done : List Row) (r : Row) (rs : List Row) → Begins given (done ++ (r ∷ rs)) → Begins given ((done ++ (r ∷ [])) ++ rs)
  move done r rs b = subst (Begins given) (sym (append_assoc done (r ∷ []) rs)) b

  move_back : (done : List Row) (r : Row) (rs : List Row) (x : Row) → Begins given (((done ++ (r ∷ [])) ++ rs) ++ (x ∷ [])) → Begins given ((done ++ (r ∷ rs)) ++ (x ∷ []))
  move_back done r rs x b = subst (λ (l : List Row). Begins given (l ++ (x ∷ []))) (append_assoc done (r ∷ []) rs) b

  -- two ways to take a table apart, neither of which can go on where it stops: they are one way
  same_rows : (done rows₁ rows₂ : List Row) (rest₁ rest₂ : List ℕ) → table rows₁ ++ rest₁ ≡ table rows₂ ++ rest₂ →
      Each Codes rows₁ → Each Codes rows₂ → Begins given (done ++ rows₁) → Begins given (done ++ rows₂) →
      ((r : Row) (after : List ℕ) → rest₁ ≡ encode r ++ after → Begins given ((done ++ rows₁) ++ (r ∷ [])) → ⊥) →
      ((r : Row) (after : List ℕ) → rest₂ ≡ encode r ++ after → Begins given ((done ++ rows₂) ++ (r ∷ [])) → ⊥) → rows₁ ≡ rows₂
  same_rows done [] [] s₁ s₂ e c₁ c₂ b₁ b₂ n₁ n₂ = refl
  same_rows done [] (r ∷ rs) s₁ s₂ e c₁ c₂ b₁ b₂ n₁ n₂ = absurd (n₁ r (table rs ++ s₂) (simp append_assoc at e) (simp append-nil (fewer done r rs b₂)))
  same_rows done (r ∷ rs) [] s₁ s₂ e c₁ c₂ b₁ b₂ n₁ n₂ = absurd (n₂ r (table rs ++ s₁) (sym (simp append_assoc at e)) (simp append-nil (fewer done r rs b₁)))
  same_rows done (r ∷ rs) (r' ∷ rs') s₁ s₂ e (one c cs) (one c' cs') b₁ b₂ n₁ n₂ =
      let h = encode_one r r' (table rs ++ s₁) (table rs' ++ s₂) c c' (simp append_assoc at e) in
      let b : Begins given (done ++ (r ∷ rs')) = subst (λ (x : Row). Begins given (done ++ (x ∷ rs'))) (sym h.0) b₂ in
      let n : (x : Row) (after : List ℕ) → s₂ ≡ encode x ++ after → Begins given ((done ++ (r ∷ rs')) ++ (x ∷ [])) → ⊥ =
      λ x after f g. n₂ x after f (subst (λ (y : Row). Begins given ((done ++ (y ∷ rs')) ++ (x ∷ []))) h.0 g) in
      ap₂ (λ (x : Row) (y : List Row). x ∷ y) h.0
      (same_rows (done ++ (r ∷ [])) rs rs' s₁ s₂ h.1 cs cs' (move done r rs b₁) (move done r rs' b)
      (λ x after f g. n₁ x after f (move_back done r rs x g)) (λ x after f g. n x after f (move_back done r rs' x g)))

  -- the place of code 12 is one place
  pub improper_once : (lent : List ℕ) (i j : ℕ) → Improper given lent i → Improper given lent j → i ≡ j
  improper_once lent i j a b =
      a.place ∙ ap (λ (rs : List Row). length (table rs))
      (same_rows [] a.rows b.rows a.rest b.rest (sym a.split ∙ b.split) (begins_codes a.rows a.until) (begins_codes b.rows b.until)
      a.until b.until a.none_there b.none_there) ∙ sym b.place

  -- the same rows, where the second way ends with the table
  shorter : (done rows₁ rows₂ : List Row) (rest : List ℕ) → table rows₁ ++ rest ≡ table rows₂ →
      Each Codes rows₁ → Each Codes rows₂ → Begins given (done ++ rows₂) →
      ((r : Row) (after : List ℕ) → rest ≡ encode r ++ after → Begins given ((done ++ rows₁) ++ (r ∷ [])) → ⊥) → (rows₁ ≡ rows₂) × (rest ≡ [])
  shorter done [] [] s e c₁ c₂ b n = (refl, e)
  shorter done [] (r ∷ rs) s e c₁ c₂ b n = absurd (n r (table rs) e (simp append-nil (fewer done r rs b)))
  shorter done (r ∷ rs) [] s e (one c cs) c₂ b n = absurd (encode_some r (table rs ++ s) c (sym (simp append_assoc at e)))
  shorter done (r ∷ rs) (r' ∷ rs') s e (one c cs) (one c' cs') b n =
      let h = encode_one r r' (table rs ++ s) (table rs') c c' (simp append_assoc at e) in
      let b' : Begins given (done ++ (r ∷ rs')) = subst (λ (x : Row). Begins given (done ++ (x ∷ rs'))) (sym h.0) b in
      let f = shorter (done ++ (r ∷ [])) rs rs' s h.1 cs cs' (move done r rs' b') (λ x after f g. n x after f (move_back done r rs x g)) in
      (ap₂ (λ (x : Row) (y : List Row). x ∷ y) h.0 f.0, f.1)

  -- a proper table has no such place
  pub proper_not_improper : (lent : List ℕ) (i : ℕ) → (rows : List Row) × (lent ≡ table rows) × Proper given rows → Improper given lent i → ⊥
  proper_not_improper lent i p a =
      let b : Begins given p.0 = ([], simp append-nil p.2) in
      let f = shorter [] a.rows p.0 a.rest (sym a.split ∙ p.1) (begins_codes a.rows a.until) (begins_codes p.0 b) b a.none_there in
      a.unfinished f.1 (subst (Proper given) (sym f.0) p.2)

  -- a table is the bytes of one list of proper rows
  pub proper_once : (rs rs' : List Row) → Proper given rs → Proper given rs' → table rs ≡ table rs' → rs ≡ rs'
  proper_once rs rs' p p' e =
      let b : Begins given rs = ([], simp append-nil p) in
      let b' : Begins given rs' = ([], simp append-nil p') in
      go rs rs' (begins_codes rs b) (begins_codes rs' b') e
    where
      go : (rs rs' : List Row) → Each Codes rs → Each Codes rs' → table rs ≡ table rs' → rs ≡ rs'
      go [] [] c c' e = refl
      go [] (r ∷ rs) c (one h hs) e = absurd (encode_some r (table rs) h e)
      go (r ∷ rs) [] (one h hs) c' e = absurd (encode_some r (table rs) h (sym e))
      go (r ∷ rs) (r' ∷ rs') (one h hs) (one h' hs') e =
          let f = encode_one r r' (table rs) (table rs') h h' e in ap₂ (λ (x : Row) (y : List Row). x ∷ y) f.0 (go rs rs' hs hs' f.1)
