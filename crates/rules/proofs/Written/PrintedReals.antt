-- Reals as they are written are words as they are read: each form stands for the number and the power that it was written of.
use Prim.Native.Nat.{ℕ, zero, suc, ◌+◌, ◌-◌, ◌/◌, ◌%◌, ◌^◌, ◌<◌}
use mathlib.Core.Path.{◌≡◌, refl, sym, ap, ap₂, ◌∙◌, subst}
use mathlib.Core.Option.{Option, some}
use mathlib.Core.Bool.{Bool, true, false, not, ◌&&◌, true≢false}
use mathlib.Core.List.{List, [], ◌∷◌, ◌++◌, append_assoc, append-nil}
use native.Mathlib.Decide.{ℕ_discrete}
use native.Mathlib.Nat.{div-add-mod'}
use native.Mathlib.Omega.{arith}
use borrow.Author.Tests.{lt-ltb, le-ltb, le-leb, ne_eqb}
use lib.Dec.{leb, ltb, eqb}
use lib.ListN.{length, length-append}
use Rattle.rules.specs.Bytes.{ascii, digit, All, none, one}
use Rattle.rules.specs.Data.{Whole, Real, real}
use Rattle.rules.specs.Proper.{the_rules}
use Rattle.rules.specs.Words.{upper, Scale, unscaled, scaled, pointed, real_word, Form}
use Rattle.rules.specs.Values.{a_decimal, onto, number, signed, significant, moved, held, real_kept, then}
use Rattle.rules.specs.Written.{unpadded, digits, wide, minus_only, decimal, plain_bytes, full_bytes, scaled_bytes, unsigned_bytes, real_bytes}
use Rattle.rules.proofs.Machine.Limits.{RealHeld}
use Rattle.rules.proofs.Tables.Tests.{all_append, cond-case, and_left, as_not}
use Rattle.rules.proofs.Written.PrintedNumbers.{wide_all, wide_length, wide_value, last_digit, printed, fewer, significant_whole, zeros_nought, sign_printed, signed_plain, whole_printed}
use Rattle.rules.proofs.Words.Worth.{noughts, noughts_behind, zeros_behind, onto_append}

-- ---- what digits before and behind a period are held as

-- digits `a` that are significant, then zeros, wherever the period stands
held_is : (b : Bool) (n : ℕ) (ds fs a zs : List ℕ) (z p : Whole) → ds ++ fs ≡ a ++ zs → significant a ≡ a → number a ≡ n → noughts zs ≡ true → (n ≡ 0 → b ≡ false) →
    moved z (length zs) (length fs) ≡ p → held b ds fs z ≡ record { number = record { minus = b; size = n }; power = p }
held_is b n ds fs a zs z p e s v zeros u m =
    let sig : significant (ds ++ fs) ≡ a = ap significant e ∙ zeros_behind a zs zeros ∙ s in
    let more : length (ds ++ fs) - length a ≡ length zs = rw (e, length-append) (omega arith) in
    rw (sig, v, more, m) (ap (λ (w : Whole). record { number = w; power = p }) (signed_plain b n u))

-- above - below, where below is k more, and where above is
lower : (above below k : ℕ) → above + k ≡ below → 0 < k → signed (ltb above below) (above - below + (below - above)) ≡ record { minus = true; size = k }
lower above below k e h =
    let size : above - below + (below - above) ≡ k = omega arith in
    rw (lt-ltb above below (omega arith), size, ne_eqb k 0 (λ z. omega arith))

higher : (above below k : ℕ) → below + k ≡ above → signed (ltb above below) (above - below + (below - above)) ≡ record { minus = false; size = k }
higher above below k e =
    let size : above - below + (below - above) ≡ k = omega arith in
    rw (le-ltb above below (omega arith), size)

-- z + 0 - 0
moved_not : (b : Bool) (n : ℕ) → (n ≡ 0 → b ≡ false) → moved (record { minus = b; size = n }) 0 0 ≡ record { minus = b; size = n }
moved_not true zero h = absurd (true≢false (h refl))
moved_not true (suc n) h = lower (0 + 0) (0 + suc n) (suc n) (omega arith) (omega arith)
moved_not false n h = higher (0 + n) (0 + 0) n (omega arith)

abbrev nil : Whole
nil = record { minus = false; size = 0 }

-- 0 + 0 - k
moved_down : (k : ℕ) → 0 < k → moved nil 0 k ≡ record { minus = true; size = k }
moved_down k h = lower (0 + 0) (k + 0) k (omega arith) h

-- 0 + (k + 1) - 1
moved_up : (k : ℕ) → moved nil (k + 1) 1 ≡ record { minus = false; size = k }
moved_up k = higher (k + 1 + 0) (1 + 0) k (omega arith)

-- ---- a number that ends in no zero, in each form

module _ (b : Bool) (n : ℕ) (few : n < 10 ^ 20) (no-zero-last : n % 10 ≡ 0 → ⊥) where
  last_counts : eqb (48 + n % 10) 48 ≡ false
  last_counts = ne_eqb (48 + n % 10) 48 (λ e. no-zero-last (omega (arith, e)))

  digits_significant : significant (digits n) ≡ digits n
  digits_significant = let p = printed n few in rw p.split (significant_whole p.front (48 + n % 10) last_counts)

  unsigned_if_zero : n ≡ 0 → b ≡ false
  unsigned_if_zero e = absurd (no-zero-last (rw e))

  scaled_held : (z : Whole) → (z.size ≡ 0 → z.minus ≡ false) → held b (digits n) [] z ≡ record { number = record { minus = b; size = n }; power = z }
  scaled_held z l = held_is b n (digits n) [] (digits n) [] z z refl digits_significant (printed n few).stands refl unsigned_if_zero (moved_not z.minus z.size l)

  full_held : (k : ℕ) → held b (digits n ++ wide k 0) (48 ∷ []) nil ≡ record { number = record { minus = b; size = n }; power = record { minus = false; size = k } }
  full_held k =
      let up : length (wide k 0 ++ (48 ∷ [])) ≡ k + 1 = length-append (wide k 0) (48 ∷ []) ∙ ap (λ (i : ℕ). i + 1) (wide_length k 0) in
      held_is b n (digits n ++ wide k 0) (48 ∷ []) (digits n) (wide k 0 ++ (48 ∷ [])) nil _ (append_assoc (digits n) (wide k 0) (48 ∷ [])) digits_significant (printed n few).stands
      (noughts_behind (wide k 0) (48 ∷ []) refl ∙ zeros_nought k) unsigned_if_zero (ap (λ (i : ℕ). moved nil i 1) up ∙ moved_up k)

  plain_held : (k : ℕ) → held b (digits (n / 10 ^ suc k)) (wide (suc k) n) nil ≡ record { number = record { minus = b; size = n }; power = record { minus = true; size = suc k } }
  plain_held k =
      let ds : List ℕ = digits (n / 10 ^ suc k) in
      let fs : List ℕ = wide (suc k) n in
      let front : List ℕ = ds ++ wide k (n / 10) in
      let split : ds ++ fs ≡ front ++ ((48 + n % 10) ∷ []) = ap (λ (l : List ℕ). ds ++ l) (last_digit k n) ∙ sym (append_assoc ds (wide k (n / 10)) ((48 + n % 10) ∷ [])) in
      let sig : significant (ds ++ fs) ≡ ds ++ fs = ap significant split ∙ significant_whole front (48 + n % 10) last_counts ∙ sym split in
      let stands : number (ds ++ fs) ≡ n =
      onto_append 0 ds fs ∙ ap (λ (i : ℕ). onto i fs) (printed (n / 10 ^ suc k) (fewer n (suc k) few)).stands ∙ wide_value (n / 10 ^ suc k) (suc k) n ∙ div-add-mod' n (10 ^ suc k) in
      held_is b n ds fs (ds ++ fs) [] nil _ (sym (append-nil (ds ++ fs))) sig stands refl unsigned_if_zero (ap (moved nil 0) (wide_length (suc k) n) ∙ moved_down (suc k) (omega arith))

-- ---- the word of each form

read_as : (off b : Bool) (ds fs x : List ℕ) (z : Whole) (y : Real) → All digit ds → All digit fs → leb 1 (length (ds ++ fs)) ≡ true → Scale x z →
    real_kept (held b ds fs z) ≡ some y → Form the_rules off (minus_only b ++ (ds ++ (46 ∷ (fs ++ x)))) (real y)
read_as off b ds fs x z y d f l s e =
    (a_decimal b ds fs z, real_word (pointed (sign_printed b) d f l s), ap (λ (o : Option Real). then o (λ v. some (real v))) e)

module _ (off : Bool) (x : Real) (h : RealHeld x) (no-zero-last : x.number.size % 10 ≡ 0 → ⊥) where
  abbrev n : ℕ
  n = x.number.size

  abbrev neg : Bool
  neg = x.number.minus

  abbrev k : ℕ
  k = x.power.size

  few : n < 10 ^ 20
  few = omega (arith, h.number.below)

  kept : real_kept x ≡ some x
  kept = rw (ne_eqb n 0 (λ e. no-zero-last (rw e)), lt-ltb n (10 ^ 18) h.number.below, le-leb k 999 (omega (arith, h.power.below)))

  abbrev Shown : List ℕ → Type 0
  Shown w = Form the_rules off (minus_only neg ++ w) (real x)

  some_more : (m : ℕ) (l : List ℕ) → m < 10 ^ 20 → leb 1 (length (digits m ++ l)) ≡ true
  some_more m l q = le-leb 1 (length (digits m ++ l)) (rw (printed m q).split (simp length-append (omega arith)))

  scaled_shown : Shown (scaled_bytes n x.power)
  scaled_shown =
      read_as off neg (digits n) [] (69 ∷ decimal x.power) x.power x (printed n few).all none (some_more n [] few)
      (scaled (upper (whole_printed x.power 1000 h.power (omega arith)))) (ap real_kept (scaled_held neg n few no-zero-last x.power h.power.zero_plain) ∙ kept)

  full_shown : x.power.minus ≡ false → Shown (full_bytes n k)
  full_shown e =
      subst Shown (append_assoc (digits n) (wide k 0) (46 ∷ 48 ∷ []))
      (read_as off neg (digits n ++ wide k 0) (48 ∷ []) [] nil x (all_append (printed n few).all (wide_all k 0)) (one refl none)
      (ap (λ (l : List ℕ). leb 1 (length l)) (append_assoc (digits n) (wide k 0) (48 ∷ [])) ∙ some_more n (wide k 0 ++ (48 ∷ [])) few) unscaled
      (ap real_kept (full_held neg n few no-zero-last k ∙ ap (λ (t : Bool). record { number = x.number; power = record { minus = t; size = k } }) (sym e)) ∙ kept))

  plain_shown : x.power.minus ≡ true → Shown (plain_bytes n k)
  plain_shown e = go k refl
    where
      go : (j : ℕ) → k ≡ j → Shown (plain_bytes n j)
      go zero q = absurd (true≢false (sym e ∙ h.power.zero_plain q))
      go (suc j) q =
          subst (λ (l : List ℕ). Shown (digits (n / 10 ^ suc j) ++ (46 ∷ l))) (append-nil (wide (suc j) n))
          (read_as off neg (digits (n / 10 ^ suc j)) (wide (suc j) n) [] nil x (printed (n / 10 ^ suc j) (fewer n (suc j) few)).all (wide_all (suc j) n)
          (some_more (n / 10 ^ suc j) (wide (suc j) n) (fewer n (suc j) few)) unscaled
          (ap real_kept (plain_held neg n few no-zero-last j ∙ ap₂ (λ (t : Bool) (i : ℕ). record { number = x.number; power = record { minus = t; size = i } }) (sym e) (sym q)) ∙ kept))

  shown : Shown (unsigned_bytes n x.power)
  shown =
      cond-case Shown (x.power.minus && leb k 18) _ _ (λ e. plain_shown (and_left x.power.minus (leb k 18) e))
      (λ e. cond-case Shown (not x.power.minus && leb (length (digits n) + k) 18) _ _ (λ f. full_shown (as_not x.power.minus (and_left (not x.power.minus) _ f))) (λ f. scaled_shown))

-- ---- a real reads back

-- Zero is `0.0`.
pub zero_written : real_bytes (record { number = nil; power = nil }) ≡ ascii "0.0"
unfolding digits unpadded wide
zero_written = refl

zero_form : (off : Bool) → Form the_rules off (real_bytes (record { number = nil; power = nil })) (real (record { number = nil; power = nil }))
zero_form off =
    subst (λ (w : List ℕ). Form the_rules off w (real (record { number = nil; power = nil }))) (sym zero_written)
    (read_as off false (48 ∷ []) (48 ∷ []) [] nil _ (one refl none) (one refl none) refl unscaled refl)

is_the_nil : (w : Whole) → w.size ≡ 0 → (w.size ≡ 0 → w.minus ≡ false) → nil ≡ w
is_the_nil w e f = ap₂ (λ (t : Bool) (i : ℕ). record { minus = t; size = i }) (sym (f e)) (sym e)

pub real_form : (off : Bool) (x : Real) → RealHeld x → Form the_rules off (real_bytes x) (real x)
real_form off x h = go (ℕ_discrete (x.number.size % 10) 0)
  where
    go : Dec (x.number.size % 10 ≡ 0) → Form the_rules off (real_bytes x) (real x)
    go (yes e) =
        let z = h.no_trailing_zero e in
        let same : ◌≡◌ {A = Real} (record { number = nil; power = nil }) x =
        ap₂ (λ (u v : Whole). record { number = u; power = v }) (is_the_nil x.number z.0 h.number.zero_plain) (is_the_nil x.power z.1 h.power.zero_plain) in
        subst (λ (y : Real). Form the_rules off (real_bytes y) (real y)) same (zero_form off)
    go (no no-zero-last) = shown off x h no-zero-last
