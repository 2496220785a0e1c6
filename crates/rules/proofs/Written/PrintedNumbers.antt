-- Digits as they are written stand for their number, and integers as they are written are words as they are read.
use Prim.Native.Nat.{ℕ, zero, suc, ◌+◌, ◌-◌, ◌*◌, ◌/◌, ◌%◌, ◌^◌, ◌≤◌, ◌<◌}
use mathlib.Core.Path.{◌≡◌, refl, sym, ap, ◌∙◌, subst}
use mathlib.Core.Bool.{Bool, true, false, cond, not, ◌&&◌, true≢false, and-false}
use mathlib.Core.List.{List, [], ◌∷◌, ◌++◌, map}
use native.Mathlib.Nat.{mod-lt, mod-eq_of_lt, pow-succ', pow-le-pow_right, div-le_self, div-lt_iff_lt-mul, div-div-eq-div-mul, zero-div, zero-mul, zero-add, suc-add, le_refl}
use native.Mathlib.Omega.{arith}
use borrow.Author.Tests.{lt-ltb, le-leb, eqb-true, eq-eqb, ne_eqb}
use lib.Dec.{leb, eqb}
use lib.ListN.{length, length-append}
use Rattle.rules.specs.Bytes.{digit, All, none, one}
use Rattle.rules.specs.Data.{Whole, integer}
use Rattle.rules.specs.Proper.{the_rules}
use Rattle.rules.specs.Words.{Sign, unsigned, minus, Unsigned, Integer, signed_digits, integer_word, Form}
use Rattle.rules.specs.Values.{a_whole, onto, number, signed, within, significant}
use Rattle.rules.specs.Written.{unpadded, digits, wide, minus_only, decimal}
use Rattle.rules.proofs.Tables.Numbers.{wide_places, places, value_onto, pow_positive, places_value}
use Rattle.rules.proofs.Machine.Limits.{Within}
use Rattle.rules.proofs.Tables.Tests.{cond-case, and_left, between_in}
use Rattle.rules.proofs.Words.Worth.{noughts, digit_behind}

-- ---- digits

digit_in : (d : ℕ) → d < 10 → digit (48 + d) ≡ true
digit_in d h = between_in 48 57 (48 + d) (omega arith) (omega arith)

-- the digits of a number: all digits, the last one known, and they stand for the number
pub record Prints (n : ℕ) (s : List ℕ) : Type 0 where
  pub front : List ℕ
  pub split : s ≡ front ++ ((48 + n % 10) ∷ [])
  pub all : All digit s
  pub stands : number s ≡ n

wide_onto : (a : ℕ) (s : List ℕ) → onto a (map (λ d. 48 + d) s) ≡ value_onto 10 a s
unfolding value_onto
wide_onto a [] = refl
wide_onto a (d ∷ s) =
    let e : a * 10 + (48 + d - 48) ≡ a * 10 + d = omega arith in
    ap (λ (i : ℕ). onto i (map (λ d. 48 + d) s)) e ∙ wide_onto (a * 10 + d) s

-- the last `k` digits of a number, behind those that gave `a`
pub wide_value : (a k n : ℕ) → onto a (wide k n) ≡ a * 10 ^ k + n % 10 ^ k
wide_value a k n = ap (onto a) (wide_places k n) ∙ wide_onto a (places 10 k n) ∙ places_value 10 (omega arith) k a n

pub wide_number : (k n : ℕ) → n < 10 ^ k → number (wide k n) ≡ n
wide_number k n h = wide_value 0 k n ∙ rw (zero-mul, zero-add, mod-eq_of_lt h)

pub wide_all : (k n : ℕ) → All digit (wide k n)
unfolding wide
wide_all zero n = none
wide_all (suc k) n = one (digit_in (n / 10 ^ k % 10) (omega (arith, mod-lt (n / 10 ^ k) {m = 10} (omega arith)))) (wide_all k n)

pub wide_length : (k n : ℕ) → length (wide k n) ≡ k
unfolding wide
wide_length zero n = refl
wide_length (suc k) n = ap suc (wide_length k n)

unpadded_all : (s : List ℕ) → All digit s → All digit (unpadded s)
unfolding unpadded
unpadded_all [] none = none
unpadded_all (d ∷ s) (one h hs) = cond-case (All digit) (eqb d 48 && leb 1 (length s)) _ _ (λ e. unpadded_all s hs) (λ e. one h hs)

unpadded_number : (s : List ℕ) → number (unpadded s) ≡ number s
unfolding unpadded
unpadded_number [] = refl
unpadded_number (d ∷ s) =
    cond-case (λ l. number l ≡ number (d ∷ s)) (eqb d 48 && leb 1 (length s)) _ _
    (λ e. let f : 0 ≡ 0 * 10 + (d - 48) = omega (arith, eqb-true d 48 (and_left (eqb d 48) _ e)) in unpadded_number s ∙ ap (λ (i : ℕ). onto i s) f) (λ e. refl)

-- digits that end with `x`
abbrev EndsWith : ℕ → List ℕ → Type 0
EndsWith x s = (f : List ℕ) × (s ≡ f ++ (x ∷ []))

unpadded_last : (x : ℕ) (f : List ℕ) → EndsWith x (unpadded (f ++ (x ∷ [])))
unfolding unpadded
unpadded_last x [] = ([], ap (λ (t : Bool). cond t (unpadded []) (x ∷ [])) (and-false (eqb x 48)))
unpadded_last x (d ∷ f) = cond-case (EndsWith x) (eqb d 48 && leb 1 (length (f ++ (x ∷ [])))) _ _ (λ e. unpadded_last x f) (λ e. (d ∷ f, refl))

-- digits dropped, the last one first
pub tenth : (n k : ℕ) → n / 10 ^ suc k ≡ n / 10 / 10 ^ k
tenth n k = ap (λ (i : ℕ). n / i) (pow-succ' 10 k) ∙ sym (div-div-eq-div-mul n 10 (10 ^ k))

pub last_digit : (k n : ℕ) → wide (suc k) n ≡ wide k (n / 10) ++ ((48 + n % 10) ∷ [])
unfolding wide
last_digit zero n = let e : n / 10 ^ 0 ≡ n = omega arith in rw e
last_digit (suc k) n = rw (tenth n k) (ap (λ (l : List ℕ). (48 + n / 10 / 10 ^ k % 10) ∷ l) (last_digit k n))

pub printed : (n : ℕ) → n < 10 ^ 20 → Prints n (digits n)
unfolding digits
printed n h =
    let l : EndsWith (48 + n % 10) (unpadded (wide 20 n)) = subst (λ (s : List ℕ). EndsWith (48 + n % 10) (unpadded s)) (sym (last_digit 19 n)) (unpadded_last (48 + n % 10) (wide 19 (n / 10))) in
    record { front = l.0; split = l.1; all = unpadded_all (wide 20 n) (wide_all 20 n); stands = unpadded_number (wide 20 n) ∙ wide_number 20 n h }

pub some_digits : (n : ℕ) (s : List ℕ) → Prints n s → leb 1 (length s) ≡ true
some_digits n s p = le-leb 1 (length s) (rw p.split (simp length-append (omega arith)))

unsigned_digits : (n : ℕ) → n < 10 ^ 20 → Unsigned (digits n)
unsigned_digits n h = record { all = (printed n h).all; some = some_digits n (digits n) (printed n h) }

-- ---- how many digits

-- the zeros that begin a number
top_zero : (k n : ℕ) → 1 ≤ k → n < 10 ^ k → unpadded (wide (suc k) n) ≡ unpadded (wide k n)
unfolding wide unpadded
top_zero k n o h =
    let p : 0 < 10 ^ k = pow_positive 10 k (omega arith) in
    let z : n / 10 ^ k < 1 = (div-lt_iff_lt-mul p).1 (omega arith) in
    let d : 48 + n / 10 ^ k % 10 ≡ 48 = omega arith in
    rw (eq-eqb (48 + n / 10 ^ k % 10) 48 d, wide_length k n, le-leb 1 k o)

pub unpad : (m k n : ℕ) → 1 ≤ k → n < 10 ^ k → unpadded (wide (m + k) n) ≡ unpadded (wide k n)
unpad zero k n o h = ap (λ (i : ℕ). unpadded (wide i n)) (zero-add k)
unpad (suc m) k n o h =
    let g : 10 ^ k ≤ 10 ^ (m + k) = pow-le-pow_right (omega arith) (omega arith) in
    ap (λ (i : ℕ). unpadded (wide i n)) (suc-add m k) ∙ top_zero (m + k) n (omega arith) (omega arith) ∙ unpad m k n o h

unpadded_length : (s : List ℕ) → length (unpadded s) ≤ length s
unfolding unpadded
unpadded_length [] = le_refl 0
unpadded_length (d ∷ s) = cond-case (λ l. length l ≤ suc (length s)) (eqb d 48 && leb 1 (length s)) (unpadded s) (d ∷ s) (λ e. omega (arith, unpadded_length s)) (λ e. le_refl _)

-- a number below 10 ^ k has at most k digits
pub few_digits : (k n : ℕ) → 1 ≤ k → k ≤ 20 → n < 10 ^ k → length (digits n) ≤ k
unfolding digits
few_digits k n o h b =
    let s : 20 - k + k ≡ 20 = omega arith in
    let e : digits n ≡ unpadded (wide k n) = ap (λ (i : ℕ). unpadded (wide i n)) (sym s) ∙ unpad (20 - k) k n o b in
    rw e (omega (arith, unpadded_length (wide k n), wide_length k n))

-- a number without its last digits has no more of them
pub fewer : (n k : ℕ) → n < 10 ^ 20 → n / 10 ^ k < 10 ^ 20
fewer n k h = omega (arith, h, div-le_self n (10 ^ k))

-- ---- digits and zeros

-- digits that end in no zero are all significant
pub significant_whole : (a : List ℕ) (c : ℕ) → eqb c 48 ≡ false → significant (a ++ (c ∷ [])) ≡ a ++ (c ∷ [])
significant_whole a c h = digit_behind a (c ∷ []) (rw h) ∙ rw h

pub zeros_nought : (k : ℕ) → noughts (wide k 0) ≡ true
unfolding wide
zeros_nought zero = refl
zeros_nought (suc k) = rw (zero-div, zeros_nought k)

-- ---- integers

pub signed_plain : (b : Bool) (n : ℕ) → (n ≡ 0 → b ≡ false) → signed b n ≡ record { minus = b; size = n }
signed_plain false n h = refl
signed_plain true n h = ap (λ (t : Bool). record { minus = t; size = n }) (ap not (ne_eqb n 0 (λ e. true≢false (h e))))

-- a minus sign or none
pub sign_printed : (b : Bool) → Sign (minus_only b) b
sign_printed true = minus
sign_printed false = unsigned

integer_printed : (b : Bool) (n : ℕ) → n < 10 ^ 20 → Integer (minus_only b ++ digits n) (signed b n)
integer_printed b n h = subst (λ (i : ℕ). Integer (minus_only b ++ digits n) (signed b i)) (printed n h).stands (signed_digits (sign_printed b) (unsigned_digits n h))

pub whole_printed : (w : Whole) (m : ℕ) → Within m w → m ≤ 10 ^ 20 → Integer (decimal w) w
whole_printed w m h k =
    subst (Integer (decimal w)) (signed_plain w.minus w.size h.zero_plain) (integer_printed w.minus w.size (omega (arith, h.below)))

pub integer_form : (off : Bool) (w : Whole) → Within (2 ^ 63) w → Form the_rules off (decimal w) (integer w)
integer_form off w h =
    (a_whole w, integer_word (whole_printed w (2 ^ 63) h (omega arith)), ap (λ (t : Bool). within t (integer w)) (lt-ltb w.size (2 ^ 63) h.below))
