-- Digits of a number, from the last one on: k of them, how many there are, and those of a fraction.
use Prim.Native.Nat.{ℕ, zero, suc, ◌+◌, ◌-◌, ◌*◌, ◌/◌, ◌%◌, ◌^◌, ◌≤◌, ◌<◌, min}
use Rattle.std.specs.Prelude.{Some, None}
use mathlib.Core.Path.{◌≡◌, refl, ap, sym, ◌∙◌}
use mathlib.Core.Bool.{and-false}
use mathlib.Core.List.{List, [], ◌∷◌, ◌++◌}
use native.Mathlib.Nat.{pow-suc, pow-succ', div-lt_iff_lt-mul, div-div-eq-div-mul, le_refl}
use native.Mathlib.Decide.{dec_le}
use native.Mathlib.Numerals.{add-one}
use lib.Arith.{lt_of_le-ne}
use native.Mathlib.Omega.{arith}
use borrow.Author.Tests.{ne_eqb}
use lib.Dec.{eqb}
use lib.ListN.{length, set, take, drop, length-set, drop_of_length-le}
use lib.Seq.{drop-cons, drop-set-lt, get_or-set_same, take_all, take-append-le}
use Rattle.rules.specs.Values.{significant}
use Rattle.rules.specs.Written.{wide, unpadded, digits}
use Rattle.rules.proofs.Tables.Numbers.{pow_positive}
use Rattle.rules.proofs.Written.PrintedNumbers.{wide_length, tenth, last_digit, unpad, significant_whole}
use Rattle.rules.proofs.Words.Worth.{zeros_behind}
use Rattle.output.specs.Puts.{Puts}
use Rattle.numerals.specs.Counts.{Counted, Trimmed}

-- ---- a number without its last digits

-- i of them are gone
pub record Fewer (n v i : ℕ) : Type 0 where
  pub value : v ≡ n / 10 ^ i

pub fewer_start : (n : ℕ) → Fewer n n 0
fewer_start n = record { value = omega arith }

div_ten : (n k : ℕ) → n / 10 ^ k / 10 ≡ n / 10 ^ suc k
div_ten n k = div-div-eq-div-mul n (10 ^ k) 10 ∙ ap (λ (i : ℕ). n / i) (sym (pow-suc 10 k))

pub fewer_turn : (n v i : ℕ) → Fewer n v i → Fewer n (v / 10) (i + 1)
fewer_turn n v i f = record { value = rw (add-one, f.value) (div_ten n i) }

pub fewer_end : (n k v i : ℕ) → Fewer n v i → i ≡ k → v ≡ n / 10 ^ k
fewer_end n k v i f h = rw h at f.value

-- ---- k digits, the last one first

-- so many digits of a number fit the room, and those from the i-th on stand there
pub record Wide (k n : ℕ) (room out : List ℕ) (v i : ℕ) : Type 0 where
  pub within : i ≤ k
  pub fits : k ≤ length room
  pub long : length out ≡ length room
  pub rest : drop i out ≡ wide (k - i) n ++ drop k room
  pub value : v ≡ n / 10 ^ (k - i)

pub wide_start : (k n : ℕ) (room : List ℕ) (e v : ℕ) → e ≡ min k (length room) → v ≡ n / 10 ^ (k - e) → Wide e (n / 10 ^ (k - e)) room room v e
unfolding wide
wide_start k n room e v h g =
    let a : e - e ≡ 0 = omega arith in
    record { within = omega arith; fits = omega arith; long = refl; rest = rw a; value = rw (a, g) (omega arith) }

digit_first : (k n : ℕ) → wide (suc k) n ≡ (48 + n / 10 ^ k % 10) ∷ wide k n
unfolding wide
digit_first k n = refl

pub wide_turn : (k n : ℕ) (room out : List ℕ) (v i : ℕ) → Wide k n room out v i → 0 < i → Wide k n room (set out (i - 1) (48 + v % 10)) (v / 10) (i - 1)
wide_turn k n room out v i w h =
    let e : k - (i - 1) ≡ suc (k - i) = omega (arith, w.within) in
    let b : i - 1 < length out = omega (arith, w.within, w.fits, w.long) in
    let s : suc (i - 1) ≡ i = omega arith in
    let d : drop (i - 1) (set out (i - 1) (48 + v % 10)) ≡ (48 + v % 10) ∷ drop i out =
    drop-cons (set out (i - 1) (48 + v % 10)) (i - 1) 0 (rw (length-set out (i - 1) (48 + v % 10)) b) ∙ rw (get_or-set_same out (i - 1) (48 + v % 10) 0 b, s, drop-set-lt i out (i - 1) (48 + v % 10) (omega arith)) in
    record {
      within = omega (arith, w.within);
      fits = w.fits;
      long = length-set out (i - 1) (48 + v % 10) ∙ w.long;
      rest = d ∙ rw (e, digit_first, w.rest, w.value);
      value = rw (e, w.value) (div_ten n (k - i));
    }

-- the first digits are those of the number without its last
first_digits : (e j n : ℕ) → take e (wide (e + j) n) ≡ wide e (n / 10 ^ j)
first_digits e zero n =
    let a : e + 0 ≡ e = omega arith in
    let b : n / 10 ^ 0 ≡ n = omega arith in
    rw (a, b) (take_all e (wide e n) (rw (wide_length e n) (le_refl e)))
first_digits e (suc j) n =
    let a : e + suc j ≡ suc (e + j) = omega arith in
    let c : e ≤ length (wide (e + j) (n / 10)) = rw (wide_length (e + j) (n / 10)) (omega arith) in
    rw (a, tenth n j, last_digit, take-append-le e (wide (e + j) (n / 10)) ((48 + n % 10) ∷ []) c) (first_digits e j (n / 10))

pub wide_end : (k n : ℕ) (room out : List ℕ) (e v i : ℕ) → e ≡ min k (length room) → Wide e (n / 10 ^ (k - e)) room out v i → i ≤ 0 → Puts (wide k n) room out k × (k ≡ k)
wide_end k n room out e v i h w z = (record { count = sym (wide_length k n); bytes = stands ∙ rw (wide_length k n) (go (dec_le k (length room))) }, refl)
  where
    stands : out ≡ wide e (n / 10 ^ (k - e)) ++ drop e room
    stands =
        let a : i ≡ 0 = omega arith in
        let b : e - 0 ≡ e = omega arith in
        rw (a, b) at w.rest

    go : Dec (k ≤ length room) → wide e (n / 10 ^ (k - e)) ++ drop e room ≡ take (length room) (wide k n) ++ drop k room
    go (yes f) =
        let a : e ≡ k = omega arith in
        let b : k - k ≡ 0 = omega arith in
        let c : n / 10 ^ 0 ≡ n = omega arith in
        rw (a, b, c, take_all (length room) (wide k n) (rw (wide_length k n) f))
    go (no f) =
        let a : e ≡ length room = omega arith in
        let b : length room + (k - length room) ≡ k = omega arith in
        let c : take (length room) (wide k n) ≡ wide (length room) (n / 10 ^ (k - length room)) = rw (b) at (first_digits (length room) (k - length room) n) in
        rw (a, c, drop_of_length-le room {i = length room} (le_refl _), drop_of_length-le room {i = k} (omega arith))

-- ---- how many digits a number has

-- a number's own digits, as a last or a first one is not 0
top_not : (k n : ℕ) → (1 ≤ k → 1 ≤ n / 10 ^ k) → n / 10 ^ k < 10 → unpadded (wide (suc k) n) ≡ wide (suc k) n
unfolding wide unpadded
top_not zero n g h = rw (and-false (eqb (48 + n / 10 ^ 0 % 10) 48))
top_not (suc k) n g h =
    let q : 1 ≤ n / 10 ^ suc k = g (omega arith) in
    rw (ne_eqb (48 + n / 10 ^ suc k % 10) 48 (λ e. omega arith))

pub record Counting (n v k : ℕ) : Type 0 where
  pub value : v ≡ n / 10 ^ (k - 1)
  pub some : 1 ≤ k
  pub most : k ≤ 20
  pub leads : 2 ≤ k → 1 ≤ v

pub count_start : (n : ℕ) → Counting n n 1
count_start n = record { value = omega arith; some = omega arith; most = omega arith; leads = λ h. absurd (omega arith) }

pub count_turn : (n v k : ℕ) → Counting n v k → n < 18446744073709551616 → 10 ≤ v → Counting n (v / 10) (k + 1)
count_turn n v k c b h =
    let e : k + 1 - 1 ≡ suc (k - 1) = omega (arith, c.some) in
    let f : k < 20 = lt_of_le-ne c.most (λ q. let z : v ≡ n / 10 ^ 19 = rw q at c.value in omega arith) in
    record { value = rw (e, c.value) (div_ten n (k - 1)); some = omega arith; most = omega arith; leads = λ g. omega arith }

pub count_less : (n v k : ℕ) → Counting n v k → n < 18446744073709551616 → k < 18446744073709551615
count_less n v k c b = omega (arith, c.most)

pub count_end : (n v k : ℕ) → Counting n v k → v < 10 → Counted n k
unfolding digits
count_end n v zero c h = absurd (omega (arith, c.some))
count_end n v (suc k) c h =
    let d : suc k - 1 ≡ k = omega arith in
    let e : v ≡ n / 10 ^ k = rw d at c.value in
    let p : 0 < 10 ^ k = pow_positive 10 k (omega arith) in
    let q : n / 10 ^ k < 10 = omega arith in
    let l : n < 10 * 10 ^ k = (div-lt_iff_lt-mul p).0 q in
    let b : n < 10 ^ suc k = rw (pow-succ' 10 k) l in
    let s : 20 - suc k + suc k ≡ 20 = omega (arith, c.most) in
    record { are = ap (λ (i : ℕ). unpadded (wide i n)) (sym s) ∙ unpad (20 - suc k) (suc k) n (omega arith) b ∙ top_not k n (λ g. rw (← e) (c.leads (omega arith))) q; most = c.most }

-- ---- decimals without the zeros that end them

-- as many as k are left
pub record Trimming (n v k : ℕ) : Type 0 where
  pub most : k ≤ 9
  pub rest : significant (wide 9 n) ≡ significant (wide k v)

pub trim_start : (n : ℕ) → Trimming n n 9
trim_start n = record { most = omega arith; rest = refl }

-- the loop's number is one more than the turn's
counted_down : (k : ℕ) → 0 < k → k ≡ k - 1 + 1
counted_down k h = omega arith

pub trim_turn : (n v k : ℕ) → Trimming n v k → 0 < k → v % 10 ≡ 0 → Trimming n (v / 10) (k - 1)
trim_turn n v k t h e =
    let r : significant (wide 9 n) ≡ significant (wide (suc (k - 1)) v) = rw (counted_down k h, add-one) at t.rest in
    record { most = omega (arith, t.most); rest = r ∙ rw (last_digit (k - 1) v, e) (zeros_behind (wide (k - 1) (v / 10)) (48 ∷ []) refl) }

pub trim_end : (n v k : ℕ) → Trimming n v k → 0 < k → (v % 10 ≡ 0 → ⊥) → Trimmed n (Some (record { size = k - 1 + 1; value = v }))
trim_end n v k t h e =
    let r : significant (wide 9 n) ≡ significant (wide (suc (k - 1)) v) = rw (counted_down k h, add-one) at t.rest in
    record {
      are = r ∙ rw (add-one, last_digit (k - 1) v) (significant_whole (wide (k - 1) (v / 10)) (48 + v % 10) (ne_eqb (48 + v % 10) 48 (λ q. e (omega arith))));
      some = (omega arith, omega (arith, t.most));
    }

pub trim_none : (n v k : ℕ) → Trimming n v k → k ≤ 0 → Trimmed n None
unfolding wide
trim_none n v k t h =
    let e : k ≡ 0 = omega arith in
    let r : significant (wide 9 n) ≡ significant (wide 0 v) = rw e at t.rest in
    record { are = r; some = tt }
