-- Numbers, dates and times are written in word bytes.
use Prim.Native.Nat.{ℕ, suc, ◌+◌, ◌/◌, ◌%◌, ◌^◌, ◌<◌}
use mathlib.Core.Path.{◌≡◌, refl}
use mathlib.Core.Bool.{Bool, true, false, cond, not, ◌&&◌, false≢true}
use mathlib.Core.List.{List, [], ◌∷◌, ◌++◌}
use native.Mathlib.Omega.{arith}
use borrow.Author.Tests.{le-leb}
use lib.Dec.{leb, eqb}
use lib.ListN.{length}
use Rattle.rules.specs.Values.{significant}
use Rattle.rules.specs.Written.{digits, wide, minus_only, decimal, plain_bytes, full_bytes, scaled_bytes, real_bytes, date_bytes, fraction, time_bytes}
use Rattle.rules.specs.Bytes.{digit, letter, word_byte, All, none, one}
use Rattle.rules.specs.Data.{Whole, Real, Moment}
use Rattle.rules.proofs.Tables.Tests.{all_append, or_second, cond-case}
use Rattle.rules.proofs.Machine.Limits.{RealHeld}
use Rattle.rules.proofs.Tables.Contents.{alnum_word}
use Rattle.rules.proofs.Written.PrintedNumbers.{fewer, printed, some_digits, wide_all, wide_length}
use Rattle.rules.proofs.Written.GivenMoments.{given_zone, given_bytes}
use Rattle.rules.proofs.Written.PrintedMoments.{significant_all}

digit_word : (b : ℕ) → digit b ≡ true → word_byte b ≡ true
digit_word b h = alnum_word b (or_second (letter b) (digit b) h)

all_word : {s : List ℕ} → All digit s → All word_byte s
all_word none = none
all_word (one {b} h hs) = one (digit_word b h) (all_word hs)

-- all word bytes, and at least one
pub record Wordy (s : List ℕ) : Type 0 where
  pub letters : All word_byte s
  pub some : leb 1 (length s) ≡ true

wordy_cons : (b : ℕ) (s : List ℕ) → word_byte b ≡ true → All word_byte s → Wordy (b ∷ s)
wordy_cons b s h k = record { letters = one h k; some = le-leb 1 (suc (length s)) (omega arith) }

wordy_more : (s t : List ℕ) → Wordy s → All word_byte t → Wordy (s ++ t)
wordy_more [] t w k = absurd (false≢true w.some)
wordy_more (b ∷ s) t w k = record { letters = all_append w.letters k; some = le-leb 1 (suc (length (s ++ t))) (omega arith) }

digits_wordy : (n : ℕ) → n < 10 ^ 20 → Wordy (digits n)
digits_wordy n h = record { letters = all_word (printed n h).all; some = some_digits n (digits n) (printed n h) }

wide_word : (k n : ℕ) → All word_byte (wide k n)
wide_word k n = all_word (wide_all k n)

sign_wordy : (b : Bool) {s : List ℕ} → Wordy s → Wordy (minus_only b ++ s)
sign_wordy true {s} h = wordy_cons 45 s refl h.letters
sign_wordy false h = h

pub decimal_wordy : (w : Whole) → w.size < 10 ^ 20 → Wordy (decimal w)
decimal_wordy w h = sign_wordy w.minus (digits_wordy w.size h)

pub real_wordy : (x : Real) → RealHeld x → Wordy (real_bytes x)
real_wordy x h =
    let n : ℕ = x.number.size in
    let few : n < 10 ^ 20 = omega (arith, h.number.below) in
    let k : ℕ = x.power.size in
    let plain : Wordy (plain_bytes n k) = wordy_more (digits (n / 10 ^ k)) _ (digits_wordy (n / 10 ^ k) (fewer n k few)) (one refl (wide_word k n)) in
    let full : Wordy (full_bytes n k) = wordy_more (digits n) _ (digits_wordy n few) (all_append (wide_word k 0) (one refl (one refl none))) in
    let scaled : Wordy (scaled_bytes n x.power) = wordy_more (digits n) _ (digits_wordy n few) (one refl (one refl (decimal_wordy x.power (omega (arith, h.power.below))).letters)) in
    sign_wordy x.number.minus (cond-case Wordy (x.power.minus && leb k 18) _ _ (λ e. plain) (λ e. cond-case Wordy (not x.power.minus && leb (length (digits n) + k) 18) _ _ (λ f. full) (λ f. scaled)))

wide_wordy : (k n : ℕ) → Wordy (wide (suc k) n)
wide_wordy k n = record { letters = wide_word (suc k) n; some = le-leb 1 (length (wide (suc k) n)) (omega (arith, wide_length (suc k) n)) }

date_wordy : (t : Moment) → Wordy (date_bytes t)
date_wordy t = wordy_more (wide 4 t.year) _ (wide_wordy 3 t.year) (one refl (all_append (wide_word 2 t.month) (one refl (wide_word 2 t.day))))

fraction_word : (f : List ℕ) → All word_byte f → All word_byte (fraction f)
fraction_word [] none = none
fraction_word (b ∷ f) h = one refl h

sign_word : (b : Bool) → word_byte (cond b 45 43) ≡ true
sign_word true = refl
sign_word false = refl

zone_word : (k : ℕ) (w : Whole) → All word_byte (given_zone k w)
zone_word k w =
    cond-case (All word_byte) (eqb k 0) _ _ (λ e. none)
    (λ e. cond-case (All word_byte) (eqb k 1) _ _ (λ f. one refl none)
    (λ f. one (sign_word w.minus) (all_append (wide_word 2 (w.size / 60)) (one refl (wide_word 2 (w.size % 60))))))

time_wordy : (t : Moment) → Wordy (time_bytes (given_zone t.mark t.offset) t)
time_wordy t =
    wordy_more (wide 2 t.hour) _ (wide_wordy 1 t.hour)
    (one refl (all_append (wide_word 2 t.minute) (one refl (all_append (wide_word 2 t.second)
    (all_append (fraction_word (significant (wide 9 t.nanoseconds)) (all_word (significant_all (wide 9 t.nanoseconds) (wide_all 9 t.nanoseconds)))) (zone_word t.mark t.offset))))))

pub given_wordy : (t : Moment) → Wordy (given_bytes t)
given_wordy t =
    cond-case Wordy (eqb t.parts 1) _ _ (λ e. date_wordy t)
    (λ e. cond-case Wordy (eqb t.parts 2) _ _ (λ f. time_wordy t) (λ f. wordy_more (date_bytes t) _ (date_wordy t) (one refl (time_wordy t).letters)))
