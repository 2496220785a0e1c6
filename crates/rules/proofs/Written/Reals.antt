-- The laws of a written real: equal bytes exactly for equal reals, a digit before the period, and no `E` before a power of 0. That it reads back to its
-- number and power is PrintedReals.real-form.
use Prim.Native.Nat.{ℕ, ◌+◌, ◌/◌, ◌^◌, ◌<◌}
use mathlib.Core.Path.{◌≡◌, sym, ap, subst, ◌∙◌}
use mathlib.Core.Bool.{true, not, ◌&&◌, false≢true}
use mathlib.Core.Logic.{◌↔◌}
use mathlib.Core.List.{List, [], ◌∷◌, ◌++◌}
use native.Mathlib.Omega.{arith}
use borrow.Author.Tests.{le-leb}
use lib.Dec.{leb}
use lib.ListN.{length}
use Rattle.rules.specs.Bytes.{digit, front, All, one}
use Rattle.rules.specs.Data.{Real, real}
use Rattle.rules.specs.Proper.{the_rules}
use Rattle.rules.specs.Words.{Form}
use Rattle.rules.specs.Written.{digits, plain_bytes, full_bytes, scaled_bytes, minus_only, unsigned_bytes, real_bytes}
use Rattle.rules.proofs.Machine.Limits.{RealHeld}
use Rattle.rules.proofs.Machine.Words.{WordVerdict, is}
use Rattle.rules.proofs.Elements.Pieces.{form_once}
use Rattle.rules.proofs.Tables.Tests.{cond-case}
use Rattle.rules.proofs.Written.PrintedNumbers.{fewer, printed, some_digits, few_digits}
use Rattle.rules.proofs.Written.PrintedReals.{real_form}

-- ---- equal bytes, equal reals

real_same : {x y : Real} → ◌≡◌ {A = WordVerdict} (is (real x)) (is (real y)) → x ≡ y
real_same e = cc

pub equal_reals : (x y : Real) → RealHeld x → RealHeld y → (real_bytes x ≡ real_bytes y) ↔ (x ≡ y)
equal_reals x y h g = (to, ap real_bytes)
  where
    to : real_bytes x ≡ real_bytes y → x ≡ y
    to e =
        let f : Form the_rules true (real_bytes y) (real x) = subst (λ (w : List ℕ). Form the_rules true w (real x)) e (real_form true x h) in
        real_same (sym (form_once f) ∙ form_once (real_form true y g))

-- ---- a digit before the period

front_digit : (s t : List ℕ) → All digit s → leb 1 (length s) ≡ true → front digit (s ++ t) ≡ true
front_digit [] t a l = absurd (false≢true l)
front_digit (d ∷ s) t (one h hs) l = h

digits_front : (n : ℕ) (t : List ℕ) → n < 10 ^ 20 → front digit (digits n ++ t) ≡ true
digits_front n t h = front_digit (digits n) t (printed n h).all (some_digits n (digits n) (printed n h))

-- with at least one digit before the period: behind its sign a real begins with a digit
pub digit_before : (x : Real) → RealHeld x → front digit (unsigned_bytes x.number.size x.power) ≡ true
digit_before x h =
    let n : ℕ = x.number.size in
    let k : ℕ = x.power.size in
    let few : n < 10 ^ 20 = omega (arith, h.number.below) in
    cond-case (λ w. front digit w ≡ true) (x.power.minus && leb k 18) (plain_bytes n k) _ (λ e. digits_front (n / 10 ^ k) _ (fewer n k few))
    (λ e. cond-case (λ w. front digit w ≡ true) (not x.power.minus && leb (length (digits n) + k) 18) (full_bytes n k) (scaled_bytes n x.power) (λ f. digits_front n _ few) (λ f. digits_front n _ few))

-- ---- no `E` before a power of 0

-- a number of at most 18 digits is written with all of them where the power is 0
pub no_power : (x : Real) → RealHeld x → x.power.size ≡ 0 → real_bytes x ≡ minus_only x.number.minus ++ full_bytes x.number.size 0
no_power x h e =
    let n : ℕ = x.number.size in
    let s : leb (length (digits n) + 0) 18 ≡ true = le-leb (length (digits n) + 0) 18 (omega (arith, few_digits 18 n (omega arith) (omega arith) h.number.below)) in
    rw (h.power.zero_plain e, e, s)
