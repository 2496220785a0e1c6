-- Terms of the contracts of private functions: what a part of a word comes to.
use Rattle.std.specs.Prelude.{ℕ, ◌+◌, ◌-◌, ◌^◌, ◌≤◌, min, Bool, cond, ◌≡◌, List, ltb, length, take, Option, Some, None}
use Rattle.std.proofs.Math.Option.{some}
use Rattle.rules.specs.Data.{Whole, real}
use Rattle.rules.specs.Modes.{base}
use Rattle.rules.specs.Values.{worth, in_base, each, significant, signed, moved, real_kept, then}
use Rattle.rules.proofs.Machine.Words.{limited, shaped}
use Rattle.forms.specs.declared.Form.{Form}
use Rattle.forms.specs.Forms.{written}
use Rattle.words.specs.Says.{Answer, verdict_of}

-- the number of extended digits; none from 2^63 on, or where a digit is not below the radix
unfoldable pub based : ℕ → List ℕ → Option ℕ
based r ds = cond (each (λ d. ltb (worth d) r) ds) (cond (ltb (in_base r 0 ds) 9223372036854775808) (Some (in_base r 0 ds)) None) None

-- the digits without the zeros that end them are the first r
pub record Significant (s : List ℕ) (r : ℕ) : Type 0 where
  pub within : r ≤ length s
  pub is : significant s ≡ take r s

-- the answer to a real of this number and power
pub record RealIs (n : Whole) (p : Whole) (r : Answer) : Type 0 where
  pub worth : (w : List ℕ) (off : Bool) →
      limited (then (real_kept (record { number = n; power = p })) (λ x. some (real x))) ≡ verdict_of w off r

-- of a number held to 10^18, and of a power given as a difference
pub record Finished (neg : Bool) (m plus minus : ℕ) (r : Answer) : Type 0 where
  pub worth : (n : ℕ) → m ≡ min (10 ^ 18) n → RealIs (signed neg n) (signed (ltb plus minus) ((plus - minus) + (minus - plus))) r

-- of a number held to 10^18, and of an exponent held to a million
pub record Scaled (neg : Bool) (m : ℕ) (below : Bool) (scale up down : ℕ) (r : Answer) : Type 0 where
  pub worth : (n z : ℕ) → m ≡ min (10 ^ 18) n → scale ≡ min 1000000 z → RealIs (signed neg n) (moved (signed below z) up down) r

-- the answer to a form
pub record Valued (w : List ℕ) (f : Form) (r : Answer) : Type 0 where
  pub values : (off : Bool) → shaped base off (written w (Some f)) ≡ verdict_of w off r
