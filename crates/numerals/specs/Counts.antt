-- Digits counted. Terms of private contracts.
use Rattle.std.specs.Prelude.{ℕ, ◌≤◌, ◌≡◌, Option, Some, None, IfSome, List, []}
use Rattle.rules.specs.Values.{significant}
use Rattle.rules.specs.Written.{wide, digits}
use Rattle.numerals.specs.declared.times.Fraction.{Fraction}

-- a number has so many digits
pub record Counted (n k : ℕ) : Type 0 where
  pub are : digits n ≡ wide k n
  pub most : k ≤ 20

-- the digits of a fraction, where there is one
abbrev pub trimmed : Option Fraction → List ℕ
trimmed None = []
trimmed (Some f) = wide f.size f.value

-- the decimals of a second without the zeros that end them, where some are left
pub record Trimmed (n : ℕ) (o : Option Fraction) : Type 0 where
  pub are : significant (wide 9 n) ≡ trimmed o
  pub some : IfSome o (λ f. (1 ≤ f.size) × (f.size ≤ 9))
