-- Symbols bare or in apostrophes, and the exponents of units.
use Prim.Native.Nat.{ℕ}
use mathlib.Core.Bool.{Bool, true, false}
use mathlib.Core.Path.{◌≡◌, sym, ◌∙◌}
use mathlib.Core.List.{List, [], ◌∷◌, ◌++◌, map}
use Rattle.rules.specs.Bytes.{fold}
use Rattle.rules.specs.Written.{is_name, symbol_bytes, is_one, exponent_bytes, decimal}
use Rattle.rules.proofs.Written.Folds.{name_fold}
use Rattle.words.specs.Says.{whole}
use Rattle.output.specs.Puts.{Puts}
use Rattle.output.proofs.Laws.{nothing}

module _ {x y : List ℕ} {n : ℕ} {t : Bool} where
  pub bare : (w : List ℕ) → t ≡ is_name w → t ≡ true → Puts (map fold w) x y n → Puts (symbol_bytes (map fold w)) x y n
  bare w e h p = let k : is_name (map fold w) ≡ true = name_fold w ∙ sym e ∙ h in rw k p

  pub in_apostrophes : (w : List ℕ) → t ≡ is_name w → t ≡ false → Puts (39 ∷ (map fold w ++ (39 ∷ []))) x y n → Puts (symbol_bytes (map fold w)) x y n
  in_apostrophes w e h p = let k : is_name (map fold w) ≡ false = name_fold w ∙ sym e ∙ h in rw k p

  pub unwritten : (m : Bool) (v : ℕ) → t ≡ is_one (whole m v) → t ≡ true → x ≡ y → n ≡ 0 → Puts (exponent_bytes (whole m v)) x y n
  unwritten m v e h q z = rw (← e, h, q, z) (nothing y)

  pub raised : (m : Bool) (v : ℕ) → t ≡ is_one (whole m v) → t ≡ false → Puts (42 ∷ 42 ∷ decimal (whole m v)) x y n → Puts (exponent_bytes (whole m v)) x y n
  raised m v e h p = rw (← e, h) p
