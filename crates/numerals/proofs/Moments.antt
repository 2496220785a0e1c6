-- Dates and times by their parts.
use Prim.Native.Nat.{ℕ, zero, suc, ◌/◌, ◌%◌, ◌≤◌}
use mathlib.Core.Bool.{Bool, cond}
use mathlib.Core.Path.{◌≡◌, ap, ◌∙◌}
use mathlib.Core.List.{List, [], ◌∷◌, ◌++◌, append_assoc}
use borrow.Author.Tests.{eq-eqb, ne_eqb}
use native.Mathlib.Omega.{arith}
use Rattle.std.specs.Prelude.{Option, Some, None}
use Rattle.words.specs.declared.Moment.{Moment}
use Rattle.rules.specs.Values.{significant}
use Rattle.rules.specs.Written.{wide, date_bytes, fraction, zone, time_bytes, moment_bytes}
use Rattle.words.specs.Says.{whole, moment_of}
use Rattle.output.specs.Puts.{Puts}
use Rattle.output.proofs.Laws.{same_part, nothing}
use Rattle.numerals.specs.Counts.{Trimmed}
use Rattle.numerals.specs.declared.times.Fraction.{Fraction}

-- how many decimals are left
pub sizes : {o : Option Fraction} {f : Fraction} {n : ℕ} → Trimmed n o → o ≡ Some f → (1 ≤ f.size) × (f.size ≤ 9)
sizes t h = rw h at t.some

module _ {room out : List ℕ} {r : ℕ} where
  -- the decimals of a second
  pub no_fraction : {o : Option Fraction} {n : ℕ} → Trimmed n o → o ≡ None → room ≡ out → r ≡ 0 → Puts (fraction (significant (wide 9 n))) room out r
  no_fraction {o} {n} t h e z = rw (t.are, h, e, z) (nothing out)

  pub some_fraction : {o : Option Fraction} {f : Fraction} {n : ℕ} → Trimmed n o → o ≡ Some f → Puts (46 ∷ wide f.size f.value) room out r → Puts (fraction (significant (wide 9 n))) room out r
  unfolding wide
  some_fraction {o} {f} {n} t h p = rw (t.are, h) (go f.size (sizes t h).0 p)
    where
      go : (k : ℕ) → 1 ≤ k → Puts (46 ∷ wide k f.value) room out r → Puts (fraction (wide k f.value)) room out r
      go zero h p = absurd (omega arith)
      go (suc k) h p = p

  -- zones
  pub no_zone : (w : Bool) (o : ℕ) → o ≡ 0 → Puts (90 ∷ []) room out r → Puts (zone (whole w o)) room out r
  no_zone w o h p = rw (eq-eqb o 0 h) p

  pub some_zone : (w : Bool) {m : ℕ} (o : ℕ) → (o ≡ 0 → ⊥) → m ≡ cond w 45 43 → Puts ((m ∷ wide 2 (o / 60)) ++ (58 ∷ wide 2 (o % 60))) room out r → Puts (zone (whole w o)) room out r
  some_zone w o h e p = rw (ne_eqb o 0 h, ← e) p

  pub in_time : (x : Moment) → Puts ((wide 2 x.hour ++ ((58 ∷ wide 2 x.minute) ++ (58 ∷ wide 2 x.second))) ++ (fraction (significant (wide 9 x.nanoseconds)) ++ zone (whole x.west x.offset))) room out r →
      Puts (time_bytes (zone (whole x.west x.offset)) (moment_of x)) room out r
  in_time x p =
      same_part (append_assoc (wide 2 x.hour) ((58 ∷ wide 2 x.minute) ++ (58 ∷ wide 2 x.second)) _
      ∙ ap (λ (l : List ℕ). wide 2 x.hour ++ (58 ∷ l)) (append_assoc (wide 2 x.minute) (58 ∷ wide 2 x.second) _)) p

  pub a_date : (x : Moment) → x.parts ≡ 1 → Puts (date_bytes (moment_of x)) room out r → Puts (moment_bytes (moment_of x)) room out r
  a_date x h p = rw (eq-eqb x.parts 1 h) p

  pub a_time : (x : Moment) → (x.parts ≡ 1 → ⊥) → x.parts ≡ 2 → Puts (time_bytes (zone (whole x.west x.offset)) (moment_of x)) room out r → Puts (moment_bytes (moment_of x)) room out r
  a_time x g h p = rw (ne_eqb x.parts 1 g, eq-eqb x.parts 2 h) p

  pub both : (x : Moment) → (x.parts ≡ 1 → ⊥) → (x.parts ≡ 2 → ⊥) → Puts (date_bytes (moment_of x) ++ (84 ∷ time_bytes (zone (whole x.west x.offset)) (moment_of x))) room out r → Puts (moment_bytes (moment_of x)) room out r
  both x g h p = rw (ne_eqb x.parts 1 g, ne_eqb x.parts 2 h) p
