-- Numbers by their digits and sign, and reals by the form that they are written in.
use Prim.Native.Nat.{ℕ, ◌+◌, ◌/◌, ◌^◌, ◌≤◌, ◌<◌}
use mathlib.Core.Bool.{Bool, true, false}
use mathlib.Core.Path.{◌≡◌, sym, ap, ◌∙◌}
use mathlib.Core.List.{List, [], ◌∷◌, ◌++◌}
use borrow.Author.Tests.{le-leb, lt-leb}
use lib.ListN.{length}
use Rattle.rules.specs.Written.{wide, digits, minus_only, plain_bytes, full_bytes, scaled_bytes, unsigned_bytes}
use Rattle.rules.proofs.Written.PrintedNumbers.{wide_length}
use Rattle.words.specs.Says.{whole}
use Rattle.output.specs.Puts.{Puts}
use Rattle.output.proofs.Laws.{nothing, same_part}
use Rattle.numerals.specs.Counts.{Counted}

-- a counted number has so many digits
count_is : {n d : ℕ} → Counted n d → length (digits n) ≡ d
count_is {n} {d} c = ap length c.are ∙ wide_length d n

pub no_minus : {m : Bool} (room : List ℕ) → m ≡ false → Puts (minus_only m) room room 0
no_minus room h = rw h (nothing room)

module _ {room out : List ℕ} {r : ℕ} where
  pub counted : {n k : ℕ} → Counted n k → Puts (wide k n) room out r → Puts (digits n) room out r
  counted c p = same_part (sym c.are) p

  pub minus : {m : Bool} → m ≡ true → Puts (45 ∷ []) room out r → Puts (minus_only m) room out r
  minus h p = rw h p

  -- the digits before the period are those of the number without its last ones
  pub in_plain : {v : ℕ} (n k : ℕ) → v ≡ n / 10 ^ k → Puts (digits v ++ ((46 ∷ []) ++ wide k n)) room out r → Puts (plain_bytes n k) room out r
  in_plain n k h p = same_part (ap (λ (i : ℕ). digits i ++ (46 ∷ wide k n)) h) p

  module _ {below : Bool} (n k : ℕ) where
    pub as_plain : below ≡ true → k ≤ 18 → Puts (plain_bytes n k) room out r → Puts (unsigned_bytes n (whole below k)) room out r
    as_plain b h p = rw (b, le-leb k 18 h) p

    pub as_scaled_below : below ≡ true → 18 < k → Puts (scaled_bytes n (whole below k)) room out r → Puts (unsigned_bytes n (whole below k)) room out r
    as_scaled_below b h p = rw (b, lt-leb k 18 h) (rw b at p)

    pub as_full : {d : ℕ} → below ≡ false → Counted n d → d + k ≤ 18 → Puts (full_bytes n k) room out r → Puts (unsigned_bytes n (whole below k)) room out r
    as_full {d} b c h p = rw (b, count_is c, le-leb (d + k) 18 h) p

    pub as_scaled : {d : ℕ} → below ≡ false → Counted n d → 18 < d + k → Puts (scaled_bytes n (whole below k)) room out r → Puts (unsigned_bytes n (whole below k)) room out r
    as_scaled {d} b c h p = rw (b, count_is c, lt-leb (d + k) 18 h) (rw b at p)
