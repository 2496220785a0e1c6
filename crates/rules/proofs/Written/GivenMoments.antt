-- Dates and times with the zone that their mark has: none, Z or a signed one; and with the mark of what is written, what is written.
use Prim.Native.Nat.{ℕ}
use Prim.Native.Char.{code as byte}
use mathlib.Core.Bool.{Bool, true, false, cond}
use mathlib.Core.Path.{◌≡◌, refl}
use mathlib.Core.List.{List, [], ◌∷◌, ◌++◌}
use lib.Dec.{eqb}
use Rattle.rules.specs.Data.{Whole, Moment}
use Rattle.rules.specs.Written.{date_bytes, offset_bytes, time_bytes, date_time_bytes, moment_bytes}
use Rattle.rules.proofs.Written.Marks.{as_written}

-- the zone of a mark, 0, 1 or 2, and an offset
abbrev pub given_zone : ℕ → Whole → List ℕ
given_zone k w = cond (eqb k 0) [] (cond (eqb k 1) (byte "Z" ∷ []) (offset_bytes w))

-- a date or time with it
abbrev pub given_bytes : Moment → List ℕ
given_bytes t = date_time_bytes (given_zone t.mark t.offset) t

-- the mark of what is written has the zone that is written, where there is a time
pub given_written : (t : Moment) → given_bytes (as_written t) ≡ moment_bytes t
given_written t = go (eqb t.parts 1) (eqb t.offset.size 0) (date_bytes t) (λ z. cond (eqb t.parts 2) (time_bytes z t) (date_bytes t ++ (byte "T" ∷ time_bytes z t)))
  where
    go : (a b : Bool) (d : List ℕ) (f : List ℕ → List ℕ) →
        cond a d (f (given_zone (cond a 0 (cond b 1 2)) t.offset)) ≡ cond a d (f (cond b (byte "Z" ∷ []) (offset_bytes t.offset)))
    go true b d f = refl
    go false true d f = refl
    go false false d f = refl
