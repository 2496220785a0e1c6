-- Bytes laid into a room from its start, one a turn, as far as the room reaches.
use Prim.Native.Nat.{ℕ, ◌+◌, ◌≤◌, ◌<◌, suc, min}
use mathlib.Core.Path.{◌≡◌, refl, sym, ◌∙◌}
use mathlib.Core.List.{List, ◌++◌, map}
use native.Mathlib.Nat.{le_of_lt, le_refl}
use native.Mathlib.Decide.{dec_le}
use native.Mathlib.Numerals.{add-one}
use native.Mathlib.Omega.{arith}
use lib.ListN.{length, get_or, set, take, drop, length-set, length-map, get_or-map, drop_of_length-le}
use lib.Seq.{drop-cons, set_at, take-suc, take_all, append_snoc, length-take-le}
use Rattle.rules.specs.Bytes.{fold}
use Rattle.output.specs.Puts.{laid, Puts}

-- the first i of them stand in the room
pub record Laying (w room out : List ℕ) (i : ℕ) : Type 0 where
  pub long : length out ≡ length room
  pub bytes : out ≡ take i w ++ drop i room

pub laying_start : (w room : List ℕ) → Laying w room room 0
laying_start w room = record { long = refl; bytes = refl }

next : (w d : List ℕ) (i : ℕ) → i < length w → i < length d → set (take i w ++ drop i d) i (get_or w i 0) ≡ take (i + 1) w ++ drop (i + 1) d
next w d i hw hd =
    rw (add-one, drop-cons d i 0 hd, set_at (take i w) (get_or d i 0) (drop (suc i) d) (get_or w i 0) i (length-take-le i w (le_of_lt hw)), take-suc w i 0 hw, append_snoc)

pub laying_turn : (w room out : List ℕ) (i b : ℕ) → Laying w room out i → i < min (length w) (length room) → b ≡ get_or w i 0 → Laying w room (set out i b) (i + 1)
laying_turn w room out i b v h g = record { long = length-set out i b ∙ v.long; bytes = rw (g, v.bytes) (next w room i (omega arith) (omega arith)) }

pub laying_end : (w room out : List ℕ) (i : ℕ) → Laying w room out i → i ≡ min (length w) (length room) → Puts w room out (length w)
laying_end w room out i v h = record { count = refl; bytes = v.bytes ∙ go (dec_le (length w) (length room)) }
  where
    go : Dec (length w ≤ length room) → take i w ++ drop i room ≡ laid w room
    go (yes f) =
        let j : i ≡ length w = omega arith in
        rw (j, take_all (length w) w (le_refl _), take_all (length room) w f)
    go (no f) =
        let j : i ≡ length room = omega arith in
        rw (j, drop_of_length-le room {i = length room} (le_refl _), drop_of_length-le room {i = length w} (omega arith))

-- ---- case folded

pub folded_turn : (w room out : List ℕ) (i b : ℕ) → Laying (map fold w) room out i → i < min (length w) (length room) → b ≡ fold (get_or w i 0) → Laying (map fold w) room (set out i b) (i + 1)
folded_turn w room out i b v h g = laying_turn (map fold w) room out i b v (rw (length-map w fold) h) (g ∙ sym (get_or-map fold w i 0))

pub folded_end : (w room out : List ℕ) (i : ℕ) → Laying (map fold w) room out i → i ≡ min (length w) (length room) → Puts (map fold w) room out (length w) × (length w ≡ length w)
folded_end w room out i v h = (rw (← length-map w fold) (laying_end (map fold w) room out i v (rw (length-map w fold) h)), refl)
