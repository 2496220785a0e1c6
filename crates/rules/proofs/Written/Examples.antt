-- Examples of the written label and of reassembly, computed.
use Prim.Native.Nat.{ℕ}
use Prim.Native.String.{String}
use mathlib.Core.Path.{◌≡◌, refl}
use mathlib.Core.Bool.{true, false}
use mathlib.Core.List.{List, [], ◌∷◌, ◌++◌}
use Rattle.rules.specs.Bytes.{ascii}
use Rattle.rules.specs.Written.{is_name, unpadded, digits, wide, real_bytes, indent, canonical}
use Rattle.rules.specs.Data.{Whole, Moment, object, group, attribute, pointer, opened, closed, an_integer, a_real, a_moment, a_text, a_symbol, a_unit, sequence, sequence_end, set, set_end, last, first, times, divided}
use Rattle.rules.specs.Meaning.{Sense, unmarked, keep, breaks, join, reassemble}

abbrev plus : ℕ → Whole
plus n = record { minus = false; size = n }

abbrev minus : ℕ → Whole
minus n = record { minus = true; size = n }

-- the label of these rows and row 99 is these lines
abbrev lines : List String → List ℕ
lines [] = []
lines (l ∷ ls) = ascii l ++ (13 ∷ 10 ∷ lines ls)

abbrev ◌writes◌ : List Sense → List String → Type 0
◌writes◌ m ls = canonical (m ++ (last tt ∷ [])) ≡ lines (ls ++ ("END" ∷ []))

infix 60 ◌writes◌
abbrev clock : ℕ → ℕ → ℕ → ℕ → Whole → Moment
clock h i s n z = record { parts = 2; year = 0; month = 0; day = 0; hour = h; minute = i; second = s; nanoseconds = n; offset = z; mark = 0 }

-- the paper's example, its real as document 02 §4 writes it
sample : (opened object (ascii "CAM") ∷ attribute (ascii "START")
    ∷ a_moment (unmarked {M = ℕ} (record { parts = 3; year = 1990; month = 6; day = 7; hour = 15; minute = 24; second = 12; nanoseconds = 0; offset = plus 0; mark = 0 }))
    ∷ attribute (ascii "HOLD") ∷ a_real (record { number = plus 15; power = minus 1 }) ∷ a_unit first (ascii "SEC") (plus 1) ∷ closed object ∷ [])
    writes ("OBJECT = CAM" ∷ "  START = 1990-06-07T15:24:12Z" ∷ "  HOLD = 1.5 <SEC>" ∷ "END_OBJECT = CAM" ∷ [])
unfolding unpadded digits wide indent
sample = refl

-- blocks in blocks, pointers, an empty set
blocks : (opened object (ascii "A") ∷ opened group (ascii "B") ∷ pointer (ascii "P") ∷ set ∷ set_end ∷ closed group ∷ closed object ∷ [])
    writes ("OBJECT = A" ∷ "  GROUP = B" ∷ "    ^P = {}" ∷ "  END_GROUP = B" ∷ "END_OBJECT = A" ∷ [])
unfolding unpadded digits wide indent
blocks = refl

-- `, ` between rows, integers in decimal, minus only
rows : (attribute (ascii "A") ∷ sequence ∷ sequence ∷ an_integer (plus 1) ∷ an_integer (plus 9223372036854775807) ∷ sequence_end ∷ sequence ∷ an_integer (minus 30) ∷ sequence_end
    ∷ sequence_end ∷ [])
    writes ("A = ((1, 9223372036854775807), (-30))" ∷ [])
unfolding unpadded digits wide indent
rows = refl

-- symbols bare and in apostrophes, units, exponents
members : (attribute (ascii "A") ∷ set ∷ a_symbol (ascii "END") ∷ an_integer (plus 0) ∷ a_unit first (ascii "K") (plus 1) ∷ a_unit times (ascii "S") (minus 2) ∷ a_unit divided (ascii "M") (plus 0)
    ∷ a_symbol (ascii "X_1") ∷ a_symbol (ascii "X_") ∷ a_text (ascii "it's") ∷ set_end ∷ [])
    writes ("A = {'END', 0 <K*S**-2/M**0>, X_1, 'X_', \"it's\"}" ∷ [])
unfolding unpadded digits wide indent is_name
members = refl

-- this number with this power is written so, and so behind a minus
abbrev both : ℕ → Whole → String → Type 0
both n p w = (real_bytes (record { number = plus n; power = p }) ≡ ascii w) × (real_bytes (record { number = minus n; power = p }) ≡ ascii "-" ++ ascii w)

-- powers of -18 to -1, and -19
plain_reals : both 15 (minus 1) "1.5" × both 5 (minus 1) "0.5" × both 15 (minus 3) "0.015"
    × both 1 (minus 18) "0.000000000000000001" × both 1 (minus 19) "1.E-19"
    × both 123456789012345678 (minus 1) "12345678901234567.8" × both 123456789012345678 (minus 17) "1.23456789012345678"
    × both 123456789012345678 (minus 18) "0.123456789012345678" × both 123456789012345678 (minus 19) "123456789012345678.E-19"
unfolding unpadded digits wide
plain_reals = ((refl, refl), (refl, refl), (refl, refl), (refl, refl), (refl, refl), (refl, refl), (refl, refl), (refl, refl), (refl, refl))

-- powers of 0 and more: number and zeros of up to 18 digits, and of 19
full_reals : both 15 (plus 0) "15.0" × both 1 (plus 17) "100000000000000000.0" × both 1 (plus 18) "1.E18"
    × both 12 (plus 16) "120000000000000000.0" × both 12 (plus 17) "12.E17"
    × both 999999999999999999 (plus 0) "999999999999999999.0" × both 999999999999999999 (plus 1) "999999999999999999.E1"
unfolding unpadded digits wide
full_reals = ((refl, refl), (refl, refl), (refl, refl), (refl, refl), (refl, refl), (refl, refl), (refl, refl))

-- the furthest powers
far_reals : both 999999999999999999 (minus 999) "999999999999999999.E-999" × both 9 (plus 999) "9.E999"
unfolding unpadded digits wide
far_reals = ((refl, refl), (refl, refl))

-- reals with units, in a sequence
reals : (attribute (ascii "A") ∷ sequence ∷ a_real (record { number = plus 0; power = plus 0 }) ∷ a_real (record { number = minus 15; power = minus 1 }) ∷ a_unit first (ascii "M") (plus 1)
    ∷ sequence_end ∷ [])
    writes ("A = (0.0, -1.5 <M>)" ∷ [])
unfolding unpadded digits wide indent
reals = refl

-- dates and times: a fraction without trailing zeros, Z or sign and HH:MM
moments : (attribute (ascii "A") ∷ sequence ∷ a_moment (unmarked {M = ℕ} (record { parts = 1; year = 1; month = 12; day = 31; hour = 0; minute = 0; second = 0; nanoseconds = 0; offset = plus 0; mark = 0 }))
    ∷ a_moment (unmarked (clock 1 2 3 120000000 (minus 30))) ∷ a_moment (unmarked (clock 23 59 59 1 (plus 779))) ∷ sequence_end ∷ [])
    writes ("A = (0001-12-31, 01:02:03.12-00:30, 23:59:59.000000001+12:59)" ∷ [])
unfolding unpadded digits wide indent
moments = refl

-- `a-\n-\nb` is `ab`; `\n` is one space; `-\n` is empty; `Jupi- ` before a line end keeps its hyphen
texts : (reassemble (97 ∷ 45 ∷ 10 ∷ 45 ∷ 10 ∷ 98 ∷ []) ≡ 97 ∷ 98 ∷ []) × (reassemble (10 ∷ []) ≡ 32 ∷ []) × (reassemble (45 ∷ 10 ∷ []) ≡ [])
    × (reassemble (97 ∷ 45 ∷ 32 ∷ 13 ∷ 10 ∷ 9 ∷ 98 ∷ 32 ∷ 32 ∷ 99 ∷ []) ≡ 97 ∷ 45 ∷ 32 ∷ 98 ∷ 32 ∷ 32 ∷ 99 ∷ []) × (reassemble (97 ∷ 45 ∷ 0 ∷ 10 ∷ 0 ∷ 10 ∷ 98 ∷ []) ≡ 97 ∷ 98 ∷ [])
unfolding reassemble keep join breaks
texts = (refl, refl, refl, refl, refl)
