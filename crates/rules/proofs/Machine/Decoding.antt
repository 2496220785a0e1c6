-- The row that bytes begin with, and the bytes behind it.
use Prim.Native.Nat.{ℕ, zero, suc, ◌+◌, ◌-◌, ◌*◌, ◌^◌}
use mathlib.Core.Bool.{true, false, cond}
use mathlib.Core.List.{List, [], ◌∷◌}
use lib.Dec.{ltb, leb, eqb}
use Rattle.rules.specs.Data.{Span, Whole, object, group, Op, first, times, divided, Row, attribute, pointer, opened, closed, an_integer, a_real, a_moment, a_text, a_symbol, a_unit, sequence, sequence_end, set, set_end, last}

-- no row, or a row and the bytes behind it
pub data Decoded : Type 0 where
  nothing : Decoded
  got : Row → List ℕ → Decoded

-- so many bytes as a number, and what then
unfoldable pub field : ℕ → ℕ → List ℕ → (ℕ → List ℕ → Decoded) → Decoded
field zero a s f = f a s
field (suc k) a [] f = nothing
field (suc k) a (b ∷ s) f = cond (ltb b 256) (field k (a * 256 + b) s f) nothing

-- one byte, a span, a unit's operator, the fields of a moment and of a unit, and what then
abbrev pub byte_then : List ℕ → (ℕ → List ℕ → Decoded) → Decoded
byte_then [] f = nothing
byte_then (b ∷ s) f = f b s

-- a number of so many bytes out of its two's complement
abbrev pub from_twos : ℕ → ℕ → Whole
from_twos k v = cond (leb (256 ^ k) (2 * v)) (record { minus = true; size = 256 ^ k - v }) (record { minus = false; size = v })

abbrev pub span_then : List ℕ → (Span → Row) → Decoded
span_then s f = field 2 0 s (λ a s. field 2 0 s (λ b s. got (f (record { from = a; upto = b })) s))

abbrev pub op_numbered : ℕ → Op
op_numbered zero = first
op_numbered (suc zero) = times
op_numbered (suc (suc n)) = divided

abbrev pub moment_then : List ℕ → Decoded
moment_then s =
    byte_then s (λ p s. field 2 0 s (λ y s. byte_then s (λ m s. byte_then s (λ d s. byte_then s (λ h s. byte_then s (λ i s. byte_then s (λ c s. field 4 0 s (λ n s. field 2 0 s (λ o s. byte_then s (λ z s.
    got (a_moment (record { parts = p; year = y; month = m; day = d; hour = h; minute = i; second = c; nanoseconds = n; offset = from_twos 2 o; mark = z })) s))))))))))

abbrev pub unit_then : ℕ → List ℕ → Decoded
unit_then op s = field 2 0 s (λ a s. field 2 0 s (λ b s. field 1 0 s (λ v s. got (a_unit (op_numbered op) (record { from = a; upto = b }) (from_twos 1 v)) s)))

unfoldable pub decode : List ℕ → Decoded
decode [] = nothing
decode (k ∷ s) =
    cond (eqb k 1) (span_then s attribute) (cond (eqb k 2) (span_then s pointer) (cond (eqb k 3) (span_then s (opened object)) (cond (eqb k 5) (span_then s (opened group))
    (cond (eqb k 4) (got (closed object) s) (cond (eqb k 6) (got (closed group) s)
    (cond (eqb k 10) (field 8 0 s (λ v s. got (an_integer (from_twos 8 v)) s))
    (cond (eqb k 11) (field 8 0 s (λ v s. field 2 0 s (λ p s. got (a_real (record { number = from_twos 8 v; power = from_twos 2 p })) s)))
    (cond (eqb k 12) (moment_then s) (cond (eqb k 13) (span_then s a_text) (cond (eqb k 14) (span_then s a_symbol)
    (cond (eqb k 15) (byte_then s (λ op s. cond (leb op 2) (unit_then op s) nothing))
    (cond (eqb k 20) (got sequence s) (cond (eqb k 21) (got sequence_end s) (cond (eqb k 22) (got set s) (cond (eqb k 23) (got set_end s)
    (cond (eqb k 99) (field 2 0 s (λ n s. got (last n) s)) nothing))))))))))))))))
