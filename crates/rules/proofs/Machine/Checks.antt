-- The value and the span of a row, and what a span may hold, as tests.
use Prim.Native.Nat.{ℕ, ◌%◌, ◌^◌}
use Prim.Native.Char.{code as byte}
use mathlib.Core.Bool.{Bool, true, not, ◌&&◌, ◌||◌}
use mathlib.Core.List.{List}
use lib.Dec.{leb, ltb, eqb}
use lib.ListN.{length}
use Rattle.rules.specs.Bytes.{between}
use Rattle.rules.specs.Data.{Span, Whole, Real, Moment, Row, attribute, pointer, opened, closed, an_integer, a_real, a_moment, a_text, a_symbol, a_unit, sequence, sequence_end, set, set_end, last}
use Rattle.rules.specs.Values.{each, month_length}
use Rattle.rules.specs.Written.{is_name}
use Rattle.rules.specs.Proper.{stretch}

-- ---- what a span may hold

abbrev pub text_byte : ℕ → Bool
text_byte b = ltb b 128 && not (eqb b (byte "\""))

abbrev pub symbol_byte : ℕ → Bool
symbol_byte b = between 32 126 b && not (eqb b (byte "'"))

unfoldable pub is_text : List ℕ → Bool
is_text w = each text_byte w

unfoldable pub is_symbol : List ℕ → Bool
is_symbol w = each symbol_byte w && between 1 255 (length w)

-- ---- values

-- below a limit, and no minus zero
abbrev pub within_test : ℕ → Whole → Bool
within_test m w = ltb w.size m && (not (eqb w.size 0) || not w.minus)

abbrev pub real_test : Real → Bool
real_test x =
    within_test (10 ^ 18) x.number && (within_test 1000 x.power
    && (not (eqb (x.number.size % 10) 0) || (eqb x.number.size 0 && eqb x.power.size 0)))

abbrev pub dated_test : Moment → Bool
dated_test t =
    ltb 0 t.year && (ltb t.year 10000 && (ltb 0 t.month && (ltb t.month 13 && (ltb 0 t.day && leb t.day (month_length t.year t.month)))))

-- a signed zone, or none or Z with offset 0
abbrev pub mark_test : Moment → Bool
mark_test t = eqb t.mark 2 || (ltb t.mark 2 && eqb t.offset.size 0)

abbrev pub timed_test : Moment → Bool
timed_test t = ltb t.hour 24 && (ltb t.minute 60 && (ltb t.second 60 && (ltb t.nanoseconds (10 ^ 9) && (within_test 780 t.offset && mark_test t))))

abbrev pub undated_test : Moment → Bool
undated_test t = eqb t.year 0 && (eqb t.month 0 && eqb t.day 0)

-- plain zero
abbrev pub zero_test : Whole → Bool
zero_test w = not w.minus && eqb w.size 0

abbrev pub untimed_test : Moment → Bool
untimed_test t = eqb t.hour 0 && (eqb t.minute 0 && (eqb t.second 0 && (eqb t.nanoseconds 0 && (zero_test t.offset && eqb t.mark 0))))

abbrev pub moment_test : Moment → Bool
moment_test t =
    (eqb t.parts 1 && (dated_test t && untimed_test t)) || ((eqb t.parts 2 && (undated_test t && timed_test t)) || (eqb t.parts 3 && (dated_test t && timed_test t)))

abbrev pub value_test : Row → Bool
value_test (attribute p) = true
value_test (pointer p) = true
value_test (opened k p) = true
value_test (closed k) = true
value_test (an_integer w) = within_test (2 ^ 63) w
value_test (a_real x) = real_test x
value_test (a_moment t) = moment_test t
value_test (a_text p) = true
value_test (a_symbol p) = true
value_test (a_unit op p w) = within_test 100 w
value_test sequence = true
value_test sequence_end = true
value_test set = true
value_test set_end = true
value_test (last n) = true

-- ---- spans

-- the span lies inside the given bytes, and the test holds of its bytes
abbrev pub held_test : (List ℕ → Bool) → List ℕ → Span → Bool
held_test test given p = leb p.from p.upto && (leb p.upto (length given) && test (stretch given p))

abbrev pub span_test : List ℕ → Row → Bool
span_test given (attribute p) = held_test is_name given p
span_test given (pointer p) = held_test is_name given p
span_test given (opened k p) = held_test is_name given p
span_test given (closed k) = true
span_test given (an_integer w) = true
span_test given (a_real x) = true
span_test given (a_moment t) = true
span_test given (a_text p) = held_test is_text given p
span_test given (a_symbol p) = held_test is_symbol given p
span_test given (a_unit op p w) = held_test is_name given p
span_test given sequence = true
span_test given sequence_end = true
span_test given set = true
span_test given set_end = true
span_test given (last n) = leb n (length given)
