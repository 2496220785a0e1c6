-- The tests of values: the code's are the rules'.
use Prim.Native.Nat.{ℕ, ◌%◌}
use mathlib.Core.Bool.{Bool, not, ◌&&◌, ◌||◌}
use mathlib.Core.Path.{◌≡◌, ap}
use borrow.Author.Rules.{rules}
use lib.Dec.{ltb, leb, eqb}
use Rattle.rules.specs.Values.{month_length}
use Rattle.rules.proofs.Machine.Checks.{within_test, real_test, dated_test, mark_test, timed_test, undated_test, untimed_test, moment_test, value_test}
use Rattle.words.specs.Says.{whole, real_of, moment_of}
use Rattle.words.specs.declared.Real.{Real}
use Rattle.words.specs.declared.Moment.{Moment}
use Rattle.rows.specs.Rows.{row_of}
use Rattle.rows.specs.declared.Row.{Row}

-- ---- values

pub real_is : (x : Real) (a b : Bool) → a ≡ within_test 1000000000000000000 (whole x.minus x.number) → b ≡ within_test 1000 (whole x.below x.power) →
    (a && (b && (not (eqb (x.number % 10) 0) || (eqb x.number 0 && eqb x.power 0)))) ≡ real_test (real_of x)
real_is x a b e f = rw (e, f)

pub dated_is : (x : Moment) (l : ℕ) → l ≡ month_length x.year x.month →
    (ltb 0 x.year && (ltb x.year 10000 && (ltb 0 x.month && (ltb x.month 13 && (ltb 0 x.day && leb x.day l))))) ≡ dated_test (moment_of x)
dated_is x l e = ap (λ (i : ℕ). ltb 0 x.year && (ltb x.year 10000 && (ltb 0 x.month && (ltb x.month 13 && (ltb 0 x.day && leb x.day i))))) e

pub timed_is : (x : Moment) (a z : Bool) → a ≡ within_test 780 (whole x.west x.offset) → z ≡ mark_test (moment_of x) →
    (ltb x.hour 24 && (ltb x.minute 60 && (ltb x.second 60 && (ltb x.nanoseconds 1000000000 && (a && z))))) ≡ timed_test (moment_of x)
timed_is x a z e f = rw (e, f)

pub moment_is : (x : Moment) (d u t n : Bool) → d ≡ dated_test (moment_of x) → u ≡ undated_test (moment_of x) → t ≡ timed_test (moment_of x) → n ≡ untimed_test (moment_of x) →
    ((eqb x.parts 1 && (d && n)) || ((eqb x.parts 2 && (u && t)) || (eqb x.parts 3 && (d && t)))) ≡ moment_test (moment_of x)
moment_is x d u t n e f g h = rw (e, f, g, h)

pub value_is : {row w : Row} {t : Bool} → row ≡ w → t ≡ value_test (row_of w) → t ≡ value_test (row_of row)
value_is h e = rw h e

pub ruleset values = (real_is, dated_is, timed_is, moment_is, value_is, rules)
