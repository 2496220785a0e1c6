-- The least number of bytes that spell an element, and that a label has no fewer bytes than its elements want.
use Prim.Native.Nat.{ℕ, ◌+◌, ◌≤◌}
use mathlib.Core.Path.{◌≡◌, subst}
use mathlib.Core.Bool.{Bool, ◌&&◌}
use mathlib.Core.Option.{Option, none, some}
use mathlib.Core.List.{List, [], ◌∷◌, ◌++◌}
use native.Mathlib.Omega.{arith}
use borrow.Author.Tests.{leb-true}
use lib.Dec.{leb}
use lib.ListN.{length, length-append}
use Rattle.rules.specs.Bytes.{ascii}
use Rattle.rules.specs.Data.{Whole, Real, Elem, name, the, end, integer, based, real, moment, range, text, symbol, Placed, ◌on◌}
use Rattle.rules.specs.Modes.{Mode}
use Rattle.rules.specs.Values.{Written, an_identifier, a_whole, a_based, a_decimal, a_date, a_time, a_date_time, a_range, Date, Time, Day, signed, same, named, fits, in_base, radix_kept, held, real_kept, day_of, time_kept, absent_day, absent_time, at, then, within, value}
use Rattle.rules.specs.Words.{Digits, Unsigned, Integer, signed_digits, Exponent, upper, lower, Decimal, pointed, bare, Range, from_to, in_radix, DateWord, year_doy, year_month_day, TimeWord, time, DateTime, upper_t, lower_t, Shape, identifier_word, integer_word, based_word, real_word, date_word, time_word, date_time_word, range_word, Form}
use Rattle.rules.specs.Elements.{Spells, word, sign, one_star, two_stars, one_slash, quoted_text, quoted_symbol, Cut, none_more, next}
use Rattle.rules.proofs.Tables.Tests.{cond-case, between_out}
use Rattle.rules.proofs.Tables.ElementLimits.{When, when_within}

-- so many bytes at least spell the element: `1.`, `1:2`, `1..2`, and one byte of any other
abbrev pub width : Elem → ℕ
width (name n) = 1
width (the f) = 1
width (end b) = 1
width (integer w) = 1
width (based w) = 1
width (real x) = 2
width (moment t) = 3
width (range lo hi) = 4
width text = 1
width symbol = 1

abbrev pub widths : List Placed → ℕ
widths [] = 0
widths (e on p ∷ es) = width e + widths es

pub widths_append : (xs ys : List Placed) → widths (xs ++ ys) ≡ widths xs + widths ys
widths_append [] ys = omega arith
widths_append (e on p ∷ xs) ys = omega (arith, widths_append xs ys)

-- ---- words

-- the same of what is written
abbrev written_width : Written → ℕ
written_width (an_identifier n) = 1
written_width (a_whole w) = 1
written_width (a_based r neg ds) = 1
written_width (a_decimal neg ds fs z) = 2
written_width (a_date d) = 3
written_width (a_time t) = 3
written_width (a_date_time d t) = 3
written_width (a_range lo hi) = 4

abbrev Narrow : ℕ → Elem → Type 0
Narrow n e = width e ≤ n

named_width : (pvl off : Bool) (u : List ℕ) → When (Narrow 1) (named pvl off u)
named_width pvl off u =
    let G : Option Elem → Type 0 = When (Narrow 1) in
    let k : 1 ≤ 1 = omega arith in
    cond-case G (same u (ascii "END")) _ _ (λ e. k) (λ a. cond-case G (same u (ascii "OBJECT")) _ _ (λ e. k) (λ a. cond-case G (same u (ascii "END_OBJECT")) _ _ (λ e. k)
    (λ a. cond-case G (same u (ascii "GROUP")) _ _ (λ e. k) (λ a. cond-case G (same u (ascii "END_GROUP")) _ _ (λ e. k) (λ a. cond-case G (same u (ascii "BEGIN_OBJECT")) _ _ (λ e. k)
    (λ a. cond-case G (pvl && same u (ascii "BEGIN_GROUP")) _ _ (λ e. k) (λ a. when_within (Narrow 1) (leb (length u) 60) (name u) (λ l. k))))))))

real_width : (o : Option Real) → When (Narrow 2) (then o (λ x. some (real x)))
real_width none = tt
real_width (some x) = omega arith

date_width : (o : Option Day) → When (Narrow 3) (then o (λ x. some (moment (at 1 x absent_time))))
date_width none = tt
date_width (some d) = omega arith

date_time_width : (o : Option Day) (t : Time) → When (Narrow 3) (then o (λ x. within (time_kept t) (moment (at 3 x t))))
date_time_width none t = tt
date_time_width (some d) t = when_within (Narrow 3) (time_kept t) (moment (at 3 d t)) (λ e. omega arith)

value_width : (m : Mode) (off : Bool) (v : Written) → When (Narrow (written_width v)) (value m off v)
value_width m off (an_identifier n) = named_width m.pvl off n
value_width m off (a_whole w) = when_within (Narrow 1) (fits w) (integer w) (λ e. omega arith)
value_width m off (a_based r neg ds) =
    let w = signed neg (in_base r 0 ds) in
    when_within (Narrow 1) (radix_kept r ds && fits w) (based w) (λ e. omega arith)
value_width m off (a_decimal neg ds fs z) = real_width (real_kept (held neg ds fs z))
value_width m off (a_date d) = date_width (day_of d)
value_width m off (a_time t) = when_within (Narrow 3) (time_kept t) (moment (at 2 absent_day t)) (λ e. omega arith)
value_width m off (a_date_time d t) = date_time_width (day_of d) t
value_width m off (a_range lo hi) = when_within (Narrow 4) (fits lo && fits hi) (range lo hi) (λ e. omega arith)

unsigned_some : {ds : List ℕ} → Unsigned ds → 1 ≤ length ds
unsigned_some {ds} u = leb-true 1 (length ds) u.some

integer_some : {w : List ℕ} {n : Whole} → Integer w n → 1 ≤ length w
integer_some (signed_digits {s} {ds} g u) = omega (arith, length-append s ds, unsigned_some u)

digits_some : {most : ℕ} {ds : List ℕ} → Digits 1 most ds → 1 ≤ length ds
digits_some {most} {ds} d = (between_out 1 most (length ds) d.count).0

exponent_some : {x : List ℕ} {z : Whole} → Exponent x z → 1 ≤ length x
exponent_some (upper i) = omega arith
exponent_some (lower i) = omega arith

real_size : {w : List ℕ} {v : Written} → Decimal w v → written_width v ≤ length w
real_size (pointed {s} {ds} {fs} {x} g a b l k) =
    omega (arith, length-append s (ds ++ 46 ∷ (fs ++ x)), length-append ds (46 ∷ (fs ++ x)), length-append fs x, length-append ds fs, leb-true 1 (length (ds ++ fs)) l)
real_size (bare {s} {ds} {x} g u k) = omega (arith, length-append s (ds ++ x), length-append ds x, unsigned_some u, exponent_some k)

date_size : {w : List ℕ} {d : Date} → DateWord w d → 3 ≤ length w
date_size (year_doy {y} {n} a b) = omega (arith, length-append y (45 ∷ n), (between_out 4 4 (length y) a.count).0)
date_size (year_month_day {y} {m} {d} a b c) = omega (arith, length-append y (45 ∷ (m ++ 45 ∷ d)), (between_out 4 4 (length y) a.count).0)

time_size : {w : List ℕ} {t : Time} → TimeWord w t → 3 ≤ length w
time_size (time {h} {mi} {s} {z} a b c d) = omega (arith, length-append h (58 ∷ (mi ++ (s ++ z))), length-append mi (s ++ z), digits_some a, digits_some b)

date_time_size : {w : List ℕ} {v : Written} → DateTime w v → written_width v ≤ length w
date_time_size (upper_t {d} {t} a b) = omega (arith, length-append d (84 ∷ t), date_size a)
date_time_size (lower_t {d} {t} a b) = omega (arith, length-append d (116 ∷ t), date_size a)

range_size : {w : List ℕ} {v : Written} → Range w v → written_width v ≤ length w
range_size (from_to {s} {ds} {w} g u i) = omega (arith, length-append s (ds ++ 46 ∷ 46 ∷ w), length-append ds (46 ∷ 46 ∷ w), unsigned_some u, integer_some i)

shape_size : {m : Mode} {w : List ℕ} {v : Written} → 1 ≤ length w → Shape m w v → written_width v ≤ length w
shape_size h (identifier_word i) = h
shape_size h (integer_word i) = h
shape_size h (based_word (in_radix u g a l)) = h
shape_size h (real_word k) = real_size k
shape_size h (date_word k) = date_size k
shape_size h (time_word k) = time_size k
shape_size h (date_time_word k) = date_time_size k
shape_size h (range_word p k) = range_size k

form_width : {m : Mode} {off : Bool} {w : List ℕ} {e : Elem} → 1 ≤ length w → Form m off w e → width e ≤ length w
form_width {m} {off} {w} {e} h (v, s, q) =
    let a : width e ≤ written_width v = subst (When (Narrow (written_width v))) q (value_width m off v) in
    omega (arith, shape_size h s)

-- ---- elements

spells_width : {m : Mode} {w r : List ℕ} {e : Elem} {q : ℕ} → Spells m w e q r → width e ≤ length w
spells_width (word t f) = form_width (omega arith) f
spells_width (sign b) = omega arith
spells_width (one_star n) = omega arith
spells_width two_stars = omega arith
spells_width (one_slash n) = omega arith
spells_width (quoted_text t) = omega arith
spells_width (quoted_symbol t l) = omega arith

-- the place past the last element leaves room for the widths of all
pub cut_widths : {m : Mode} {i j : ℕ} {l r : List ℕ} {es : List Placed} → Cut m i l es j r → i + widths es ≤ j
cut_widths none_more = omega arith
cut_widths (next g w h s c) = omega (arith, spells_width s, cut_widths c)
