-- Rows by their bytes: what a row does and how long it is, by its kind; the span of a name; and the counter of the value behind an attribute.
use Rattle.std.specs.Prelude.{ℕ, ◌+◌, ◌*◌, cond, List, ltb, eqb, get_or}
use Rattle.rules.specs.Data.{Span}
use Rattle.rules.specs.Book.{undated}
use Rattle.book.specs.Dates.{weekday_by}
use Rattle.book.specs.declared.kinds.Way.{Way}
use Rattle.book.specs.declared.kinds.Way.TheVariants.{Named, Plain, Opening, Closing, Ending}

-- 1 attribute, 3 and 5 OBJECT and GROUP, 4 and 6 their ends, 99 last row
abbrev pub way_of : ℕ → Way
way_of k =
    cond (eqb k 99) Ending (cond (eqb k 1) Named (cond (eqb k 3) Opening (cond (eqb k 4) Closing (cond (eqb k 5) Opening (cond (eqb k 6) Closing
    Plain)))))

-- The byte of kind and the body: 99 last row; 20 to 23 a sequence, a set and their ends; 4 and 6 ends of blocks; 10 integer; 11 real; 12 date
-- or time; 15 unit; and the kinds with a span, of 5 bytes
abbrev pub length_of : ℕ → ℕ
length_of k =
    cond (eqb k 99) 3 (cond (ltb 15 k) 1 (cond (eqb k 4) 1 (cond (eqb k 6) 1 (cond (eqb k 10) 9 (cond (eqb k 11) 11 (cond (eqb k 12) 16
    (cond (eqb k 15) 7 5)))))))

-- the number of two bytes at a place
abbrev pub number_at : List ℕ → ℕ → ℕ
number_at lent at = get_or lent at 0 * 256 + get_or lent (at + 1) 0

-- the span of the row at a place
abbrev pub span_at : List ℕ → ℕ → Span
span_at lent at = record { from = number_at lent (at + 1); upto = number_at lent (at + 3) }

-- the weekday of the date at a place: year, month, day
abbrev pub weekday_at : List ℕ → ℕ → ℕ
weekday_at lent at = weekday_by (number_at lent at) (get_or lent (at + 2) 0) (get_or lent (at + 3) 0)

-- The counter of the value behind the attribute whose row starts at a place: of kind 12 with parts 1 or 3, and of any other.
abbrev pub counter_behind : List ℕ → ℕ → ℕ
counter_behind lent at =
    cond (eqb (get_or lent (at + 5) 0) 12)
    (cond (eqb (get_or lent (at + 6) 0) 1) (weekday_at lent (at + 7)) (cond (eqb (get_or lent (at + 6) 0) 3) (weekday_at lent (at + 7)) undated)) undated
