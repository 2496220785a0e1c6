-- The counter of a session, by the bytes of its label's table: the value behind START_TIME, and that there is none.
use Prim.Native.Nat.{ℕ, ◌+◌, ◌*◌, ◌/◌, ◌%◌, ◌≤◌}
use mathlib.Core.Path.{◌≡◌, refl, sym, ap, subst, ◌∙◌}
use mathlib.Core.Bool.{cond}
use mathlib.Core.List.{List, [], ◌∷◌, ◌++◌}
use native.Mathlib.Omega.{arith}
use lib.Dec.{eqb}
use Rattle.std.specs.Prelude.{Option, Some, None}
use lib.ListN.{get_or}
use borrow.Author.Rules.{rules}
use Rattle.rules.specs.Data.{Span, Moment, Row, attribute, pointer, opened, closed, object, group, an_integer, a_real, a_moment, a_text, a_symbol, a_unit, sequence, sequence_end, set, set_end, last}
use Rattle.rules.specs.Modes.{base}
use Rattle.rules.specs.Proper.{Each, one}
use Rattle.rules.specs.Table.{encode, table}
use Rattle.rules.specs.Calendar.{weekday}
use Rattle.rules.specs.Asked.{From, stands}
use Rattle.rules.specs.Book.{date_of, undated, Under, no_start}
use Rattle.rules.proofs.Machine.Limits.{Dated, MomentHeld, date_alone, time_alone, date_and_time, Valued}
use Rattle.rules.proofs.Machine.Lookup.{from_of}
use Rattle.rules.proofs.Tables.Tests.{cond-case}
use Rattle.rules.proofs.Tables.OwnTable.{read_valued}
use Rattle.rules.proofs.Tables.Seeking.{from_is, from_next, from_each}
use Rattle.rules.proofs.Book.Counting.{dating_of, dating_in, under_date, under_by}
use Rattle.rules.proofs.Book.Counters.{Counter}
use Rattle.book.specs.Dates.{weekday_by}
use Rattle.book.specs.Kinds.{counter_behind}
use Rattle.book.specs.Sessions.{TableOf, StartsAt, nowhere, at_row, Counts}
use Rattle.book.proofs.Weekdays.{weekday_by_lem}
use Rattle.book.proofs.Walk.{two_bytes, byte_there}

-- ---- the counter of a value, by its bytes

abbrev date_in : List ℕ → ℕ
date_in w = weekday_by (get_or w 2 0 * 256 + get_or w 3 0) (get_or w 4 0) (get_or w 5 0)

abbrev counter_in : List ℕ → ℕ
counter_in w = cond (eqb (get_or w 0 0) 12) (cond (eqb (get_or w 1 0) 1) (date_in w) (cond (eqb (get_or w 1 0) 3) (date_in w) undated)) undated

date_counts : (t : Moment) → Dated t → weekday_by ((t.year / 256) % 256 * 256 + (t.year / 1) % 256) t.month t.day ≡ weekday (date_of t)
date_counts t d =
    ap (λ (y : ℕ). weekday_by y t.month t.day) (two_bytes t.year (omega (arith, d.year_most))) ∙
    weekday_by_lem t.year t.month t.day (omega (arith, d.year_least)) (omega (arith, d.month_least)) (omega (arith, d.month_most))

moment_counts : (t : Moment) (rest : List ℕ) → MomentHeld t → counter_in (encode (a_moment t) ++ rest) ≡ under_date (dating_of (a_moment t))
moment_counts t rest (date_alone p d u) = rw p (date_counts t d)
moment_counts t rest (time_alone p u h) = rw p
moment_counts t rest (date_and_time p d h) = rw p (date_counts t d)

value_counts : (x : Row) (rest : List ℕ) → Valued x → counter_in (encode x ++ rest) ≡ under_date (dating_of x)
value_counts (attribute p) rest v = refl
value_counts (pointer p) rest v = refl
value_counts (opened object p) rest v = refl
value_counts (opened group p) rest v = refl
value_counts (closed object) rest v = refl
value_counts (closed group) rest v = refl
value_counts (an_integer w) rest v = refl
value_counts (a_real y) rest v = refl
value_counts (a_moment t) rest v = moment_counts t rest v
value_counts (a_text p) rest v = refl
value_counts (a_symbol p) rest v = refl
value_counts (a_unit op p w) rest v = refl
value_counts sequence rest v = refl
value_counts sequence_end rest v = refl
value_counts set rest v = refl
value_counts set_end rest v = refl
value_counts (last n) rest v = refl

behind_counts : (p : Span) (qs : List Row) → Each Valued qs → counter_in (table qs) ≡ under_date (dating_in (attribute p ∷ qs))
behind_counts p [] e = refl
behind_counts p (x ∷ rs) (one v vs) = value_counts x (table rs) v

-- whatever the bytes are, it is the number of a counter
of_week : (n : ℕ) → Counter (1 + n % 7)
of_week n = record { from = omega arith; upto = omega arith }

of_undated : Counter undated
of_undated = record { from = omega arith; upto = omega arith }

behind_range : (lent : List ℕ) (k : ℕ) → Counter (counter_behind lent k)
behind_range lent k =
    cond-case Counter (eqb (get_or lent (k + 5) 0) 12) _ _ (λ a. cond-case Counter (eqb (get_or lent (k + 6) 0) 1) _ _ (λ b. of_week _) (λ b.
    cond-case Counter (eqb (get_or lent (k + 6) 0) 3) _ _ (λ c. of_week _) (λ c. of_undated))) (λ a. of_undated)

-- ---- the counter of a session

module _ {label lent : List ℕ} where
  -- the bytes behind an attribute's row
  value_there : {rows qs : List Row} {k : ℕ} {p : Span} → TableOf label lent rows → From k rows (attribute p ∷ qs) → counter_behind lent k ≡ counter_in (table qs)
  value_there {k = k} t f =
      let y : k + 7 + 1 ≡ k + 8 = omega arith in
      let m : k + 7 + 2 ≡ k + 9 = omega arith in
      let d : k + 7 + 3 ≡ k + 10 = omega arith in
      rw (y, m, d, byte_there label lent t f 5, byte_there label lent t f 6, byte_there label lent t f 7, byte_there label lent t f 8, byte_there label lent t f 9, byte_there label lent t f 10)

  pub no_start_counts : {r : Option ℕ} → StartsAt label lent r → r ≡ None → Counts label lent 8
  no_start_counts s e = go (subst (StartsAt label lent) e s)
    where
      go : StartsAt label lent None → Counts label lent 8
      go (nowhere g) = record { is = λ rows t. no_start (g rows t); from = omega arith; upto = omega arith }

  pub start_counts : {r : Option ℕ} {k n : ℕ} → StartsAt label lent r → r ≡ Some k → n ≡ counter_behind lent k → Counts label lent n
  start_counts {k = k} {n = n} s e c = go (subst (StartsAt label lent) e s)
    where
      go : StartsAt label lent (Some k) → Counts label lent n
      go (at_row h g) = record {
        is = λ rows t.
            let o = g rows t in
            let v = from_each (from_next o.3) (read_valued base label t.reads) in
            let q : under_date (dating_in (from_of k rows)) ≡ n = ap (λ (l : List Row). under_date (dating_in l)) (from_is o.3) ∙ sym (behind_counts o.1 o.2 v) ∙ sym (value_there t o.3) ∙ sym c in
            subst (Under label rows) q (under_by rows (stands k) o.0);
        from = subst (λ (i : ℕ). 1 ≤ i) (sym c) (behind_range lent k).from;
        upto = subst (λ (i : ℕ). i ≤ 8) (sym c) (behind_range lent k).upto;
      }

pub ruleset sessions = (no_start_counts, start_counts, rules)
