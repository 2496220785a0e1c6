-- What is written for each row is the row's bytes, and how many they are at most.
use mathlib.Core.Path.{◌≡◌, ap, ap₂, subst}
use mathlib.Core.Bool.{Bool, true, cond}
use mathlib.Core.List.{List, [], ◌∷◌, ◌++◌}
use Prim.Native.Nat.{ℕ, ◌-◌, ◌≤◌}
use native.Mathlib.Omega.{arith}
use lib.Dec.{leb}
use lib.ListN.{length}
use borrow.Author.Tests.{leb-true}
use borrow.Author.Rules.{rules}
use Rattle.rules.specs.Data as rule
use Rattle.rules.specs.Table.{bytes, complement, op_number, open_kind, close_kind, encode}
use Rattle.words.specs.Says.{whole}
use Rattle.words.specs.declared.Real.{Real}
use Rattle.words.specs.declared.Moment.{Moment}
use Rattle.rows.specs.Rows.{kind_of, op_of, row_of, longest_row, Wrote}
use Rattle.rows.specs.declared.Row.{Row}
use Rattle.rows.specs.declared.Row.TheVariants as rows
use Rattle.rows.specs.declared.Kind.{Kind}
use Rattle.rows.specs.declared.Op.{Op}

module _ {row : Row} {x y : List ℕ} {n : ℕ} where
  -- bytes that are the row's by computation
  pub encodes : {w : Row} → row ≡ w → Wrote (encode (row_of w)) x y n → Wrote (encode (row_of row)) x y n
  encodes h p = rw h p

  -- bytes that are the row's by what the parts of the code say
  is : {w : Row} {v : List ℕ} → row ≡ w → v ≡ encode (row_of w) → Wrote v x y n → Wrote (encode (row_of row)) x y n
  is h e p = rw h (subst (λ (z : List ℕ). Wrote z x y n) e p)

  pub encodes_open : {k : Kind} {a b c : ℕ} → row ≡ rows.Open k a b → c ≡ open_kind (kind_of k) → Wrote (c ∷ (bytes 2 a ++ bytes 2 b)) x y n → Wrote (encode (row_of row)) x y n
  encodes_open {a = a} {b = b} h e p = is h (ap (λ (z : ℕ). z ∷ (bytes 2 a ++ bytes 2 b)) e) p

  pub encodes_close : {k : Kind} {c : ℕ} → row ≡ rows.Close k → c ≡ close_kind (kind_of k) → Wrote (c ∷ []) x y n → Wrote (encode (row_of row)) x y n
  encodes_close h e p = is h (ap (λ (z : ℕ). z ∷ []) e) p

  pub encodes_integer : (t : ℕ) {m : Bool} {v : ℕ} → row ≡ rows.Integer m v → bytes 8 t ≡ complement 8 (whole m v) → Wrote (10 ∷ bytes 8 t) x y n → Wrote (encode (row_of row)) x y n
  encodes_integer t h e p = is h (ap (λ (z : List ℕ). 10 ∷ z) e) p

  pub encodes_real : (t u : ℕ) {f : Real} → row ≡ rows.Float f → bytes 8 t ≡ complement 8 (whole f.minus f.number) → u ≡ cond f.below (65536 - f.power) f.power →
      Wrote (11 ∷ (bytes 8 t ++ bytes 2 u)) x y n → Wrote (encode (row_of row)) x y n
  encodes_real t u h e d p = is h (ap₂ (λ (z w : List ℕ). 11 ∷ (z ++ w)) e (ap (bytes 2) d)) p

  pub encodes_moment : (u : ℕ) {f : Moment} → row ≡ rows.Time f → u ≡ cond f.west (65536 - f.offset) f.offset →
      Wrote (12 ∷ f.parts ∷ (bytes 2 f.year ++ (f.month ∷ f.day ∷ f.hour ∷ f.minute ∷ f.second ∷ (bytes 4 f.nanoseconds ++ (bytes 2 u ++ (f.mark ∷ [])))))) x y n → Wrote (encode (row_of row)) x y n
  encodes_moment u {f} h e p =
      is h (ap (λ (z : List ℕ). 12 ∷ f.parts ∷ (bytes 2 f.year ++ (f.month ∷ f.day ∷ f.hour ∷ f.minute ∷ f.second ∷ (bytes 4 f.nanoseconds ++ (z ++ (f.mark ∷ [])))))) (ap (bytes 2) e)) p

  pub encodes_unit : {o : Op} {a b v c u : ℕ} {m : Bool} → row ≡ rows.Unit o a b m v → c ≡ op_number (op_of o) → u ∷ [] ≡ complement 1 (whole m v) →
      Wrote (15 ∷ c ∷ (bytes 2 a ++ (bytes 2 b ++ (u ∷ [])))) x y n → Wrote (encode (row_of row)) x y n
  encodes_unit {a = a} {b = b} h e d p = is h (ap₂ (λ (z : ℕ) (w : List ℕ). 15 ∷ z ∷ (bytes 2 a ++ (bytes 2 b ++ w))) e d) p

-- the room that a row wants
pub room_for : {row w : Row} {k n : ℕ} → row ≡ w → length (encode (row_of row)) ≤ n → leb k (length (encode (row_of w))) ≡ true → k ≤ n
room_for {w = w} {k = k} h p t = let q : length (encode (row_of w)) ≤ _ = rw h at p in omega (arith, leb-true k (length (encode (row_of w))) t, q)

-- no row is longer
pub longest_row_lem : (r : rule.Row) → length (encode r) ≤ longest_row
longest_row_lem (rule.attribute p) = omega arith
longest_row_lem (rule.pointer p) = omega arith
longest_row_lem (rule.opened k p) = omega arith
longest_row_lem (rule.closed k) = omega arith
longest_row_lem (rule.an_integer w) = omega arith
longest_row_lem (rule.a_real x) = omega arith
longest_row_lem (rule.a_moment t) = omega arith
longest_row_lem (rule.a_text p) = omega arith
longest_row_lem (rule.a_symbol p) = omega arith
longest_row_lem (rule.a_unit o p w) = omega arith
longest_row_lem rule.sequence = omega arith
longest_row_lem rule.sequence_end = omega arith
longest_row_lem rule.set = omega arith
longest_row_lem rule.set_end = omega arith
longest_row_lem (rule.last n) = omega arith

pub ruleset encodings = (encodes, encodes_open, encodes_close, encodes_integer, encodes_real, encodes_moment, encodes_unit, room_for, rules)
