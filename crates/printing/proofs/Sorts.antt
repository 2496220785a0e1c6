-- What each sort of row writes: what stands before it, and its own bytes; and what it is to the row after it.
use Prim.Native.Nat.{ℕ, ◌-◌, ◌≤◌}
use mathlib.Core.Bool.{false, cond}
use mathlib.Core.Path.{◌≡◌, refl, sym, ◌∙◌}
use mathlib.Core.List.{List, [], ◌++◌, append_assoc}
use native.Mathlib.Omega.{arith}
use borrow.Author.Tests.{eq-eqb, ne_eqb}
use lib.Dec.{eqb}
use Rattle.rules.specs.Bytes.{ascii}
use Rattle.rules.specs.Data as rule
use Rattle.rules.specs.Data.{Opens, outside, inside, depth, attribute, pointer, opened, closed, an_integer, a_real, a_moment, a_text, a_symbol, a_unit, sequence, sequence_end, set, set_end, last}
use Rattle.rules.specs.Meaning.{sense}
use Rattle.rules.specs.Written.{Prior, prior, units_end, lead, new_line, close_word, writes}
use Rattle.rows.specs.Rows.{kind_of, row_of}
use Rattle.rows.specs.declared.Kind.{Kind}
use Rattle.rows.specs.declared.Row.{Row}
use Rattle.rows.specs.declared.Row.TheVariants as rows
use Rattle.output.specs.Puts.{Puts}
use Rattle.output.proofs.Laws.{same_part}
use Rattle.printing.specs.Lines.{before, own, row_bound, Innermost, Enclosed, LinePut, PriorAfter}

-- ---- what a row is to the row after it

-- nothing of the label counts
same_prior : (given : List ℕ) (r : rule.Row) → prior (sense [] r) ≡ prior (sense given r)
same_prior given (attribute p) = refl
same_prior given (pointer p) = refl
same_prior given (opened k p) = refl
same_prior given (closed k) = refl
same_prior given (an_integer w) = refl
same_prior given (a_real x) = refl
same_prior given (a_moment t) = refl
same_prior given (a_text p) = refl
same_prior given (a_symbol p) = refl
same_prior given (a_unit op p w) = refl
same_prior given sequence = refl
same_prior given sequence_end = refl
same_prior given set = refl
same_prior given set_end = refl
same_prior given (last n) = refl

pub left_as : {row w : Row} {p : Prior} → row ≡ w → p ≡ prior (sense [] (row_of w)) → PriorAfter row p
left_as {w = w} h e = record { is = λ given. rw h (e ∙ same_prior given (row_of w)) }

-- ---- what a row writes

-- a row that begins a line, within so many blocks
opening : (q : Prior) (d : ℕ) (w : List ℕ) (o : Opens) → depth o ≡ d → (units_end q ++ new_line q d) ++ w ≡ units_end q ++ (new_line q (depth o) ++ w)
opening q d w o e = rw e (append_assoc (units_end q) (new_line q d) w)

-- a closing row, within so many blocks
closing : (q : Prior) (d : ℕ) (top : List ℕ) (k : Kind) (o : Opens) → depth o ≡ d → Innermost top o →
    (units_end q ++ new_line q (d - 1)) ++ (close_word (kind_of k) ++ cond (eqb d 0) [] (ascii " = " ++ top)) ≡ writes q o (closed (kind_of k))
closing q d top k outside a b =
    let z : d - 1 ≡ 0 = omega arith in
    rw (z, eq-eqb d 0 (sym a)) (append_assoc (units_end q) (new_line q 0) _)
closing q d top k (inside l t o) a b =
    let z : d - 1 ≡ depth o = omega arith in
    let f : eqb d 0 ≡ false = ne_eqb d 0 (λ c. omega arith) in
    rw (z, f, b) (append_assoc (units_end q) (new_line q (depth o)) _)

pub row_bytes : (given : List ℕ) (q : Prior) (d : ℕ) (top : List ℕ) (row : Row) (o : Opens) → Enclosed o d top → before q d row ++ own given d top row ≡ writes q o (sense given (row_of row))
row_bytes given q d top (rows.Attribute a b) o e = opening q d _ o e.deep
row_bytes given q d top (rows.Pointer a b) o e = opening q d _ o e.deep
row_bytes given q d top (rows.Open k a b) o e = opening q d _ o e.deep
row_bytes given q d top (rows.Close k) o e = closing q d top k o e.deep e.named
row_bytes given q d top (rows.Integer m n) o e = append_assoc (units_end q) (lead q) _
row_bytes given q d top (rows.Float x) o e = append_assoc (units_end q) (lead q) _
row_bytes given q d top (rows.Time x) o e = append_assoc (units_end q) (lead q) _
row_bytes given q d top (rows.Text a b) o e = append_assoc (units_end q) (lead q) _
row_bytes given q d top (rows.Symbol a b) o e = append_assoc (units_end q) (lead q) _
row_bytes given q d top (rows.Unit p a b m n) o e = refl
row_bytes given q d top rows.Sequence o e = append_assoc (units_end q) (lead q) _
row_bytes given q d top rows.SequenceEnd o e = refl
row_bytes given q d top rows.Set o e = append_assoc (units_end q) (lead q) _
row_bytes given q d top rows.SetEnd o e = refl
row_bytes given q d top (rows.Last a) o e = opening q d _ o e.deep

-- of a row that begins a line, whatever the blocks are
pub line_put : (given : List ℕ) (q : Prior) (d : ℕ) (top : List ℕ) (row : Row) {x y : List ℕ} {n : ℕ} → Puts (before q d row ++ own given d top row) x y n → n ≤ row_bound → LinePut given q d top row x y n
line_put given q d top (rows.Attribute a b) p m = record { puts = λ o e. same_part (opening q d _ o e) p; most = m }
line_put given q d top (rows.Pointer a b) p m = record { puts = λ o e. same_part (opening q d _ o e) p; most = m }
line_put given q d top (rows.Open k a b) p m = record { puts = λ o e. same_part (opening q d _ o e) p; most = m }
line_put given q d top (rows.Close k) p m = record { puts = λ o e. same_part (closing q d top k o e.deep e.named) p; most = m }
line_put given q d top (rows.Integer v w) p m = tt
line_put given q d top (rows.Float v) p m = tt
line_put given q d top (rows.Time v) p m = tt
line_put given q d top (rows.Text a b) p m = tt
line_put given q d top (rows.Symbol a b) p m = tt
line_put given q d top (rows.Unit op a b v w) p m = tt
line_put given q d top rows.Sequence p m = tt
line_put given q d top rows.SequenceEnd p m = tt
line_put given q d top rows.Set p m = tt
line_put given q d top rows.SetEnd p m = tt
line_put given q d top (rows.Last a) p m = record { puts = λ o e. same_part (opening q d _ o e) p; most = m }
