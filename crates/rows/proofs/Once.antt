-- No second outcome meets the contracts of this crate.
use Prim.Native.Nat.{ℕ, ◌+◌, ◌-◌, ◌<◌, ◌^◌}
use native.Mathlib.Omega.{arith}
use Rattle.std.specs.Prelude.{Option, Some, None, Result, Ok, Err}
use mathlib.Core.Path.{◌≡◌, refl, sym, ap, ◌∙◌}
use mathlib.Core.List.{List, [], ◌∷◌, head-eq_of_cons-eq}
use lib.ListN.{length, drop, length-drop}
use Rattle.rules.specs.Data as rule
use Rattle.rules.specs.Table.{bytes, op_number}
use Rattle.rules.proofs.Tables.Numbers.{value_onto, bytes_back}
use Rattle.rules.proofs.Machine.Decoding.{Decoded, nothing, got, decode, op_numbered}
use Rattle.rules.proofs.Tables.DecodeComplete.{got_same, nothing_got}
use Rattle.rows.specs.Rows.{op_of, row_of, Wrote}
use Rattle.words.proofs.Once.{real_of_lem, moment_of_lem}
use Rattle.rows.specs.Decoding.{NumberAt, OctetAt, Numbered, BodyGives, gives_none, gives_row, Decodes, no_row, a_row, kind_back, op_back}
use Rattle.rows.specs.declared.Kind.TheVariants as kinds
use Rattle.rows.specs.declared.Op.{Op}
use Rattle.rows.specs.declared.Op.TheVariants as ops
use Rattle.rows.specs.declared.UnknownOp.{UnknownOp}
use Rattle.rows.specs.declared.Row.{Row}
use Rattle.rows.specs.declared.Row.TheVariants as rows

-- ---- into bytes

pub wrote_once : {w before after after' : List ℕ} {n n' : ℕ} → Wrote w before after n → Wrote w before after' n' → (n ≡ n') × (after ≡ after')
wrote_once a b = (a.count ∙ sym b.count, a.bytes ∙ sym b.bytes)

-- a number that fits so many bytes is known by them: a u64 by eight
pub twos_once : (k a b : ℕ) {l : List ℕ} → a < 256 ^ k → b < 256 ^ k → bytes k a ≡ l → bytes k b ≡ l → a ≡ b
twos_once k a b h i e f = sym (bytes_back k a h) ∙ ap (value_onto 256 0) (e ∙ sym f) ∙ bytes_back k b i

pub byte_once : {a b : ℕ} {l : List ℕ} → a ∷ [] ≡ l → b ∷ [] ≡ l → a ≡ b
byte_once e f = head-eq_of_cons-eq (e ∙ sym f)

-- ---- numbers out of bytes

-- a reader that hands the number on
abbrev handed : ℕ → List ℕ → Decoded
handed v s = got (rule.last v) s

same_number : {v w : ℕ} {s t : List ℕ} → handed v s ≡ handed w t → v ≡ w
same_number e = cc

pub number_once : {k a i r r' : ℕ} {b : List ℕ} → NumberAt k a b i r → NumberAt k a b i r' → r ≡ r'
number_once {k} {a} {i} {b = b} x y = same_number (sym (x.then (i + k) (omega arith) [] handed) ∙ y.then (i + k) (omega arith) [] handed)

pub octet_once : {i r r' : ℕ} {b : List ℕ} → OctetAt b i r → OctetAt b i r' → r ≡ r'
octet_once {i} x y = same_number (sym (x.then (i + 1) (omega arith) [] handed) ∙ y.then (i + 1) (omega arith) [] handed)

-- ---- an operator by its number

op_again : (p : Op) → op_back (op_numbered (op_number (op_of p))) ≡ p
op_again ops.First = refl
op_again ops.Times = refl
op_again ops.Divided = refl

no_further : (p : Op) {n : ℕ} → op_number (op_of p) ≡ n → 2 < n → ⊥
no_further ops.First e h = omega arith
no_further ops.Times e h = omega arith
no_further ops.Divided e h = omega arith

pub op_once : (n : ℕ) {r r' : Result Op UnknownOp} → Numbered n r → Numbered n r' → r ≡ r'
op_once n {r = Ok p} {r' = Ok q} x y = ap Ok (sym (op_again p) ∙ ap (λ (n : ℕ). op_back (op_numbered n)) (x ∙ sym y) ∙ op_again q)
op_once n {r = Ok p} {r' = Err e} x y = absurd (no_further p x y)
op_once n {r = Err e} {r' = Ok q} x y = absurd (no_further q y x)
op_once n {r = Err e} {r' = Err f} x y = refl

-- ---- rows out of bytes

-- the code's row for a row of the rules
abbrev row_back : rule.Row → Row
row_back (rule.attribute p) = rows.Attribute p.from p.upto
row_back (rule.pointer p) = rows.Pointer p.from p.upto
row_back (rule.opened k p) = rows.Open (kind_back k) p.from p.upto
row_back (rule.closed k) = rows.Close (kind_back k)
row_back (rule.an_integer w) = rows.Integer w.minus w.size
row_back (rule.a_real x) = rows.Float (real_of_lem x)
row_back (rule.a_moment t) = rows.Time (moment_of_lem t)
row_back (rule.a_text p) = rows.Text p.from p.upto
row_back (rule.a_symbol p) = rows.Symbol p.from p.upto
row_back (rule.a_unit o p w) = rows.Unit (op_back o) p.from p.upto w.minus w.size
row_back rule.sequence = rows.Sequence
row_back rule.sequence_end = rows.SequenceEnd
row_back rule.set = rows.Set
row_back rule.set_end = rows.SetEnd
row_back (rule.last n) = rows.Last n

-- and for what the reader of rows gives, in a table of this size
abbrev got_in : ℕ → Decoded → Option (Row × ℕ)
got_in size nothing = None
got_in size (got r s) = Some (row_back r, size - length s)

-- the answer at a place of any table, past its end too
unfoldable got_at : List ℕ → ℕ → Option (Row × ℕ)
got_at lent at = got_in (length lent) (decode (drop at lent))

again : (r : Row) → row_back (row_of r) ≡ r
again (rows.Attribute a b) = refl
again (rows.Pointer a b) = refl
again (rows.Open kinds.Object a b) = refl
again (rows.Open kinds.Group a b) = refl
again (rows.Close kinds.Object) = refl
again (rows.Close kinds.Group) = refl
again (rows.Integer m n) = refl
again (rows.Float x) = refl
again (rows.Time x) = refl
again (rows.Text a b) = refl
again (rows.Symbol a b) = refl
again (rows.Unit ops.First a b m n) = refl
again (rows.Unit ops.Times a b m n) = refl
again (rows.Unit ops.Divided a b m n) = refl
again rows.Sequence = refl
again rows.SequenceEnd = refl
again rows.Set = refl
again rows.SetEnd = refl
again (rows.Last a) = refl

-- no two rows of the code are one of the rules
pub row_once : {r r' : Row} → row_of r ≡ row_of r' → r ≡ r'
row_once {r} {r'} e = sym (again r) ∙ ap row_back e ∙ again r'

pub body_once : {k : ℕ} {b : List ℕ} {g g' : Option Row} → BodyGives k b g → BodyGives k b g' → g ≡ g'
body_once (gives_none e) (gives_none f) = refl
body_once (gives_none e) (gives_row f) = absurd (nothing_got (sym (e []) ∙ f.is []))
body_once (gives_row e) (gives_none f) = absurd (nothing_got (sym (f []) ∙ e.is []))
body_once (gives_row e) (gives_row f) = ap (λ (r : Row). Some r) (row_once (got_same (sym (e.is []) ∙ f.is [])).0)

pub same_row : {r r' : Row} {n n' : ℕ} → r ≡ r' → n ≡ n' → ◌≡◌ {A = Option (Row × ℕ)} (Some (r, n)) (Some (r', n'))
same_row e f = rw (e, f)

row_at_is : {lent : List ℕ} {at : ℕ} {g : Option (Row × ℕ)} → Decodes lent at g → g ≡ got_at lent at
unfolding got_at
row_at_is {lent} (no_row e) = sym (ap (got_in (length lent)) e)
row_at_is {lent} (a_row {row} {next} e l m) =
    let n : next ≡ length lent - length (drop next lent) = omega (arith, length-drop next lent) in
    same_row (sym (again row)) n ∙ sym (ap (got_in (length lent)) e)

pub row_at_once : {lent : List ℕ} {at : ℕ} {g g' : Option (Row × ℕ)} → Decodes lent at g → Decodes lent at g' → g ≡ g'
row_at_once x y = row_at_is x ∙ sym (row_at_is y)
