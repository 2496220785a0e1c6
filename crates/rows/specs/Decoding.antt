-- Bytes as the rules' reader of rows takes them: numbers and rows out of bodies, and the row at a place of any table.
use Rattle.std.specs.Prelude.{ℕ, zero, suc, ◌+◌, ◌-◌, ◌≤◌, ◌<◌, cond, ◌≡◌, List, [], ◌∷◌, ◌++◌, eqb, length, drop, Option, Some, None, Result, MatchResult}
use Rattle.rules.specs.Data as rule
use Rattle.rules.specs.Table.{op_number}
use Rattle.rules.proofs.Machine.Decoding.{Decoded, nothing, got, decode, field, byte_then, unit_then}
use Rattle.rows.specs.Rows.{row_of, op_of, longest_row}
use Rattle.rows.specs.declared.Kind as kind
use Rattle.rows.specs.declared.Kind.TheVariants as kinds
use Rattle.rows.specs.declared.Op as op
use Rattle.rows.specs.declared.Op.TheVariants as ops
use Rattle.rows.specs.declared.UnknownOp.{UnknownOp}
use Rattle.rows.specs.declared.Row.{Row}

-- the first n bytes of a body, and 0 for each that it lacks
unfoldable pub fit : ℕ → List ℕ → List ℕ
fit zero b = []
fit (suc n) [] = 0 ∷ fit n []
fit (suc n) (x ∷ b) = x ∷ fit n b

-- a number of k bytes at a place of the body b, after the bytes that gave a
pub record NumberAt (k a : ℕ) (b : List ℕ) (i r : ℕ) : Type 0 where
  pub then : (n : ℕ) → i + k ≤ n → (rest : List ℕ) (f : ℕ → List ℕ → Decoded) →
      field k a (drop i (fit n b) ++ rest) f ≡ f r (drop (i + k) (fit n b) ++ rest)

-- the byte at a place of it
pub record OctetAt (b : List ℕ) (i r : ℕ) : Type 0 where
  pub then : (n : ℕ) → i + 1 ≤ n → (rest : List ℕ) (f : ℕ → List ℕ → Decoded) →
      byte_then (drop i (fit n b) ++ rest) f ≡ f r (drop (i + 1) (fit n b) ++ rest)

-- how many bytes follow the byte of a row's kind; none where there is no such kind
abbrev pub body_of : ℕ → ℕ
body_of k =
    cond (eqb k 1) 4 (cond (eqb k 2) 4 (cond (eqb k 3) 4 (cond (eqb k 5) 4 (cond (eqb k 10) 8 (cond (eqb k 11) 10
    (cond (eqb k 12) (longest_row - 1) (cond (eqb k 13) 4 (cond (eqb k 14) 4 (cond (eqb k 15) 6 (cond (eqb k 99) 2 0))))))))))

-- a row of kind k with the body b, whatever comes after it
pub record Body (k : ℕ) (b : List ℕ) (r : Row) : Type 0 where
  pub is : (rest : List ℕ) → decode (k ∷ (fit (body_of k) b ++ rest)) ≡ got (row_of r) rest

-- the operator that has a number, and none where the number is past them
abbrev pub Numbered : ℕ → Result op.Op UnknownOp → Type 0
Numbered n r = MatchResult r (λ p. op_number (op_of p) ≡ n) (λ e. 2 < n)

-- a unit with this operator, its byte gone before
pub record UnitBody (p : op.Op) (b : List ℕ) (r : Row) : Type 0 where
  pub is : (rest : List ℕ) → unit_then (op_number (op_of p)) (drop 1 (fit 6 b) ++ rest) ≡ got (row_of r) rest

-- the row of kind k with the body b, if there is one
pub data BodyGives (k : ℕ) (b : List ℕ) : Option Row → Type 0 where
  gives_none : ((rest : List ℕ) → decode (k ∷ (fit (body_of k) b ++ rest)) ≡ nothing) → BodyGives k b None
  gives_row : {r : Row} → Body k b r → BodyGives k b (Some r)

-- the row at a place of any table, and the place after it
pub data Decodes (lent : List ℕ) (at : ℕ) : Option (Row × ℕ) → Type 0 where
  no_row : decode (drop at lent) ≡ nothing → Decodes lent at None
  a_row : {row : Row} {next : ℕ} → decode (drop at lent) ≡ got (row_of row) (drop next lent) →
      at < next → next ≤ length lent → Decodes lent at (Some (row, next))

-- ---- back from the rules to the code

abbrev pub kind_back : rule.Kind → kind.Kind
kind_back rule.object = kinds.Object
kind_back rule.group = kinds.Group

abbrev pub op_back : rule.Op → op.Op
op_back rule.first = ops.First
op_back rule.times = ops.Times
op_back rule.divided = ops.Divided
