-- No second outcome meets the contract of a row's writing, nor that of what the row leaves: for every number of blocks and every name there are such
-- blocks, and what is written within them decides the count and the room's last bytes.
use Prim.Native.Nat.{ℕ, zero, suc}
use mathlib.Core.Path.{◌≡◌, refl, sym, ap, ◌∙◌}
use mathlib.Core.List.{List, []}
use Rattle.rules.specs.Data.{Kind, object, Opens, outside, inside, depth}
use Rattle.rules.specs.Meaning.{Sense}
use Rattle.rules.specs.Written as rule
use Rattle.rows.specs.declared.Row.{Row}
use Rattle.rows.specs.declared.Row.TheVariants as rows
use Rattle.output.proofs.Once.{puts_once}
use Rattle.printing.specs.Lines.{prior_of, Enclosed, HeadingPut, ClosePut, RowPut, LinePut, PriorAfter}
use Rattle.printing.specs.declared.Prior.{Prior}
use Rattle.printing.specs.declared.Prior.TheVariants as priors

-- so many blocks
abbrev within : ℕ → Opens
within zero = outside
within (suc d) = inside object [] (within d)

within_deep : (d : ℕ) → depth (within d) ≡ d
within_deep zero = refl
within_deep (suc d) = ap suc (within_deep d)

-- so many blocks, the innermost of this name
enclosing : (d : ℕ) (top : List ℕ) → (o : Opens) × Enclosed o d top
enclosing zero top = (outside, record { deep = refl; named = tt })
enclosing (suc d) top = (inside object top (within d), record { deep = ap suc (within_deep d); named = refl })

module _ {q : rule.Prior} {d : ℕ} {room a b : List ℕ} {n m : ℕ} where
  pub heading_once : {s : Sense} → HeadingPut q d s room a n → HeadingPut q d s room b m → (n ≡ m) × (a ≡ b)
  heading_once u v = puts_once (u.puts (within d) (within_deep d)) (v.puts (within d) (within_deep d))

  pub close_once : {top : List ℕ} {k : Kind} → ClosePut q d top k room a n → ClosePut q d top k room b m → (n ≡ m) × (a ≡ b)
  close_once {top} u v = let o = enclosing d top in puts_once (u.puts o.0 o.1) (v.puts o.0 o.1)

  pub row_once : {given top : List ℕ} {row : Row} → RowPut given q d top row room a n → RowPut given q d top row room b m → (n ≡ m) × (a ≡ b)
  row_once {top = top} u v = let o = enclosing d top in puts_once (u.puts o.0 o.1) (v.puts o.0 o.1)

  -- both clauses of a row: a row that begins a line is decided by its line alone
  pub put_once : {given top : List ℕ} (row : Row) → RowPut given q d top row room a n × LinePut given q d top row room a n → RowPut given q d top row room b m × LinePut given q d top row room b m →
      (n ≡ m) × (a ≡ b)
  put_once (rows.Attribute i j) u v = heading_once u.1 v.1
  put_once (rows.Pointer i j) u v = heading_once u.1 v.1
  put_once (rows.Open k i j) u v = heading_once u.1 v.1
  put_once (rows.Close k) u v = close_once u.1 v.1
  put_once (rows.Integer p w) u v = row_once u.0 v.0
  put_once (rows.Float x) u v = row_once u.0 v.0
  put_once (rows.Time x) u v = row_once u.0 v.0
  put_once (rows.Text i j) u v = row_once u.0 v.0
  put_once (rows.Symbol i j) u v = row_once u.0 v.0
  put_once (rows.Unit o i j p w) u v = row_once u.0 v.0
  put_once rows.Sequence u v = row_once u.0 v.0
  put_once rows.SequenceEnd u v = row_once u.0 v.0
  put_once rows.Set u v = row_once u.0 v.0
  put_once rows.SetEnd u v = row_once u.0 v.0
  put_once (rows.Last i) u v = heading_once u.1 v.1

-- the code's own name of what a row leaves
abbrev of_rule : rule.Prior → Prior
of_rule rule.start = priors.Start
of_rule rule.heading = priors.Heading
of_rule rule.member = priors.Member
of_rule rule.factor = priors.Factor

again : (q : Prior) → of_rule (prior_of q) ≡ q
again priors.Start = refl
again priors.Heading = refl
again priors.Member = refl
again priors.Factor = refl

pub leaves_once : {row : Row} {u v : Prior} → PriorAfter row (prior_of u) → PriorAfter row (prior_of v) → u ≡ v
leaves_once {u = u} {v = v} x y = sym (again u) ∙ ap of_rule (x.is [] ∙ sym (y.is [])) ∙ again v
