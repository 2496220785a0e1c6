-- What is found in the table of a label that was read: the row of START_TIME, and the counter of the session. Terms of private contracts.
use Rattle.std.specs.Prelude.{ℕ, ◌≤◌, ◌<◌, ◌≡◌, List, ◌∷◌, length, Option, Some, None}
use Rattle.rules.specs.Data.{Span, Row, attribute}
use Rattle.rules.specs.Modes.{base}
use Rattle.rules.specs.Table.{table}
use Rattle.rules.specs.Reading.{accepted, Reads}
use Rattle.rules.specs.Asked.{From, stands, absent, Looks}
use Rattle.rules.specs.Book.{start_time, Under}

-- these bytes are the table of the label
pub record TableOf (label lent : List ℕ) (rows : List Row) : Type 0 where
  pub past : ℕ
  pub reads : Reads base label (accepted rows past)
  pub bytes : lent ≡ table rows

-- where the lookup finds START_TIME, from row 0: no place, or that of an attribute's row
pub data StartsAt (label lent : List ℕ) : Option ℕ → Type 0 where
  nowhere : ((rows : List Row) → TableOf label lent rows → Looks label start_time 0 rows absent) → StartsAt label lent None
  at_row : {k : ℕ} → k < length lent →
      ((rows : List Row) → TableOf label lent rows → Looks label start_time 0 rows (stands k) × (p : Span) × (rest : List Row) × From k rows (attribute p ∷ rest)) →
      StartsAt label lent (Some k)

-- the counter that the session goes under
pub record Counts (label lent : List ℕ) (n : ℕ) : Type 0 where
  pub is : (rows : List Row) → TableOf label lent rows → Under label rows n
  pub from : 1 ≤ n
  pub upto : n ≤ 8
