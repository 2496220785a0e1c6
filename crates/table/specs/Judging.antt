-- What the check says of a table, in terms of the rules, and in the paper's numbers.
use Rattle.std.specs.Prelude.{List, ℕ, Result, Ok, Err}
use Rattle.rules.specs.Data.{Row}
use Rattle.rules.specs.Proper.{Verdict, Ruled, proper_rows, improper_at}
use Rattle.rules.specs.Reading.{Said}
use Rattle.table.specs.declared.Improper.{Improper}

-- the answer is the rules' verdict on the table's bytes over the label's
pub data Judges (label table : List ℕ) : Result (Unit {0}) Improper → Type 0 where
  proper : (rows : List Row) → Ruled label table (proper_rows rows) → Judges label table (Ok tt)
  improper : {e : Improper} → Ruled label table (improper_at e.0) → Judges label table (Err e)

-- code and place of each answer; no length belongs to a check
abbrev pub said : Result (Unit {0}) Improper → Said
said (Ok t) = record { code = 0; place = 0; size = 0 }
said (Err e) = record { code = 12; place = e.0; size = 0 }

-- the same of the rules' verdict
abbrev pub verdict_said : Verdict → Said
verdict_said (proper_rows rows) = record { code = 0; place = 0; size = 0 }
verdict_said (improper_at at) = record { code = 12; place = at; size = 0 }
