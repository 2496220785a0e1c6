-- What comes back from a writing: the label's bytes, or why not.
use Rattle.std.specs.Prelude.{ℕ, ◌≤◌, ◌<◌, List, length}
use Rattle.rules.specs.Data.{Row}
use Rattle.rules.specs.Reading.{longest, Said, says, filled}
use Rattle.rules.specs.Proper.{proper_rows, improper_at, Ruled}
use Rattle.rules.specs.Meaning.{meaning}
use Rattle.rules.specs.Written.{canonical}

-- the label that a table writes
abbrev pub label_of : List ℕ → List Row → List ℕ
label_of label rows = canonical (meaning label rows)

-- Writer: 1, 12, 13, 11. A writing gives code, place and written length. Room beyond the reported length is untouched, and on refusal all
-- of it.
pub data Writes (label lent room : List ℕ) : Said → List ℕ → Type 0 where
  -- 1: label over 65,535 bytes; 65535
  long_label : longest < length label → Writes label lent room (says 1 longest 0) room
  -- 12: table not proper; first row that no proper table has there
  no_table : {at : ℕ} → length label ≤ longest → Ruled label lent (improper_at at) → Writes label lent room (says 12 at 0) room
  -- 13: written label over 65,535 bytes; 65535
  long_written : {rows : List Row} → length label ≤ longest → Ruled label lent (proper_rows rows) → longest < length (label_of label rows) →
      Writes label lent room (says 13 longest 0) room
  -- 11: room too short; as for 0; the length is the one needed
  short_room : {rows : List Row} → length label ≤ longest → Ruled label lent (proper_rows rows) → length (label_of label rows) ≤ longest →
      length room < length (label_of label rows) →
      Writes label lent room (says 11 (length (label_of label rows)) (length (label_of label rows))) room
  -- 0: accepted; for the writer, written length
  stored : {rows : List Row} → length label ≤ longest → Ruled label lent (proper_rows rows) → length (label_of label rows) ≤ longest →
      length (label_of label rows) ≤ length room →
      Writes label lent room (says 0 (length (label_of label rows)) (length (label_of label rows))) (filled (label_of label rows) room)
