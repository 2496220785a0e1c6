-- What comes of a label that is read into room for 65,535 bytes of table and written anew.
use Rattle.std.specs.Prelude.{ℕ, ◌≤◌, ◌<◌, List, length}
use Rattle.rules.specs.Data.{Row}
use Rattle.rules.specs.Modes.{base}
use Rattle.rules.specs.Table.{table}
use Rattle.rules.specs.Reading.{longest, Said, says, filled, accepted, refused, Reads}
use Rattle.rules.specs.Writing.{label_of}

-- Program `relabel` reads standard input and writes the canonical label, or the line `REFUSED code place`, the numbers those of the
-- refused reading or writing. Room 65,535 bytes for table and label each; the room for the label is the one that is lent.
pub data Relabels (label room : List ℕ) : Said → List ℕ → Type 0 where
  -- the canonical label of its meaning, at the room's start
  written : {rows : List Row} {i : ℕ} → Reads base label (accepted rows i) → length (table rows) ≤ longest →
      length (label_of label rows) ≤ longest → length (label_of label rows) ≤ length room →
      Relabels label room (says 0 (length (label_of label rows)) (length (label_of label rows))) (filled (label_of label rows) room)
  -- 11, 13: that label is longer than the room, or than any
  short_room : {rows : List Row} {i : ℕ} → Reads base label (accepted rows i) → length (table rows) ≤ longest →
      length (label_of label rows) ≤ longest → length room < length (label_of label rows) →
      Relabels label room (says 11 (length (label_of label rows)) (length (label_of label rows))) room
  long_written : {rows : List Row} {i : ℕ} → Reads base label (accepted rows i) → length (table rows) ≤ longest →
      longest < length (label_of label rows) → Relabels label room (says 13 longest 0) room
  -- 11: the table is longer than its room
  long_table : {rows : List Row} {i : ℕ} → Reads base label (accepted rows i) → longest < length (table rows) →
      Relabels label room (says 11 i (length (table rows))) room
  -- 1 to 10: refused when read
  not_read : {c i : ℕ} → Reads base label (refused c i) → Relabels label room (says c i 0) room
