-- A mode says in which dialect a label is read, so that one text of rules serves the labels of document 01, mended by document 02 §2, and
-- the other labels that document 02 asks for. `base` is the one that callers have; a rule in which no flag stands is the same in every
-- mode. Of document 02's requests, `pvl` serves PVL labels (§5) and `version_1` version 1 labels (§13).
use Rattle.std.specs.Prelude.{Bool, true, false}

-- what differs between the modes
pub record Mode : Type 0 where
  -- BEGIN_OBJECT and BEGIN_GROUP stand for OBJECT and GROUP; a semicolon may follow a statement or an opening, and set off END
  pub pvl : Bool
  -- `lo..hi` may stand as a whole value; the comma between members, or between rows, may be left out; `^` may stand for `**` in units
  pub version_1 : Bool

-- the labels of document 01, one comma between rows
abbrev pub base : Mode
base = record { pvl = false; version_1 = false }

-- PVL habits that 12.1.1.3 lets a reader handle
abbrev pub PVL : Mode
PVL = record { pvl = true; version_1 = false }

-- ODL 1, by 12.7.1
abbrev pub ODL_1 : Mode
ODL_1 = record { pvl = false; version_1 = true }
