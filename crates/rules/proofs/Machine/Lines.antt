-- The written label, row by row.
use Prim.Native.Nat.{ℕ}
use mathlib.Core.List.{List, [], ◌∷◌}
use Rattle.rules.specs.Data.{Opens, outside}
use Rattle.rules.specs.Meaning.{Sense}
use Rattle.rules.specs.Written.{Prior, start, prior, after, writes_all}

-- what the last of these rows is, and the blocks that are open after them
abbrev pub leaves : Prior → List Sense → Prior
leaves q [] = q
leaves q (r ∷ rs) = leaves (prior r) rs

abbrev pub open_after : Opens → List Sense → Opens
open_after o [] = o
open_after o (r ∷ rs) = open_after (after o r) rs

-- what these rows write, from the start
abbrev pub so_far : List Sense → List ℕ
so_far rs = writes_all start outside rs
