-- The rows from an offset on, and the lookup of a name over them.
use Prim.Native.Nat.{ℕ, zero, suc, ◌+◌, ◌-◌}
use mathlib.Core.Bool.{Bool, cond}
use mathlib.Core.List.{List, [], ◌∷◌}
use lib.Dec.{leb, eqb}
use lib.ListN.{length}
use Rattle.rules.specs.Data.{Span, Row, attribute, pointer, opened, closed, an_integer, a_real, a_moment, a_text, a_symbol, a_unit, sequence, sequence_end, set, set_end, last}
use Rattle.rules.specs.Table.{encode}
use Rattle.rules.specs.Values.{same}
use Rattle.rules.specs.Proper.{stretch}
use Rattle.rules.specs.Meaning.{fold_all}
use Rattle.rules.specs.Asked.{Finding, stands, absent}

-- the rows from an offset on; none where no row starts there
unfoldable pub from_of : ℕ → List Row → List Row
from_of n [] = []
from_of n (r ∷ rs) = cond (eqb n 0) (r ∷ rs) (cond (leb (length (encode r)) n) (from_of (n - length (encode r)) rs) [])

-- rows by what the lookup does with them
pub data Way : Type 0 where
  names : Span → Way
  plain opens closes ends : Way

abbrev pub way : Row → Way
way (attribute p) = names p
way (pointer p) = plain
way (opened k p) = opens
way (closed k) = closes
way (an_integer w) = plain
way (a_real x) = plain
way (a_moment t) = plain
way (a_text p) = plain
way (a_symbol p) = plain
way (a_unit op p w) = plain
way sequence = plain
way sequence_end = plain
way set = plain
way set_end = plain
way (last n) = ends

abbrev pub for_way : {A : Type 0} → Way → (Span → A) → A → A → A → A → A
for_way (names p) f a b c d = f p
for_way plain f a b c d = a
for_way opens f a b c d = b
for_way closes f a b c d = c
for_way ends f a b c d = d

-- the attribute has this name
abbrev pub has_name : List ℕ → List ℕ → Span → Bool
has_name label name p = same (fold_all (stretch label p)) (fold_all name)

-- in how many blocks that opened since the row asked for, and at which offset
unfoldable pub seeks : List ℕ → List ℕ → ℕ → ℕ → List Row → Finding
seeks label name d at [] = absent
seeks label name zero at (r ∷ rs) =
    for_way (way r) (λ p. cond (has_name label name p) (stands at) (seeks label name 0 (at + length (encode r)) rs))
    (seeks label name 0 (at + length (encode r)) rs) (seeks label name 1 (at + length (encode r)) rs) absent absent
seeks label name (suc d) at (r ∷ rs) =
    for_way (way r) (λ p. seeks label name (suc d) (at + length (encode r)) rs)
    (seeks label name (suc d) (at + length (encode r)) rs) (seeks label name (suc (suc d)) (at + length (encode r)) rs) (seeks label name d (at + length (encode r)) rs) absent
