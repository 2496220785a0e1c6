-- What a call returns: what it says, and the room that it was lent.
use Prim.Native.Nat.{ℕ}
use mathlib.Core.List.{List}
use Rattle.rules.specs.Reading.{Said}

pub record Return : Type 0 where
  pub said : Said
  pub room : List ℕ

abbrev pub returns : Said → List ℕ → Return
returns s r = record { said = s; room = r }
