-- A list split behind the run at its front, and the front of a list.
use Prim.Native.Nat.{ℕ}
use mathlib.Core.Bool.{Bool, true, false, cond}
use mathlib.Core.List.{List, [], ◌∷◌}

-- a run, and what is behind it
abbrev pub Split : Type 0
Split = List ℕ × List ℕ

-- one byte more in the run
abbrev pub longer : ℕ → Split → Split
longer b s = (b ∷ s.0, s.1)

-- the longest run of bytes where the test holds of what is left
abbrev pub split_run : (List ℕ → Bool) → List ℕ → Split
split_run p [] = ([], [])
split_run p (b ∷ l) = let s = longer b (split_run p l) in cond (p (b ∷ l)) s ([], b ∷ l)

abbrev pub behind_first : List ℕ → List ℕ
behind_first [] = []
behind_first (b ∷ l) = l

abbrev pub is_nil : List ℕ → Bool
is_nil [] = true
is_nil (b ∷ l) = false
