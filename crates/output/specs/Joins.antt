-- A byte's turn in the reassembly of a text. Terms of private contracts.
use Rattle.std.specs.Prelude.{ℕ, ◌+◌, Bool, true, false, ◌≡◌, Option, Some, None, List, [], ◌∷◌, ◌++◌, drop}
use Rattle.rules.specs.Meaning.{keep, breaks, join}
use Rattle.output.specs.declared.texts.Run.{Run}
use Rattle.output.specs.declared.texts.Run.TheVariants as runs

-- the byte, or nothing
abbrev pub maybe : Option ℕ → List ℕ
maybe None = []
maybe (Some b) = b ∷ []

-- whether the run has been dealt with
abbrev pub dealt : Run → Bool
dealt runs.Fresh = false
dealt runs.Dealt = true
dealt runs.Unbroken = false

-- where it is known so, the run from a place on holds no line end
pub record Known (w : List ℕ) (i : ℕ) (run : Run) : Type 0 where
  pub unbroken : run ≡ runs.Unbroken → breaks (keep (drop i w)) ≡ false

-- what the byte at a place leaves of the text, and what it leaves to the bytes behind it
pub record Turned (w : List ℕ) (i : ℕ) (run : Run) (put : Option ℕ) (next : Run) : Type 0 where
  pub joins : join (dealt run) (keep (drop i w)) ≡ maybe put ++ join (dealt next) (keep (drop (i + 1) w))
  pub knows : Known w (i + 1) next
