-- Patterns of words: runs, fixed bytes and forks on what is left, and one matcher for all of them.
use Prim.Native.Nat.{ℕ}
use mathlib.Core.Bool.{Bool, true, false, cond}
use mathlib.Core.Option.{Option, none, some}
use mathlib.Core.List.{List, [], ◌∷◌}
use lib.Dec.{eqb}
use lib.ListN.{length}
use Rattle.rules.specs.Bytes.{front}
use Rattle.rules.specs.Values.{Written}
use Rattle.rules.proofs.Machine.Splits.{split_run}

-- a pattern, and what is written where a word has it
pub data G : Type 0 where
  -- nothing more
  stop : Written → G
  -- all that is left, if the test holds of it
  whole : (List ℕ → Bool) → (List ℕ → Written) → G
  byte : ℕ → G → G
  check : Bool → G → G
  -- as many bytes of the class as there are, if the test holds of their number
  run : (ℕ → Bool) → (ℕ → Bool) → (List ℕ → G) → G
  fork : (List ℕ → Bool) → G → G → G

-- what is found, if the test holds
abbrev pub provided : Bool → Option Written → Option Written
provided true x = x
provided false x = none

-- what is written in a word, if it has the pattern
abbrev pub matches : G → List ℕ → Option Written
matches (stop v) [] = some v
matches (stop v) (b ∷ w) = none
matches (whole t f) w = provided (t w) (some (f w))
matches (byte b g) [] = none
matches (byte b g) (a ∷ w) = let x = matches g w in provided (eqb a b) x
matches (check b g) w = let x = matches g w in provided b x
matches (run c n k) w = let s = split_run (front c) w in let x = matches (k s.0) s.1 in provided (n (length s.0)) x
matches (fork t g h) w = let x = matches g w in let y = matches h w in cond (t w) x y
