-- The checked examples marked P hold of the rules, by computation of the reading.
use mathlib.Core.Path.{◌≡◌, refl, subst}
use mathlib.Core.List.{List, [], ◌∷◌}
use native.Mathlib.Decide.{dec_le, dec_lt, ℕ_discrete}
use Rattle.rules.specs.Bytes.{ascii}
use Rattle.rules.specs.Modes.{base}
use Rattle.rules.specs.Reading.{Reads}
use Rattle.rules.specs.Examples.{Example, examples, Hold}
use Rattle.rules.proofs.Machine.Statements.{name_discrete}
use Rattle.rules.proofs.Machine.Labels.{reader}
use Rattle.rules.proofs.Reading.Reader.{reads_sound}

-- the reading gives the results
abbrev Agree : List Example → Type 0
Agree [] = Unit {0}
Agree (x ∷ xs) = (reader base (ascii x.input) ≡ x.result) × Agree xs

agreed : (xs : List Example) → Agree xs → Hold xs
agreed [] h = tt
agreed (x ∷ xs) h = (subst (Reads base (ascii x.input)) h.0 (reads_sound base (ascii x.input)), agreed xs h.1)

pub examples_hold : Hold examples
unfolding name_discrete ℕ_discrete dec_lt dec_le
examples_hold = agreed examples (refl, (refl, (refl, (refl, (refl, (refl, (refl, (refl, (refl, (refl, (refl, (refl, (refl, tt)))))))))))))
