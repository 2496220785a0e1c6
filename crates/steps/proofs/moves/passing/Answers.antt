-- `moves::passing` meets its contract.
use mathlib.Core.Path.{refl}
use Rattle.steps.specs.Steps.{giving}
use Rattle.steps.proofs.moves.passing.Goals as goal

pub returns : goal.returns
unfolding giving
returns c = refl
