-- A reading begins with no rows, in no block.
use mathlib.Core.Path.{◌∙◌}
use Rattle.statements.proofs.cursor.start.Goals as goal

pub returns : goal.returns
returns c = let e = c.standing.ensures in
    record { state = e.0; blocks = e.1 ∙ c.no_blocks.ensures.2; at = e.2; n = e.3 }
