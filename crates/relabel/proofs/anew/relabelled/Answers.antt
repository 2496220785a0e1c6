-- `anew::relabelled` meets its contract.
use mathlib.Core.Path.{refl}
use Rattle.relabel.proofs.Composed.{refused_reading, written_anew}
use Rattle.relabel.proofs.anew.relabelled.Goals as goal

pub returns-in-Err : goal.returns-in-Err
returns-in-Err c = rw (c.code.ensures, c.place.ensures, c.length.ensures) (refused_reading _ _ refl c.in-Err.ensures)

pub returns-in-Ok : goal.returns-in-Ok
returns-in-Ok c = rw (c.code-in-Ok.ensures, c.place-in-Ok.ensures, c.length-in-Ok.ensures) (written_anew refl c.in-Ok.ensures c.part.ensures.0 c.write-w.ensures)
