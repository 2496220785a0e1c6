-- `passes::add_rows`: the row where one is given, and nothing where none is.
use Rattle.statements.proofs.Turns.{adds_row, nothing_added}
use Rattle.statements.proofs.passes.add_rows.Goals as goal

pub add_row-requires : goal.add_row-requires
add_row-requires c = c.requires

pub returns-in-None : goal.returns-in-None
returns-in-None c = nothing_added c.args.given _ _ c.in-None.is

pub shape_of-room : goal.shape_of-room
shape_of-room c = c.add_row.ensures.long

pub returns-in-Some : goal.returns-in-Some
returns-in-Some c = adds_row c.args.given c.in-Some.is c.add_row.ensures
