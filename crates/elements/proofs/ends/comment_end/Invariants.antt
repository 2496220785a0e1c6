-- Each turn of the loop is one constructor of the rule, told at the byte behind.
use Rattle.elements.proofs.Comments.{Behind}
use Rattle.elements.proofs.ends.comment_end.Given as goal

abbrev pub invariant-loop-i : goal.invariant-loop-i
invariant-loop-i l = Behind l.label l.at l.i l.star
