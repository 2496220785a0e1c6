-- Each turn of the loop is one step of the rule.
use lib.ListN.{drop}
use mathlib.Core.Bool.{false}
use Rattle.rules.proofs.Machine.Words.{more}
use Rattle.forms.proofs.Identifiers.{Going}
use Rattle.forms.proofs.is_more.Given as goal

abbrev pub invariant-loop-b : goal.invariant-loop-b
invariant-loop-b l = Going l.b-items (more false (drop l.from l.w)) l.under l.b-index
