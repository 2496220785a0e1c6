-- `names::name_span` meets its contract.
use mathlib.Core.Path.{sym, ◌∙◌}
use Rattle.queries.proofs.Displays.{view_long, view_improper, view_proper}
use Rattle.queries.proofs.names.name_span.Goals as goal

pub returns-then-label-gt-LONGEST_LABEL : goal.returns-then-label-gt-LONGEST_LABEL
returns-then-label-gt-LONGEST_LABEL c = view_long _ _ _ c.if-label-gt-LONGEST_LABEL.true

pub returns-then-is_err : goal.returns-then-is_err
returns-then-is_err c = view_improper _ _ _ c.if-label-gt-LONGEST_LABEL.false c.check.ensures (sym c.is_err.ensures.value ∙ c.if-is_err.true)

pub returns : goal.returns
returns c = view_proper _ _ _ _ c.if-label-gt-LONGEST_LABEL.false c.check.ensures (sym c.is_err.ensures.value ∙ c.if-is_err.false) c.stretch_from.ensures
