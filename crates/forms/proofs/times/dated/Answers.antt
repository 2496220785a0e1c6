-- What follows a date, answer by answer.
use borrow.Author.Rules.{rules}
use Rattle.forms.specs.Laid.{behind, dated_to}
use Rattle.forms.proofs.Stamps.{day_alone, day_time, day_other}
use Rattle.forms.proofs.times.dated.Goals as goal

ruleset ways = (behind, dated_to, day_alone, day_time, day_other, rules)

pub returns-then-at-w : goal.returns-then-at-w
returns-then-at-w c = search ways

pub returns-in-84 : goal.returns-in-84
returns-in-84 c = search ways

pub returns-in_default : goal.returns-in_default
returns-in_default c = search ways

pub time_at-requires-clause-stamp_to : goal.time_at-requires-clause-stamp_to
time_at-requires-clause-stamp_to c = search ways
