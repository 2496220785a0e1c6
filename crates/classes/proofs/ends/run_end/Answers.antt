-- `ends::run_end` meets its contract.
use mathlib.Core.Path.{refl, sym, ◌∙◌}
use Rattle.classes.proofs.Runs.{start, turn, stop, last, front_at}
use Rattle.classes.proofs.ends.run_end.Goals as goal

pub loop-i-init : goal.loop-i-init
loop-i-init g c = start _ _ _ c.requires

pub returns-then-not-holds : goal.returns-then-not-holds
returns-then-not-holds g c = stop _ _ _ _ c.loop-i.invariant (front_at _ _ _ c.loop-i-test.true ∙ sym c.holds.ensures ∙ c.if-not-holds.true)

pub loop-i-preserved : goal.loop-i-preserved
loop-i-preserved g c = turn _ _ _ _ c.loop-i.invariant c.loop-i-test.true (front_at _ _ _ c.loop-i-test.true ∙ sym c.holds.ensures ∙ c.if-not-holds.false)

pub returns : goal.returns
returns g c = last _ _ _ _ c.loop-i.invariant c.loop-i-test.false refl
