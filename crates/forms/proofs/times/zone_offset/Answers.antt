-- An offset, answer by answer.
use borrow.Author.Rules.{rules}
use Rattle.forms.proofs.Places.{digits_within}
use Rattle.forms.proofs.Stamps.{offset_few, offset_hour, offset_open, offset_minute, offset_trailing, offset_both}
use Rattle.forms.proofs.times.zone_offset.Goals as goal

ruleset ways = (digits_within, offset_few, offset_hour, offset_open, offset_minute, offset_trailing, offset_both, rules)

pub returns-in_err-hours : goal.returns-in_err-hours
returns-in_err-hours c = offset_few c.args.w.now c.args.stamp c.args.clock c.args.west c.args.at _ c.digits.ensures _ c.in_err-hours.was c.from_residual.ensures

pub returns-then-hours-w : goal.returns-then-hours-w
returns-then-hours-w c = let q = c.in_ok-hours.was in search ways

pub returns-then-byte_at-ne58 : goal.returns-then-byte_at-ne58
returns-then-byte_at-ne58 c = offset_open c.args.w.now c.args.stamp c.args.clock c.args.west c.args.at _ c.digits.ensures c.in_ok-hours.hours c.in_ok-hours.was c.if-hours-w.false _ c.byte_at.ensures c.if-byte_at-ne58.true

pub returns-in_err-minutes : goal.returns-in_err-minutes
returns-in_err-minutes c = offset_minute c.args.w.now c.args.stamp c.args.clock c.args.west c.args.at _ c.digits.ensures c.in_ok-hours.hours c.in_ok-hours.was c.if-hours-w.false _ c.byte_at.ensures c.if-byte_at-ne58.false _ c.digits-2.ensures _ c.in_err-minutes.was c.from_residual-in_err-minutes.ensures

pub returns-then-minutes-w : goal.returns-then-minutes-w
returns-then-minutes-w c = offset_trailing c.args.w.now c.args.stamp c.args.clock c.args.west c.args.at _ c.digits.ensures c.in_ok-hours.hours c.in_ok-hours.was c.if-hours-w.false _ c.byte_at.ensures c.if-byte_at-ne58.false _ c.digits-2.ensures c.in_ok-minutes.minutes c.in_ok-minutes.was c.if-minutes-w.true

pub returns : goal.returns
returns c = let q = c.in_ok-hours.was in let p = c.in_ok-minutes.was in search ways
