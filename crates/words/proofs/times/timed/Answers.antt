-- `times::timed` meets its contract.
use Rattle.words.proofs.Clocks.{digits_lent, late_hour, late_minute, late_second, many_decimals, time_kept_lem}
use Rattle.words.proofs.times.timed.Goals as goal

pub nanoseconds-requires : goal.nanoseconds-requires
nanoseconds-requires c = digits_lent _ _ c.requires c.bytes_of.ensures

pub returns-then-h-gt23 : goal.returns-then-h-gt23
returns-then-h-gt23 c = late_hour _ _ c.args.w.now c.args.clock _ _ c.number_of-h.ensures c.if-h-gt23.true

pub returns-then-m-gt59 : goal.returns-then-m-gt59
returns-then-m-gt59 c = late_minute _ _ c.args.w.now c.args.clock _ _ c.number_of-m.ensures c.if-m-gt59.true

pub returns-then-s-gt59 : goal.returns-then-s-gt59
returns-then-s-gt59 c = late_second _ _ c.args.w.now c.args.clock _ _ c.number_of-s.ensures c.if-s-gt59.true

pub returns-in_default : goal.returns-in_default
returns-in_default c = many_decimals _ _ c.args.w.now c.args.clock _ _ _ c.bytes_of.ensures c.nanoseconds.ensures c.in_default.is

pub returns : goal.returns
returns c = time_kept_lem _ _ c.args.w.now c.args.clock _ _ _ _ _ _ _ c.number_of-h.ensures c.number_of-m.ensures c.number_of-s.ensures c.bytes_of.ensures c.nanoseconds.ensures c.in-Some.is c.if-h-gt23.false c.if-m-gt59.false c.if-s-gt59.false c.zoned.ensures
