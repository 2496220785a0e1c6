-- `values::put_exponent` meets its contract.
use Rattle.output.proofs.Laws.{onward}
use native.Mathlib.Omega.{arith}
use Rattle.printing.proofs.Symbols.{unwritten, raised}
use mathlib.Core.Path.{refl}
use Rattle.printing.proofs.values.put_exponent.Goals as goal

pub returns-then-is_one : goal.returns-then-is_one
returns-then-is_one c = (unwritten c.args.minus c.args.n c.is_one.ensures c.if-is_one.true refl refl, omega arith)

pub returns : goal.returns
returns c = (raised c.args.minus c.args.n c.is_one.ensures c.if-is_one.false (onward c.put_bytes-a.ensures c.min-k.ensures c.put_decimal.ensures.0), omega arith)
