-- `headings::put_closing` meets its contract.
use Rattle.output.proofs.Laws.{onward}
use native.Mathlib.Omega.{arith}
use Rattle.printing.proofs.Blocks.{close_bare, close_named}
use Rattle.printing.proofs.headings.put_closing.Goals as goal

pub returns-then-d-eq0 : goal.returns-then-d-eq0
returns-then-d-eq0 c = (close_bare c.args.kind c.args.d c.args.w.now c.if-d-eq0.true c.put_close_word-a.ensures.0, omega arith)

pub returns : goal.returns
returns c = (close_named c.args.kind c.args.d c.args.w.now c.if-d-eq0.false (onward c.put_close_word-a.ensures.0 c.min-k.ensures c.put_naming.ensures.0), omega arith)
