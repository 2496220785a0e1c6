-- `headings::put_close_word` meets its contract.
use Rattle.output.proofs.Laws.{onward}
use native.Mathlib.Omega.{arith}
use Rattle.printing.proofs.Blocks.{close_is}
use Rattle.printing.proofs.headings.put_close_word.Goals as goal

pub returns : goal.returns
returns c = (close_is c.args.kind (onward c.put_bytes-a.ensures c.min-k.ensures c.put_open_word.ensures.0), omega arith)
