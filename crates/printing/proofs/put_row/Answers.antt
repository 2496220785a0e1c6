-- `put_row` meets its contract.
use native.Mathlib.Omega.{arith}
use Rattle.output.proofs.Laws.{onward, same_part}
use Rattle.printing.proofs.Sorts.{row_bytes, line_put}
use Rattle.printing.proofs.put_row.Goals as goal

pub returns : goal.returns
returns c = record {
  row = record {
    puts = λ o e. same_part (row_bytes _ _ _ _ c.args.row o e) (onward c.put_before-a.ensures.0 c.min-k.ensures c.put_own.ensures.0);
    most = omega arith;
  };
  line = line_put _ _ _ _ c.args.row (onward c.put_before-a.ensures.0 c.min-k.ensures c.put_own.ensures.0) (omega arith);
}
