-- `put_own` meets its contract.
use native.Mathlib.Omega.{arith}
use Rattle.printing.proofs.put_own.Goals as goal

pub returns-in-Attribute : goal.returns-in-Attribute
returns-in-Attribute c = (rw c.in-Attribute.is (rw c.part.ensures.0 at c.put_named.ensures.0), omega arith)

pub returns-in-Pointer : goal.returns-in-Pointer
returns-in-Pointer c = (rw c.in-Pointer.is (rw c.part-in-Pointer.ensures.0 at c.put_pointed.ensures.0), omega arith)

pub returns-in-Open : goal.returns-in-Open
returns-in-Open c = (rw c.in-Open.is (rw c.part-in-Open.ensures.0 at c.put_opening.ensures.0), omega arith)

pub returns-in-Close : goal.returns-in-Close
returns-in-Close c = (rw c.in-Close.is (rw c.part-in-Close.ensures.0 at c.put_closing.ensures.0), omega arith)

pub returns-in-Integer : goal.returns-in-Integer
returns-in-Integer c = (rw c.in-Integer.is c.put_decimal.ensures.0, omega arith)

pub returns-in-Float : goal.returns-in-Float
returns-in-Float c = (rw c.in-Float.is c.put_real.ensures.0, omega arith)

pub returns-in-Time : goal.returns-in-Time
returns-in-Time c = (rw c.in-Time.is c.put_moment.ensures.0, omega arith)

pub returns-in-Text : goal.returns-in-Text
returns-in-Text c = (rw c.in-Text.is (rw c.part-in-Text.ensures.0 at c.put_quoted.ensures.0), omega arith)

pub returns-in-Symbol : goal.returns-in-Symbol
returns-in-Symbol c = (rw c.in-Symbol.is (rw c.part-in-Symbol.ensures.0 at c.put_marked.ensures.0), omega arith)

pub returns-in-Unit : goal.returns-in-Unit
returns-in-Unit c = (rw c.in-Unit.is (rw c.part-in-Unit.ensures.0 at c.put_unit.ensures.0), omega arith)

pub returns-in-Sequence : goal.returns-in-Sequence
returns-in-Sequence c = (rw c.in-Sequence.is c.put_byte.ensures, omega arith)

pub returns-in-SequenceEnd : goal.returns-in-SequenceEnd
returns-in-SequenceEnd c = (rw c.in-SequenceEnd.is c.put_byte-in-SequenceEnd.ensures, omega arith)

pub returns-in-Set : goal.returns-in-Set
returns-in-Set c = (rw c.in-Set.is c.put_byte-in-Set.ensures, omega arith)

pub returns-in-SetEnd : goal.returns-in-SetEnd
returns-in-SetEnd c = (rw c.in-SetEnd.is c.put_byte-in-SetEnd.ensures, omega arith)

pub returns-in-Last : goal.returns-in-Last
returns-in-Last c = (rw c.in-Last.is c.put_bytes.ensures, omega arith)
