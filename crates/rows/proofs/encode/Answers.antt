-- `encode` meets its contract.
use Rattle.rows.proofs.Encoding.{encodings}
use Rattle.rows.proofs.encode.Goals as goal

pub returns-in-Attribute : goal.returns-in-Attribute
returns-in-Attribute c = search encodings

pub returns-in-Pointer : goal.returns-in-Pointer
returns-in-Pointer c = search encodings

pub returns-in-Open : goal.returns-in-Open
returns-in-Open c = search encodings

pub returns-in-Close : goal.returns-in-Close
returns-in-Close c = search encodings

pub returns-in-Integer : goal.returns-in-Integer
returns-in-Integer c = search encodings

pub returns-in-Float : goal.returns-in-Float
returns-in-Float c = search encodings

pub returns-in-Time : goal.returns-in-Time
returns-in-Time c = search encodings

pub returns-in-Text : goal.returns-in-Text
returns-in-Text c = search encodings

pub returns-in-Symbol : goal.returns-in-Symbol
returns-in-Symbol c = search encodings

pub returns-in-Unit : goal.returns-in-Unit
returns-in-Unit c = search encodings

pub returns-in-Sequence : goal.returns-in-Sequence
returns-in-Sequence c = search encodings

pub returns-in-SequenceEnd : goal.returns-in-SequenceEnd
returns-in-SequenceEnd c = search encodings

pub returns-in-Set : goal.returns-in-Set
returns-in-Set c = search encodings

pub returns-in-SetEnd : goal.returns-in-SetEnd
returns-in-SetEnd c = search encodings

pub returns-in-Last : goal.returns-in-Last
returns-in-Last c = search encodings
