-- `spans::good_span` meets its contract.
use Rattle.table.proofs.Held.{spans}
use Rattle.table.proofs.spans.good_span.Goals as goal

pub returns-in-Attribute : goal.returns-in-Attribute
returns-in-Attribute c = search spans

pub returns-in-Pointer : goal.returns-in-Pointer
returns-in-Pointer c = search spans

pub returns-in-Open : goal.returns-in-Open
returns-in-Open c = search spans

pub returns-in-Text : goal.returns-in-Text
returns-in-Text c = search spans

pub returns-in-Symbol : goal.returns-in-Symbol
returns-in-Symbol c = search spans

pub returns-in-Unit : goal.returns-in-Unit
returns-in-Unit c = search spans

pub returns-in-Last : goal.returns-in-Last
returns-in-Last c = search spans
