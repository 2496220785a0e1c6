-- `step`: the function of what the element is met as does what the state asks.
use Rattle.steps.proofs.Meeting.{met}
use Rattle.steps.proofs.step.Goals as goal

pub returns-in-Statement : goal.returns-in-Statement
returns-in-Statement c = search met

pub returns-in-Equals : goal.returns-in-Equals
returns-in-Equals c = search met

pub returns-in-Pointer : goal.returns-in-Pointer
returns-in-Pointer c = search met

pub returns-in-BlockEquals : goal.returns-in-BlockEquals
returns-in-BlockEquals c = search met

pub returns-in-BlockName : goal.returns-in-BlockName
returns-in-BlockName c = search met

pub returns-in-Closed : goal.returns-in-Closed
returns-in-Closed c = search met

pub returns-in-ClosingName : goal.returns-in-ClosingName
returns-in-ClosingName c = search met

pub returns-in-Value : goal.returns-in-Value
returns-in-Value c = search met

pub returns-in-Member : goal.returns-in-Member
returns-in-Member c = search met

pub returns-in-FirstMember : goal.returns-in-FirstMember
returns-in-FirstMember c = search met

pub returns-in-FirstOfSet : goal.returns-in-FirstOfSet
returns-in-FirstOfSet c = search met

pub returns-in-AfterNumber : goal.returns-in-AfterNumber
returns-in-AfterNumber c = search met

pub returns-in-InSequence : goal.returns-in-InSequence
returns-in-InSequence c = search met

pub returns-in-InRow : goal.returns-in-InRow
returns-in-InRow c = search met

pub returns-in-InSet : goal.returns-in-InSet
returns-in-InSet c = search met

pub returns-in-UnitName : goal.returns-in-UnitName
returns-in-UnitName c = search met

pub returns-in-AfterUnit : goal.returns-in-AfterUnit
returns-in-AfterUnit c = search met

pub returns-in-Exponent : goal.returns-in-Exponent
returns-in-Exponent c = search met

pub returns-in-AfterExponent : goal.returns-in-AfterExponent
returns-in-AfterExponent c = search met

pub returns-in-AfterRow : goal.returns-in-AfterRow
returns-in-AfterRow c = search met

pub returns-in-NextRow : goal.returns-in-NextRow
returns-in-NextRow c = search met

pub returns-in-Ended : goal.returns-in-Ended
returns-in-Ended c = search met
