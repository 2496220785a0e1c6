-- `passes::misfit`: what each refusal of a step is told as.
use Rattle.statements.proofs.Codes.{refusals}
use Rattle.statements.proofs.passes.misfit.Goals as goal

pub returns-in-PastLimit : goal.returns-in-PastLimit
returns-in-PastLimit c = search refusals

pub returns-in-Misplaced : goal.returns-in-Misplaced
returns-in-Misplaced c = search refusals

pub returns-in-OtherName : goal.returns-in-OtherName
returns-in-OtherName c = search refusals

pub returns-in-TooDeep : goal.returns-in-TooDeep
returns-in-TooDeep c = search refusals

pub returns-in-EndNotSetOff : goal.returns-in-EndNotSetOff
returns-in-EndNotSetOff c = search refusals
