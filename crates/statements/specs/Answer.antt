-- The answer of a reading, in the paper's numbers.
use Rattle.std.specs.Prelude.{Result}
use Rattle.rules.specs.Reading.{longest, Said, says}
use Rattle.answers.specs.Answers.{of_either}
use Rattle.statements.specs.declared.outcome.Accepted.{Accepted}
use Rattle.statements.specs.declared.outcome.Refusal.{Refusal}
use Rattle.statements.specs.declared.outcome.Refusal.TheVariants.{TooLong, ForeignByte, LeftOpen, NoForm, PastLimit, Misplaced, OtherName, TooDeep, EndNotSetOff, EndsEarly, NoRoom}

-- of an acceptance
abbrev pub accepted_said : Accepted → Said
accepted_said a = says 0 a.place a.length

-- of each refusal
abbrev pub refusal_said : Refusal → Said
refusal_said TooLong = says 1 longest 0
refusal_said (ForeignByte p) = says 2 p 0
refusal_said (LeftOpen p) = says 3 p 0
refusal_said (NoForm p) = says 4 p 0
refusal_said (PastLimit p) = says 5 p 0
refusal_said (Misplaced p) = says 6 p 0
refusal_said (OtherName p) = says 7 p 0
refusal_said (TooDeep p) = says 8 p 0
refusal_said (EndNotSetOff p) = says 9 p 0
refusal_said (EndsEarly p) = says 10 p 0
refusal_said (NoRoom a) = says 11 a.place a.length

-- code, place and table length of each answer
abbrev pub said : Result Accepted Refusal → Said
said = of_either accepted_said refusal_said
