-- The answer of a writing, in the paper's numbers.
use Rattle.std.specs.Prelude.{Result}
use Rattle.rules.specs.Reading.{longest, Said, says}
use Rattle.answers.specs.Answers.{of_either}
use Rattle.writer.specs.declared.outcome.Written.{Written}
use Rattle.writer.specs.declared.outcome.Refusal.{Refusal}
use Rattle.writer.specs.declared.outcome.Refusal.TheVariants.{TooLong, Improper, TooLongWritten, NoRoom}

-- of a label that is written
abbrev pub written_said : Written → Said
written_said w = says 0 w.length w.length

-- of each refusal
abbrev pub refusal_said : Refusal → Said
refusal_said TooLong = says 1 longest 0
refusal_said (Improper at) = says 12 at 0
refusal_said TooLongWritten = says 13 longest 0
refusal_said (NoRoom n) = says 11 n n

-- code, place and written length of each answer
abbrev pub said : Result Written Refusal → Said
said = of_either written_said refusal_said
