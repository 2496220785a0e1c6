-- The paper's code, place and length for each answer, and what the name view shows.
use Rattle.std.specs.Prelude.{ℕ, ◌≤◌, ◌≡◌, List, length, Result}
use Rattle.rules.specs.Data as rule
use Rattle.rules.specs.Reading.{longest, Said}
use Rattle.rules.specs.Proper.{stretch}
use Rattle.rules.specs.Asked.{says, Viewed}
use Rattle.classes.specs.Places.{as_span}
use Rattle.answers.specs.Answers.{of_either}
use Rattle.queries.specs.declared.outcome.Given.{Given}
use Rattle.queries.specs.declared.outcome.NoText.{NoText}
use Rattle.queries.specs.declared.outcome.NoText.TheVariants as texts
use Rattle.queries.specs.declared.outcome.At.{At}
use Rattle.queries.specs.declared.outcome.NotFound.{NotFound}
use Rattle.queries.specs.declared.outcome.NotFound.TheVariants as finds
use Rattle.queries.specs.declared.names.Stretch.{Stretch}

-- of a text that is given
abbrev pub given_said : Given → Said
given_said t = says 0 0 t.length

-- of no text
abbrev pub no_text_said : NoText → Said
no_text_said texts.TooLong = says 1 longest 0
no_text_said (texts.Improper p) = says 12 p 0
no_text_said texts.NoRow = says 15 0 0
no_text_said (texts.NoRoom n) = says 11 0 n

-- of the text reader
abbrev pub text_said : Result Given NoText → Said
text_said = of_either given_said no_text_said

-- of a row that is found
abbrev pub at_said : At → Said
at_said f = says 0 0 f.row

-- of none that is found
abbrev pub not_found_said : NotFound → Said
not_found_said finds.TooLong = says 1 longest 0
not_found_said (finds.Improper p) = says 12 p 0
not_found_said finds.NoName = says 14 0 0
not_found_said finds.NoLine = says 15 0 0

-- of the lookup
abbrev pub found_said : Result At NotFound → Said
found_said = of_either at_said not_found_said

-- the stretch is the one in view, and lies inside the label
pub record Views (label lent : List ℕ) (row : ℕ) (s : Stretch) : Type 0 where
  pub viewed : Viewed label lent row (as_span s.start s.end)
  pub ordered : s.start ≤ s.end
  pub inside : s.end ≤ length label

-- the bytes of the stretch in view
pub record ViewsIn (label lent : List ℕ) (row : ℕ) (w : List ℕ) : Type 0 where
  pub in_view : rule.Span
  pub viewed : Viewed label lent row in_view
  pub bytes : w ≡ stretch label in_view
