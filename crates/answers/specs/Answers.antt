-- What an answer says that is one of two.
use Rattle.std.specs.Prelude.{Result, Ok, Err}
use Rattle.rules.specs.Reading.{Said}

-- what the one that is there says
abbrev pub of_either : {A E : Type 0} → (A → Said) → (E → Said) → Result A E → Said
of_either f g (Ok a) = f a
of_either f g (Err e) = g e
