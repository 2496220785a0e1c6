-- What the readers of words say, against the rules' own pattern for words.
use Rattle.std.specs.Prelude.{ℕ, Bool, false, ◌≡◌, List, map, Result, Ok, Err}
use Rattle.rules.specs.Bytes.{fold}
use Rattle.rules.specs.Data.{Elem, Whole, Real, Moment, name, the, end, integer, based, real, moment}
use Rattle.rules.specs.Data.{Fixed, OBJECT, END_OBJECT, GROUP, END_GROUP, BEGIN_OBJECT}
use Rattle.rules.specs.Data.{equals, comma, star, slash, caret, less, greater, lpar, rpar, lbrace, rbrace, power}
use Rattle.rules.specs.Modes.{base}
use Rattle.rules.specs.Values.{Written, value, named}
use Rattle.rules.proofs.Machine.Words.{WordVerdict, is, over, formless, limited, Classified}
use Rattle.words.specs.declared.Fixed as code
use Rattle.words.specs.declared.Fixed.TheVariants as fixed
use Rattle.words.specs.declared.Real as code-real
use Rattle.words.specs.declared.Moment as code-moment
use Rattle.words.specs.declared.Value.{Value}
use Rattle.words.specs.declared.Value.TheVariants.{Name, End, The, Integer, Based, Float, Time}
use Rattle.words.specs.declared.Unfit.{Unfit}
use Rattle.words.specs.declared.Unfit.TheVariants.{NoForm, PastLimit}

-- a reserved word or a sign of the code
abbrev pub fixed_of : code.Fixed → Fixed
fixed_of fixed.Object = OBJECT
fixed_of fixed.EndObject = END_OBJECT
fixed_of fixed.Group = GROUP
fixed_of fixed.EndGroup = END_GROUP
fixed_of fixed.BeginObject = BEGIN_OBJECT
fixed_of fixed.Equals = equals
fixed_of fixed.Comma = comma
fixed_of fixed.Star = star
fixed_of fixed.Slash = slash
fixed_of fixed.Caret = caret
fixed_of fixed.Less = less
fixed_of fixed.Greater = greater
fixed_of fixed.OpenParen = lpar
fixed_of fixed.CloseParen = rpar
fixed_of fixed.OpenBrace = lbrace
fixed_of fixed.CloseBrace = rbrace
fixed_of fixed.Power = power

-- a number of the code: its sign and its size
abbrev pub whole : Bool → ℕ → Whole
whole m n = record { minus = m; size = n }

-- a real of the code
abbrev pub real_of : code-real.Real → Real
real_of x = record { number = whole x.minus x.number; power = whole x.below x.power }

-- a moment of the code
abbrev pub moment_of : code-moment.Moment → Moment
moment_of x = record {
  parts = x.parts;
  year = x.year;
  month = x.month;
  day = x.day;
  hour = x.hour;
  minute = x.minute;
  second = x.second;
  nanoseconds = x.nanoseconds;
  offset = whole x.west x.offset;
  mark = x.mark;
}

-- the rules' element of the word w that a value of the code stands for
abbrev pub elem_of : List ℕ → Bool → Value → Elem
elem_of w off Name = name (map fold w)
elem_of w off End = end off
elem_of w off (The k) = the (fixed_of k)
elem_of w off (Integer neg n) = integer (whole neg n)
elem_of w off (Based neg n) = based (whole neg n)
elem_of w off (Float x) = real (real_of x)
elem_of w off (Time t) = moment (moment_of t)

-- a value, or why there is none
abbrev pub Answer : Type 0
Answer = Result Value Unfit

-- the rules' verdict on the word w that the code's answer stands for
abbrev pub verdict_of : List ℕ → Bool → Answer → WordVerdict
verdict_of w off (Ok v) = is (elem_of w off v)
verdict_of w off (Err PastLimit) = over
verdict_of w off (Err NoForm) = formless

-- the answer to what is written
pub record Worth (v : Written) (r : Answer) : Type 0 where
  pub worth : (w : List ℕ) (off : Bool) → limited (value base off v) ≡ verdict_of w off r

-- the answer to an identifier
pub record Named (w : List ℕ) (r : Answer) : Type 0 where
  pub names : (off : Bool) → limited (named false off (map fold w)) ≡ verdict_of w off r

-- the answer to a word, in the rules' terms, whether END is set off or not
pub record Means (w : List ℕ) (r : Answer) : Type 0 where
  pub means : (off : Bool) → Classified base off w (verdict_of w off r)
