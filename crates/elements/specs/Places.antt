-- What the functions of the crate say of the places of a label.
use Rattle.std.specs.Prelude.{ℕ, ◌+◌, ◌≤◌, ◌<◌, true, false, ◌≡◌, List, length, get_or, drop, Option, Some, None, Result, Ok, Err}
use Rattle.std.proofs.Math.Option.{none, some}
use Rattle.rules.specs.Bytes.{ascii, among, front, pair}
use Rattle.words.specs.Says.{fixed_of}
use Rattle.words.specs.declared.Fixed.{Fixed}
use Rattle.rules.specs.Modes.{base}
use Rattle.rules.specs.Reading.{longest}
use Rattle.rules.specs.Elements.{is_blank, sign_of, in_word, Comment, Gap, Fault}
use Rattle.elements.specs.Faults.{code_of}
use Rattle.elements.specs.declared.Broken.{Broken}
use Rattle.elements.specs.declared.marks.Mark.{Mark}
use Rattle.elements.specs.declared.marks.Mark.TheVariants.{One, Asterisk, Stroke, Quote, Apostrophe}
use Rattle.classes.specs.Places.{part}

-- a comment opens at a place
pub record CommentOpens (l : List ℕ) (at : ℕ) : Type 0 where
  pub first : get_or l at 0 ≡ 47
  pub second : get_or l (at + 1) 0 ≡ 42
  pub within : at + 2 ≤ length l

-- no blank and no comment stands at a place
pub record Clear (l : List ℕ) (at : ℕ) : Type 0 where
  pub within : at ≤ length l
  pub no_blank : front is_blank (drop at l) ≡ false
  pub no_comment : pair 47 42 (drop at l) ≡ false

-- a word begins at a place, in a label that is not too long
pub record WordBegins (l : List ℕ) (at : ℕ) : Type 0 where
  pub within : at < length l
  pub is : in_word (drop at l) ≡ true
  pub short : length l ≤ longest

-- a comment from a place to another
pub record CommentEnds (l : List ℕ) (at e : ℕ) : Type 0 where
  pub onward : at < e
  pub within : e ≤ length l
  pub is : Comment (part l at e) (drop e l)

-- a comment that is a fault, told at its place
pub record CommentBroken (l : List ℕ) (at : ℕ) (b : Broken) : Type 0 where
  pub opens : CommentOpens l at
  pub place : b.1 ≡ at
  pub is : Fault base (drop at l) (code_of b.0)

-- a comment from a place ends at another, or is a fault
abbrev pub Remarked : List ℕ → ℕ → Result ℕ Broken → Type 0
Remarked l at (Ok e) = CommentEnds l at e
Remarked l at (Err b) = CommentBroken l at b

-- a gap from a place to another, where no more of it stands
pub record GapEnds (l : List ℕ) (from at : ℕ) : Type 0 where
  pub onward : from ≤ at
  pub clear : Clear l at
  pub is : Gap base (part l from at) (drop at l)

-- a gap from a place to a comment that is a fault
pub record GapBroken (l : List ℕ) (from : ℕ) (b : Broken) : Type 0 where
  pub onward : from ≤ b.1
  pub is : Gap base (part l from b.1) (drop b.1 l)
  pub broken : CommentBroken l b.1 b

abbrev pub Skipped : List ℕ → ℕ → Result ℕ Broken → Type 0
Skipped l from (Ok at) = GapEnds l from at
Skipped l from (Err b) = GapBroken l from b

-- what a byte begins
pub data MarkOf (b : ℕ) : Option Mark → Type 0 where
  m_sign : {s : Fixed} → sign_of base b ≡ some (fixed_of s) → MarkOf b (Some (One s))
  m_star : b ≡ 42 → MarkOf b (Some Asterisk)
  m_slash : b ≡ 47 → MarkOf b (Some Stroke)
  m_quote : b ≡ 34 → MarkOf b (Some Quote)
  m_apostrophe : b ≡ 39 → MarkOf b (Some Apostrophe)
  m_nothing : sign_of base b ≡ none → among (ascii "*/\"'") b ≡ false → MarkOf b None
