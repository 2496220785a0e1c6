-- What `next` says of a label, in the rules' terms: the element found is the one that the rules find, at its place.
use Rattle.std.specs.Prelude.{ℕ, ◌+◌, ◌-◌, ◌≤◌, ◌<◌, ◌≡◌, List, length, drop, Option, Some, None, Result, Ok, Err}
use Rattle.rules.specs.Data as rule
use Rattle.rules.specs.Modes.{base}
use Rattle.rules.specs.Elements.{Spells, placed, Fault}
use Rattle.rules.proofs.Machine.Elements.{comes, faulty, none_left, NextIs}
use Rattle.classes.specs.Places.{name_at, part, as_span}
use Rattle.words.specs.Says.{fixed_of, whole, real_of, moment_of}
use Rattle.elements.specs.declared.Element.{Element}
use Rattle.elements.specs.declared.Element.TheVariants.{Name, The, End, Integer, Based, Float, Time, Text, Symbol}
use Rattle.elements.specs.declared.Found.{Found}
use Rattle.elements.specs.declared.Broken.{Broken}
use Rattle.elements.specs.Faults.{code_of}

-- the element of the rules that an element of the code stands for, over the label's bytes
abbrev pub placed_of : List ℕ → Element → rule.Placed
placed_of label (Name a b) = rule.◌on◌ (rule.name (name_at label a b)) (as_span a b)
placed_of label (The k a b) = rule.◌on◌ (rule.the (fixed_of k)) (as_span a b)
placed_of label (End f a b) = rule.◌on◌ (rule.end f) (as_span a b)
placed_of label (Integer m n a b) = rule.◌on◌ (rule.integer (whole m n)) (as_span a b)
placed_of label (Based m n a b) = rule.◌on◌ (rule.based (whole m n)) (as_span a b)
placed_of label (Float x a b) = rule.◌on◌ (rule.real (real_of x)) (as_span a b)
placed_of label (Time x a b) = rule.◌on◌ (rule.moment (moment_of x)) (as_span a b)
placed_of label (Text a b) = rule.◌on◌ rule.text (as_span a b)
placed_of label (Symbol a b) = rule.◌on◌ rule.symbol (as_span a b)

-- where an element begins, its opening quote included
abbrev pub place_of : Element → ℕ
place_of (Name a b) = a
place_of (The k a b) = a
place_of (End f a b) = a
place_of (Integer m n a b) = a
place_of (Based m n a b) = a
place_of (Float x a b) = a
place_of (Time x a b) = a
place_of (Text a b) = a - 1
place_of (Symbol a b) = a - 1

-- an element from a place to another, by its bytes there
pub record ElementAt (label : List ℕ) (at : ℕ) (f : Found) : Type 0 where
  pub x : rule.Elem
  pub q : ℕ
  pub onward : at < f.1
  pub within : f.1 ≤ length label
  pub spells : Spells base (part label at f.1) x q (drop f.1 label)
  pub placed : placed_of label f.0 ≡ rule.◌on◌ x (as_span (at + q) (f.1 - q))
  pub place : place_of f.0 ≡ at

-- a fault at a place
pub record FaultAt (label : List ℕ) (at : ℕ) (b : Broken) : Type 0 where
  pub within : at < length label
  pub place : b.1 ≡ at
  pub is : Fault base (drop at label) (code_of b.0)

-- what stands at a place: an element; nothing at the label's end; or a fault
abbrev pub Stands : List ℕ → ℕ → Result (Option Found) Broken → Type 0
Stands label at (Ok (Some f)) = ElementAt label at f
Stands label at (Ok None) = at ≡ length label
Stands label at (Err b) = FaultAt label at b

-- an answer of what is asked inside the label alone, as one of any place
abbrev pub inside : Result Found Broken → Result (Option Found) Broken
inside (Ok f) = Ok (Some f)
inside (Err b) = Err b

-- an element, its bytes from `at` on, behind a gap from `from`
pub record ElementNext (label : List ℕ) (from : ℕ) (f : Found) : Type 0 where
  pub x : rule.Elem
  pub q : ℕ
  pub at : ℕ
  pub behind : from ≤ at
  pub onward : at < f.1
  pub within : f.1 ≤ length label
  pub is : NextIs base (drop from label) (comes x q (part label from at) (part label at f.1) (drop f.1 label))
  pub placed : placed_of label f.0 ≡ placed from (part label from at) (part label at f.1) x q
  pub place : place_of f.0 ≡ at

-- a fault behind a gap from `from`
pub record FaultNext (label : List ℕ) (from : ℕ) (b : Broken) : Type 0 where
  pub behind : from ≤ b.1
  pub within : b.1 < length label
  pub is : NextIs base (drop from label) (faulty (code_of b.0) (part label from b.1))

-- an element; nothing but a gap up to the label's end; or a fault
abbrev pub NextAt : List ℕ → ℕ → Result (Option Found) Broken → Type 0
NextAt label from (Ok (Some f)) = ElementNext label from f
NextAt label from (Ok None) = NextIs base (drop from label) none_left
NextAt label from (Err b) = FaultNext label from b
