-- Where a list of elements stops being the beginning of a label, and the code of that.
use Rattle.std.specs.Prelude.{ℕ, Bool, List, [], ◌∷◌, ◌++◌}
use Rattle.rules.specs.Data.{Whole, Name, Kind, opener, beginner, Elem, name, the, end, integer, Placed, ◌on◌, Row, Span}
use Rattle.rules.specs.Grammar.{Strictness, strict, relaxed, Label}
use Rattle.rules.specs.Modes.{Mode}

-- something can follow these elements so that all is a label
abbrev pub Viable : Mode → Strictness → List Placed → Type 0
Viable m s es = (rest : List Placed) × (rows : List Row) × Label m s (es ++ rest) rows

-- the code of an element that only a limit keeps out: which limit, the element tells
pub data PastLimit : Elem → ℕ → Type 0 where
  -- 5: unit exponent past its limit. 7: closing name not the opening one. 8: OBJECT or GROUP at depth 80. 9: END at depth 0 without its
  -- spacing
  exponent_past : {w : Whole} → PastLimit (integer w) 5
  name_differs : {n : Name} → PastLimit (name n) 7
  too_deep : (k : Kind) → PastLimit (the (opener k)) 8
  begun_too_deep : (k : Kind) → PastLimit (the (beginner k)) 8
  not_set_off : {b : Bool} → PastLimit (end b) 9

-- 6 before 7 to 9, on one element: the code of an element behind others
pub data Code (m : Mode) : List Placed → Placed → ℕ → Type 0 where
  -- 6: an element that cannot stand there, limits or none; else the limit's code
  cannot_stand : {es : List Placed} {x : Placed} → (Viable m relaxed (es ++ (x ∷ [])) → ⊥) → Code m es x 6
  past_limit : {es : List Placed} {e : Elem} {p : Span} {c : ℕ} → Viable m relaxed (es ++ (e on p ∷ [])) → PastLimit e c →
      Code m es (e on p) c

-- after `es`, the first fault is at `x`, and its code is `c`
pub record Refused (m : Mode) (es : List Placed) (x : Placed) (c : ℕ) : Type 0 where
  pub until : Viable m strict es
  pub fault : Viable m strict (es ++ (x ∷ [])) → ⊥
  pub code : Code m es x c

-- 10: input ends early: the elements begin a label, and are none
pub record Early (m : Mode) (es : List Placed) : Type 0 where
  pub until : Viable m strict es
  pub short : (rows : List Row) → Label m strict es rows → ⊥
