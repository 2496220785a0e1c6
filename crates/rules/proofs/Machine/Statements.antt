-- Statements: a state, the offers that a state makes, and the step over one element.
use Prim.Native.Nat.{ℕ}
use native.Mathlib.Decide.{dec_le, dec_lt, ℕ_discrete}
use mathlib.Core.Path.{◌≡◌, refl}
use mathlib.Core.Bool.{Bool, true, false, Bool-discrete}
use mathlib.Core.List.{List, [], ◌∷◌, nil≢cons, cons≢nil}
use Rattle.rules.specs.Data.{Span, Whole, one, Name, Fixed, Fixed-discrete, OBJECT, GROUP, BEGIN_OBJECT, BEGIN_GROUP, equals, comma, star, slash, caret, less, greater, lpar, rpar, lbrace, rbrace, power, semicolon, name, the, end, integer, based, real, moment, range, text, symbol, Placed, ◌on◌, Kind, object, group, closer, Op, first, times, divided, Row, attribute, pointer, opened, closed, an_integer, a_real, a_moment, a_text, a_symbol, a_unit, sequence, sequence_end, set, set_end, last, Opens, outside, inside, depth}
use Rattle.rules.specs.Grammar.{Strictness, strict, relaxed}
use Rattle.rules.specs.Modes.{Mode}

-- the lists that a scalar can be a member of
pub data Group : Type 0 where
  in_sequence in_row in_set : Group

-- where a scalar stands: it is the whole value, or it is a member
pub data Place : Type 0 where
  alone : Place
  within : Group → Place

-- what else may stand where a scalar is expected
pub data Else : Type 0 where
  -- nothing; a sequence or a set; a row; the end of a set
  no_else any_value a_row a_set_end : Else

-- what is awaited
pub data State : Type 0 where
  -- a statement, or the end of what is open; the same, or a semicolon
  at_statement : State
  at_semicolon : State
  -- the `=` before a value; a pointer's name, its `=` after that
  at_equals : State
  at_pointer : State
  -- the `=` and the name after an opening word
  at_opener : Kind → State
  at_opened : Kind → State
  -- after a closing word: `=` and the opening name, or what follows the block
  at_closer : Name → State
  at_closed : Name → State
  -- a scalar, or the other thing
  at_scalar : Place → Else → State
  -- after a number: units, or what follows the scalar
  at_number : Place → State
  -- after a member: a comma, or the end of the list
  at_member : Group → State
  -- after a row; after a comma that follows a row
  at_row : State
  at_next_row : State
  -- a unit's name; what follows that; its exponent; what follows the factor
  at_unit : Place → Op → State
  at_power : Place → Op → Span → State
  at_exponent : Place → Op → Span → State
  at_factor : Place → State
  -- after END
  at_end : State

-- what a state has for an element: nothing; the next state and the rows that are certain now; or the same, past a limit with
-- this code
pub data Next : Type 0 where
  never : Next
  go : State → Opens → List Row → Next
  past : ℕ → State → Opens → List Row → Next

-- what a step gives: a refusal's code, or the next state and the rows
pub data Answer : Type 0 where
  refuses : ℕ → Answer
  goes : State → Opens → List Row → Answer

-- what a step gives, strict or relaxed
abbrev pub judge : Strictness → Next → Answer
judge s never = refuses 6
judge s (go q o r) = goes q o r
judge strict (past c q o r) = refuses c
judge relaxed (past c q o r) = goes q o r

-- what a fixed element leads to
infix 85 ◌⇒◌
pub data Entry : Type 0 where
  ◌⇒◌ : Fixed → Next → Entry

-- what a state does with each sort of element; a fixed one that is not listed is refused
pub record Offer : Type 0 where
  pub names : Name → Span → Next
  pub ends : Bool → Span → Next
  pub integers : Whole → Span → Next
  pub numbers : Row → Next
  pub others : Row → Next
  pub ranges : Whole → Whole → Next
  pub fixed : List Entry

-- by a decision
abbrev pub chosen : {P A : Type 0} → Dec P → A → A → A
chosen (yes h) a b = a
chosen (no h) a b = b

abbrev pub find : List Entry → Fixed → Next
find [] k = never
find (j ⇒ n ∷ l) k = chosen (Fixed-discrete j k) n (find l k)

abbrev pub dispatch : Offer → Placed → Next
dispatch f (name n on p) = f.names n p
dispatch f (the k on p) = find f.fixed k
dispatch f (end b on p) = f.ends b p
dispatch f (integer w on p) = f.integers w p
dispatch f (based w on p) = f.numbers (an_integer w)
dispatch f (real x on p) = f.numbers (a_real x)
dispatch f (moment t on p) = f.others (a_moment t)
dispatch f (range lo hi on p) = f.ranges lo hi
dispatch f (text on p) = f.others (a_text p)
dispatch f (symbol on p) = f.others (a_symbol p)

-- a limit of the strict grammar, and its code
abbrev pub limit : {P : Type 0} → Dec P → ℕ → State → Opens → List Row → Next
limit d c q o r = chosen d (go q o r) (past c q o r)

-- ---- kinds of offers

abbrev pub only : List Entry → Offer
only l = record { names = λ n p. never; ends = λ b p. never; integers = λ w p. never; numbers = λ r. never; others = λ r. never; ranges = λ a b. never; fixed = l }

abbrev pub a_name : (Name → Span → Next) → Offer
a_name f = record { names = f; ends = λ b p. never; integers = λ w p. never; numbers = λ r. never; others = λ r. never; ranges = λ a b. never; fixed = [] }

abbrev pub a_whole : (Whole → Span → Next) → Offer
a_whole f = record { names = λ n p. never; ends = λ b p. never; integers = f; numbers = λ r. never; others = λ r. never; ranges = λ a b. never; fixed = [] }

abbrev pub a_statement : (Name → Span → Next) → (Bool → Span → Next) → List Entry → Offer
a_statement f g l = record { names = f; ends = g; integers = λ w p. never; numbers = λ r. never; others = λ r. never; ranges = λ a b. never; fixed = l }

-- one fixed element more
abbrev pub also : Entry → Offer → Offer
also e f = record { names = f.names; ends = f.ends; integers = f.integers; numbers = f.numbers; others = f.others; ranges = f.ranges; fixed = e ∷ f.fixed }

-- the state after a scalar
abbrev pub after : Place → State
after alone = at_semicolon
after (within g) = at_member g

-- a scalar, or a range, or what is listed
abbrev pub a_scalar : Place → Opens → (Whole → Whole → Next) → List Entry → Offer
a_scalar c o f l = record { names = λ n p. go (after c) o (a_symbol p ∷ []); ends = λ b p. never; integers = λ w p. go (at_number c) o (an_integer w ∷ []); numbers = λ r. go (at_number c) o (r ∷ []); others = λ r. go (after c) o (r ∷ []); ranges = f; fixed = l }

-- an entry that a mode has or has not
abbrev pub when : Bool → Entry → List Entry → List Entry
when true e l = e ∷ l
when false e l = l

-- ---- the table

unfoldable pub same_name : {a b : ℕ} {n n' : Name} → Dec (a ≡ b) → Dec (n ≡ n') → Dec (◌≡◌ {A = Name} (a ∷ n) (b ∷ n'))
same_name (yes p) (yes q) = yes (cc)
same_name (yes p) (no h) = no (λ e. h (cc))
same_name (no h) d = no (λ e. h (cc))

unfoldable pub name_discrete : (n n' : Name) → Dec (n ≡ n')
unfolding same_name
name_discrete [] [] = yes refl
name_discrete [] (b ∷ n') = no nil≢cons
name_discrete (a ∷ n) [] = no cons≢nil
name_discrete (a ∷ n) (b ∷ n') = same_name (ℕ_discrete a b) (name_discrete n n')

-- a row begins
abbrev pub row_begins : Opens → Entry
row_begins o = lpar ⇒ go (at_scalar (within in_row) no_else) o (sequence ∷ [])

abbrev pub else : Else → Opens → List Entry
else no_else o = []
else any_value o = lpar ⇒ go (at_scalar (within in_sequence) a_row) o (sequence ∷ []) ∷ lbrace ⇒ go (at_scalar (within in_set) a_set_end) o (set ∷ []) ∷ []
else a_row o = row_begins o ∷ []
else a_set_end o = rbrace ⇒ go at_semicolon o (set_end ∷ []) ∷ []

-- a range, where any value may stand
abbrev pub else_range : Bool → Else → Opens → Whole → Whole → Next
else_range v no_else o lo hi = never
else_range true any_value o lo hi = go at_semicolon o (sequence ∷ an_integer lo ∷ an_integer hi ∷ sequence_end ∷ [])
else_range false any_value o lo hi = never
else_range v a_row o lo hi = never
else_range v a_set_end o lo hi = never

-- what follows a factor; `rs` is the row that only then is certain
abbrev pub factors : Place → Opens → List Row → List Entry
factors c o rs = star ⇒ go (at_unit c times) o rs ∷ slash ⇒ go (at_unit c divided) o rs ∷ greater ⇒ go (after c) o rs ∷ []

-- after a unit's name: its exponent, or what follows the factor
abbrev pub powers : Bool → Place → Op → Span → Opens → List Entry
powers v1 c op p o = power ⇒ go (at_exponent c op p) o [] ∷ when v1 (caret ⇒ go (at_exponent c op p) o []) (factors c o (a_unit op p one ∷ []))

abbrev pub list_end : Group → Opens → List Entry
list_end in_sequence o = rpar ⇒ go at_semicolon o (sequence_end ∷ []) ∷ []
list_end in_row o = rpar ⇒ go at_row o (sequence_end ∷ []) ∷ []
list_end in_set o = rbrace ⇒ go at_semicolon o (set_end ∷ []) ∷ []

abbrev pub member : Group → Opens → List Entry
member g o = comma ⇒ go (at_scalar (within g) no_else) o [] ∷ list_end g o

-- after a member; where the comma may be left out, the next member too
abbrev pub members : Bool → Group → Opens → Offer
members true g o = a_scalar (within g) o (λ a b. never) (member g o)
members false g o = only (member g o)

-- after a row: a comma, or the end; where the comma may be left out, the next row too
abbrev pub rows : Bool → Opens → List Entry
rows beside o = when beside (row_begins o) (comma ⇒ go at_next_row o [] ∷ rpar ⇒ go at_semicolon o (sequence_end ∷ []) ∷ [])

abbrev pub opens : Fixed → Kind → Opens → Entry
opens f k o = f ⇒ limit (dec_lt (depth o) 80) 8 (at_opener k) o []

abbrev pub openings : Bool → Opens → List Entry
openings pvl o = caret ⇒ go at_pointer o [] ∷ opens OBJECT object o ∷ opens GROUP group o ∷ when pvl (opens BEGIN_OBJECT object o) (when pvl (opens BEGIN_GROUP group o) [])

abbrev pub statements : Bool → Opens → Offer
statements pvl outside =
    a_statement (λ n p. go at_equals outside (attribute p ∷ [])) (λ b p. limit (Bool-discrete b true) 9 at_end outside (last p.upto ∷ [])) (openings pvl outside)
statements pvl (inside k n o) =
    a_statement (λ n' p. go at_equals (inside k n o) (attribute p ∷ [])) (λ b p. never) (closer k ⇒ go (at_closer n) o (closed k ∷ []) ∷ openings pvl (inside k n o))

-- the same, or a semicolon
abbrev pub after_statement : Bool → Opens → Offer
after_statement true o = also (semicolon ⇒ go at_statement o []) (statements true o)
after_statement false o = statements false o

module _ (m : Mode) where
  abbrev pub follows : Place → Opens → Offer
  follows alone o = after_statement m.pvl o
  follows (within g) o = members m.version_1 g o

  abbrev pub offers : State → Opens → Offer
  offers at_statement o = statements m.pvl o
  offers at_semicolon o = after_statement m.pvl o
  offers at_equals o = only (equals ⇒ go (at_scalar alone any_value) o [] ∷ [])
  offers at_pointer o = a_name (λ n p. go at_equals o (pointer p ∷ []))
  offers (at_opener k) o = only (equals ⇒ go (at_opened k) o [] ∷ [])
  offers (at_opened k) o = a_name (λ n p. go at_semicolon (inside k n o) (opened k p ∷ []))
  offers (at_closer n) o = also (equals ⇒ go (at_closed n) o []) (after_statement m.pvl o)
  offers (at_closed n) o = a_name (λ n' p. limit (name_discrete n' n) 7 at_semicolon o [])
  offers (at_scalar c a) o = a_scalar c o (else_range m.version_1 a o) (else a o)
  offers (at_number c) o = also (less ⇒ go (at_unit c first) o []) (follows c o)
  offers (at_member g) o = members m.version_1 g o
  offers at_row o = only (rows m.version_1 o)
  offers at_next_row o = only (row_begins o ∷ [])
  offers (at_unit c op) o = a_name (λ n p. go (at_power c op p) o [])
  offers (at_power c op p) o = only (powers m.version_1 c op p o)
  offers (at_exponent c op p) o = a_whole (λ w q. limit (dec_le w.size 99) 5 (at_factor c) o (a_unit op p w ∷ []))
  offers (at_factor c) o = only (factors c o [])
  offers at_end o = only []

  abbrev pub step : Strictness → State → Opens → Placed → Answer
  step s q o x = judge s (dispatch (offers q o) x)

-- after END
abbrev pub is_end : State → Bool
is_end at_statement = false
is_end at_semicolon = false
is_end at_equals = false
is_end at_pointer = false
is_end (at_opener k) = false
is_end (at_opened k) = false
is_end (at_closer n) = false
is_end (at_closed n) = false
is_end (at_scalar c a) = false
is_end (at_number c) = false
is_end (at_member g) = false
is_end at_row = false
is_end at_next_row = false
is_end (at_unit c op) = false
is_end (at_power c op p) = false
is_end (at_exponent c op p) = false
is_end (at_factor c) = false
is_end at_end = true
