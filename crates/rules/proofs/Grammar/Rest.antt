-- What may still come in a state, in the grammar's own terms.
use Prim.Native.Nat.{suc, ◌≤◌}
use mathlib.Core.Path.{◌≡◌}
use mathlib.Core.Bool.{Bool, true}
use mathlib.Core.List.{List, [], ◌∷◌, ◌++◌}
use Rattle.rules.specs.Data.{Span, Whole, Name, equals, greater, rpar, rbrace, name, the, end, integer, range, Placed, ◌on◌, Kind, closer, Op, Row, pointer, opened, closed, an_integer, a_unit, sequence, sequence_end, set_end, last, Opens, outside, inside, depth}
use Rattle.rules.specs.Grammar.{Strictness, Kept, Exponent, Factor, Factors, Units, Scalar, Scalars, Sequence1, Rows, Sequence, Set, Value, Closing, Semicolon, Statements}
use Rattle.rules.specs.Modes.{Mode}
use Rattle.rules.proofs.Machine.Statements.{Group, in_sequence, in_row, in_set, Place, alone, within, Else, any_value, a_row, a_set_end, State, at_statement, at_semicolon, at_equals, at_pointer, at_opener, at_opened, at_closer, at_closed, at_scalar, at_number, at_member, at_row, at_next_row, at_unit, at_power, at_exponent, at_factor, at_end}

module _ (m : Mode) (s : Strictness) where
  -- after a whole statement, with these blocks open: statements, and the end of each block and of the label
  pub data Tail : Opens → List Placed → List Row → Type 0 where
    tail_label : (b : Bool) (p : Span) {xs : List Placed} {rs : List Row} →
        Statements m s 0 xs rs → Kept s (b ≡ true) → Tail outside (xs ++ (end b on p ∷ [])) (rs ++ (last p.upto ∷ []))
    tail_block : {k : Kind} {n : Name} {o : Opens} (p : Span) {xs cs es ys : List Placed} {rs qs : List Row} →
        Statements m s (suc (depth o)) xs rs → Closing m s n cs → Semicolon m s es → Tail o ys qs →
        Tail (inside k n o) (xs ++ (the (closer k) on p ∷ (cs ++ (es ++ ys)))) (rs ++ (closed k ∷ qs))

  -- after what a semicolon may follow
  pub data Ended : Opens → List Placed → List Row → Type 0 where
    ended_by : {o : Opens} {es ys : List Placed} {qs : List Row} → Semicolon m s es → Tail o ys qs → Ended o (es ++ ys) qs

  -- after a row
  pub data RowsRest : Opens → List Placed → List Row → Type 0 where
    rows_rest : {o : Opens} (p : Span) {xs ys : List Placed} {rs qs : List Row} →
        Rows m s xs rs → Ended o ys qs → RowsRest o (xs ++ (the rpar on p ∷ ys)) (rs ++ (sequence_end ∷ qs))

  -- from the end of a list on
  pub data Ending : Group → Opens → List Placed → List Row → Type 0 where
    ending_sequence : {o : Opens} {p : Span} {ys : List Placed} {qs : List Row} →
        Ended o ys qs → Ending in_sequence o (the rpar on p ∷ ys) (sequence_end ∷ qs)
    ending_row : {o : Opens} {p : Span} {ys : List Placed} {qs : List Row} →
        RowsRest o ys qs → Ending in_row o (the rpar on p ∷ ys) (sequence_end ∷ qs)
    ending_set : {o : Opens} {p : Span} {ys : List Placed} {qs : List Row} →
        Ended o ys qs → Ending in_set o (the rbrace on p ∷ ys) (set_end ∷ qs)

  -- after a scalar
  pub data After : Place → Opens → List Placed → List Row → Type 0 where
    after_alone : {o : Opens} {ys : List Placed} {qs : List Row} → Ended o ys qs → After alone o ys qs
    after_within : {g : Group} {o : Opens} {xs ys : List Placed} {rs qs : List Row} →
        Scalars m s xs rs → Ending g o ys qs → After (within g) o (xs ++ ys) (rs ++ qs)

  -- after a factor
  pub data FactorsRest : Place → Opens → List Placed → List Row → Type 0 where
    factors_rest : {c : Place} {o : Opens} (p : Span) {xs ys : List Placed} {rs qs : List Row} →
        Factors m s xs rs → After c o ys qs → FactorsRest c o (xs ++ (the greater on p ∷ ys)) (rs ++ qs)

  -- what may come in a scalar's stead
  pub data Other : Else → Opens → List Placed → List Row → Type 0 where
    other_sequence : {o : Opens} {xs ys : List Placed} {rs qs : List Row} →
        Sequence m s xs rs → Ended o ys qs → Other any_value o (xs ++ ys) (rs ++ qs)
    other_set : {o : Opens} {xs ys : List Placed} {rs qs : List Row} →
        Set m s xs rs → Ended o ys qs → Other any_value o (xs ++ ys) (rs ++ qs)
    other_row : {o : Opens} {xs ys : List Placed} {rs qs : List Row} →
        Sequence1 m s xs rs → RowsRest o ys qs → Other a_row o (xs ++ ys) (rs ++ qs)
    other_range : {o : Opens} {lo hi : Whole} {p : Span} {ys : List Placed} {qs : List Row} → m.version_1 ≡ true →
        Ended o ys qs → Other any_value o (range lo hi on p ∷ ys) (sequence ∷ an_integer lo ∷ an_integer hi ∷ sequence_end ∷ qs)
    other_end : {o : Opens} {p : Span} {ys : List Placed} {qs : List Row} →
        Ended o ys qs → Other a_set_end o (the rbrace on p ∷ ys) (set_end ∷ qs)

  pub data Rest : State → Opens → List Placed → List Row → Type 0 where
    r_statement : {o : Opens} {ys : List Placed} {qs : List Row} → Tail o ys qs → Rest at_statement o ys qs
    r_semicolon : {o : Opens} {ys : List Placed} {qs : List Row} → Ended o ys qs → Rest at_semicolon o ys qs
    r_equals : {o : Opens} {p : Span} {xs ys : List Placed} {rs qs : List Row} →
        Value m s xs rs → Ended o ys qs → Rest at_equals o (the equals on p ∷ (xs ++ ys)) (rs ++ qs)
    r_pointer : {o : Opens} {n : Name} {p q : Span} {xs ys : List Placed} {rs qs : List Row} →
        Value m s xs rs → Ended o ys qs → Rest at_pointer o (name n on p ∷ the equals on q ∷ (xs ++ ys)) (pointer p ∷ (rs ++ qs))
    r_opener : {k : Kind} {o : Opens} {n : Name} {p q : Span} {ys : List Placed} {qs : List Row} →
        Ended (inside k n o) ys qs → Rest (at_opener k) o (the equals on p ∷ name n on q ∷ ys) (opened k q ∷ qs)
    r_opened : {k : Kind} {o : Opens} {n : Name} {p : Span} {ys : List Placed} {qs : List Row} →
        Ended (inside k n o) ys qs → Rest (at_opened k) o (name n on p ∷ ys) (opened k p ∷ qs)
    r_closer : {n : Name} {o : Opens} {cs ys : List Placed} {qs : List Row} →
        Closing m s n cs → Ended o ys qs → Rest (at_closer n) o (cs ++ ys) qs
    r_closed : {n : Name} {o : Opens} {n' : Name} {p : Span} {ys : List Placed} {qs : List Row} →
        Kept s (n' ≡ n) → Ended o ys qs → Rest (at_closed n) o (name n' on p ∷ ys) qs
    r_scalar : {c : Place} {a : Else} {o : Opens} {xs ys : List Placed} {rs qs : List Row} →
        Scalar m s xs rs → After c o ys qs → Rest (at_scalar c a) o (xs ++ ys) (rs ++ qs)
    r_other : {c : Place} {a : Else} {o : Opens} {ys : List Placed} {qs : List Row} →
        Other a o ys qs → Rest (at_scalar c a) o ys qs
    r_number : {c : Place} {o : Opens} {xs ys : List Placed} {rs qs : List Row} →
        Units m s xs rs → After c o ys qs → Rest (at_number c) o (xs ++ ys) (rs ++ qs)
    r_member : {g : Group} {o : Opens} {ys : List Placed} {qs : List Row} →
        After (within g) o ys qs → Rest (at_member g) o ys qs
    r_row : {o : Opens} {ys : List Placed} {qs : List Row} → RowsRest o ys qs → Rest at_row o ys qs
    r_next_row : {o : Opens} {xs ys : List Placed} {rs qs : List Row} →
        Sequence1 m s xs rs → RowsRest o ys qs → Rest at_next_row o (xs ++ ys) (rs ++ qs)
    r_unit : {c : Place} {op : Op} {o : Opens} {xs ys : List Placed} {r : Row} {qs : List Row} →
        Factor m s op xs r → FactorsRest c o ys qs → Rest (at_unit c op) o (xs ++ ys) (r ∷ qs)
    r_power : {c : Place} {op : Op} {p : Span} {o : Opens} {es ys : List Placed} {w : Whole} {qs : List Row} →
        Exponent m s es w → FactorsRest c o ys qs → Rest (at_power c op p) o (es ++ ys) (a_unit op p w ∷ qs)
    r_exponent : {c : Place} {op : Op} {p q : Span} {o : Opens} {ys : List Placed} {w : Whole} {qs : List Row} →
        Kept s (w.size ≤ 99) → FactorsRest c o ys qs → Rest (at_exponent c op p) o (integer w on q ∷ ys) (a_unit op p w ∷ qs)
    r_factor : {c : Place} {o : Opens} {ys : List Placed} {qs : List Row} → FactorsRest c o ys qs → Rest (at_factor c) o ys qs
    r_end : {o : Opens} → Rest at_end o [] []
