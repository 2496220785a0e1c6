-- Statements and values, as 12.4 and 12.5 of the source print them, but for the comma between rows, which document 02 §2 puts in: which
-- elements make a label, and the rows that they give.
-- Each type below is a rule of the source's grammar, which stands above it, or a help to these, which says so.
use Rattle.std.specs.Prelude.{ℕ, suc, ◌≤◌, ◌<◌, ◌≡◌, Bool, true, List, [], ◌∷◌, ◌++◌}
use Rattle.rules.specs.Data.{Span, Whole, one, Real, Moment, Name, Fixed, equals, comma, star, slash, caret, less, greater, lpar}
use Rattle.rules.specs.Data.{rpar, lbrace, rbrace, power, semicolon, name, the, end, integer, based, real, moment, range, text}
use Rattle.rules.specs.Data.{symbol, Placed, ◌on◌, Kind, opener, beginner, closer, Op, first, times, divided, Row, attribute, pointer}
use Rattle.rules.specs.Data.{opened, closed, an_integer, a_real, a_moment, a_text, a_symbol, a_unit, sequence, sequence_end, set}
use Rattle.rules.specs.Data.{set_end, last}
use Rattle.rules.specs.Modes.{Mode}

-- The relaxed grammar drops four limits, and nothing else: the depth, the equality of the closing name, the size of an
-- exponent, and the setting-off of END. It serves to say which code a refusal has.
pub data Strictness : Type 0 where
  strict relaxed : Strictness

-- a limit, kept in the strict grammar alone
abbrev pub Kept : Strictness → Type 0 → Type 0
Kept strict P = P
Kept relaxed P = Unit {0}

module _ (m : Mode) (s : Strictness) where
  -- exp_op ::= **, and in version 1 also ^
  pub data ExpOp : Fixed → Type 0 where
    two_stars : ExpOp power
    one_caret : m.version_1 ≡ true → ExpOp caret

  -- [exp_op integer], with an exponent from -99 to 99; none written means 1
  pub data Exponent : List Placed → Whole → Type 0 where
    unwritten : Exponent [] one
    written : {x : Fixed} {p q : Span} {w : Whole} → ExpOp x → Kept s (w.size ≤ 99) → Exponent (the x on p ∷ integer w on q ∷ []) w

  -- units_factor ::= units_identifier [exp_op integer]
  pub data Factor : Op → List Placed → Row → Type 0 where
    factor : {op : Op} {n : Name} {p : Span} {es : List Placed} {w : Whole} →
        Exponent es w → Factor op (name n on p ∷ es) (a_unit op p w)

  -- [mult_op units_factor]*, with mult_op ::= * | /
  pub data Factors : List Placed → List Row → Type 0 where
    no_factor : Factors [] []
    by_times : {p : Span} {xs ys : List Placed} {r : Row} {rs : List Row} →
        Factor times xs r → Factors ys rs → Factors (the star on p ∷ (xs ++ ys)) (r ∷ rs)
    by_divided : {p : Span} {xs ys : List Placed} {r : Row} {rs : List Row} →
        Factor divided xs r → Factors ys rs → Factors (the slash on p ∷ (xs ++ ys)) (r ∷ rs)

  -- [units_expression], with units_expression ::= < units_factor [mult_op units_factor]* >
  pub data Units : List Placed → List Row → Type 0 where
    no_units : Units [] []
    units : {p : Span} (q : Span) {xs ys : List Placed} {r : Row} {rs : List Row} →
        Factor first xs r → Factors ys rs → Units (the less on p ∷ (xs ++ (ys ++ (the greater on q ∷ [])))) (r ∷ rs)

  -- scalar_value ::= numeric_value | date_time_value | text_string_value | symbolic_value
  pub data Scalar : List Placed → List Row → Type 0 where
    -- numeric_value ::= integer [units_expression] | based_integer [units_expression] | real [units_expression]
    integer_value : {w : Whole} {p : Span} {us : List Placed} {rs : List Row} →
        Units us rs → Scalar (integer w on p ∷ us) (an_integer w ∷ rs)
    based_value : {w : Whole} {p : Span} {us : List Placed} {rs : List Row} →
        Units us rs → Scalar (based w on p ∷ us) (an_integer w ∷ rs)
    real_value : {x : Real} {p : Span} {us : List Placed} {rs : List Row} →
        Units us rs → Scalar (real x on p ∷ us) (a_real x ∷ rs)
    -- date_time_value ::= date | time | date_time; text_string_value ::= quoted_text; symbolic_value ::= identifier | quoted_symbol
    date_time_value : {t : Moment} {p : Span} → Scalar (moment t on p ∷ []) (a_moment t ∷ [])
    text_value : {p : Span} → Scalar (text on p ∷ []) (a_text p ∷ [])
    symbol_value : {p : Span} → Scalar (symbol on p ∷ []) (a_symbol p ∷ [])
    identifier_value : {n : Name} {p : Span} → Scalar (name n on p ∷ []) (a_symbol p ∷ [])

  -- what stands between two members, or between two rows: one comma, which version 1 may leave out
  pub data Apart : List Placed → Type 0 where
    comma_apart : {p : Span} → Apart (the comma on p ∷ [])
    beside : m.version_1 ≡ true → Apart []

  -- [, scalar_value]*
  pub data Scalars : List Placed → List Row → Type 0 where
    no_scalar : Scalars [] []
    and_scalar : {bs xs ys : List Placed} {rs qs : List Row} →
        Apart bs → Scalar xs rs → Scalars ys qs → Scalars (bs ++ (xs ++ ys)) (rs ++ qs)

  -- sequence_1D ::= (scalar_value [, scalar_value]*)
  pub data Sequence1 : List Placed → List Row → Type 0 where
    sequence_1_d : {p : Span} (q : Span) {xs ys : List Placed} {rs qs : List Row} →
        Scalar xs rs → Scalars ys qs →
        Sequence1 (the lpar on p ∷ (xs ++ (ys ++ (the rpar on q ∷ [])))) (sequence ∷ (rs ++ (qs ++ (sequence_end ∷ []))))

  -- [, sequence_1D]*. Document 02 §2: The printed rule in 12.5.5 left the comma out. Rows are now separated by one comma, and side by side
  -- is refused with 6 at the second row.
  pub data Rows : List Placed → List Row → Type 0 where
    no_row : Rows [] []
    and_row : {bs xs ys : List Placed} {rs qs : List Row} →
        Apart bs → Sequence1 xs rs → Rows ys qs → Rows (bs ++ (xs ++ ys)) (rs ++ qs)

  -- sequence_value ::= sequence_1D | sequence_2D, with sequence_2D ::= (sequence_1D [, sequence_1D]*), printed as ([sequence_1D] +)
  pub data Sequence : List Placed → List Row → Type 0 where
    one_dimension : {xs : List Placed} {rs : List Row} → Sequence1 xs rs → Sequence xs rs
    sequence_2_d : {p : Span} (q : Span) {xs ys : List Placed} {rs qs : List Row} →
        Sequence1 xs rs → Rows ys qs →
        Sequence (the lpar on p ∷ (xs ++ (ys ++ (the rpar on q ∷ [])))) (sequence ∷ (rs ++ (qs ++ (sequence_end ∷ []))))

  -- set_value ::= {scalar_value [, scalar_value]*} | {}
  pub data Set : List Placed → List Row → Type 0 where
    set_of : {p : Span} (q : Span) {xs ys : List Placed} {rs qs : List Row} →
        Scalar xs rs → Scalars ys qs →
        Set (the lbrace on p ∷ (xs ++ (ys ++ (the rbrace on q ∷ [])))) (set ∷ (rs ++ (qs ++ (set_end ∷ []))))
    empty_set : {p q : Span} → Set (the lbrace on p ∷ the rbrace on q ∷ []) (set ∷ set_end ∷ [])

  -- value ::= scalar_value | sequence_value | set_value, and in version 1 a range, which is a sequence of two
  pub data Value : List Placed → List Row → Type 0 where
    scalar_value : {xs : List Placed} {rs : List Row} → Scalar xs rs → Value xs rs
    sequence_value : {xs : List Placed} {rs : List Row} → Sequence xs rs → Value xs rs
    set_value : {xs : List Placed} {rs : List Row} → Set xs rs → Value xs rs
    range_value : {lo hi : Whole} {p : Span} → m.version_1 ≡ true →
        Value (range lo hi on p ∷ []) (sequence ∷ an_integer lo ∷ an_integer hi ∷ sequence_end ∷ [])

  -- [= object_identifier]: a closing name is optional and must equal the opening one, case folded
  pub data Closing : Name → List Placed → Type 0 where
    unnamed : {n : Name} → Closing n []
    named : {n n' : Name} {p q : Span} → Kept s (n' ≡ n) → Closing n (the equals on p ∷ name n' on q ∷ [])

  -- PVL: a semicolon may follow
  pub data Semicolon : List Placed → Type 0 where
    no_semicolon : Semicolon []
    a_semicolon : {p : Span} → m.pvl ≡ true → Semicolon (the semicolon on p ∷ [])

  -- the word that opens a block
  pub data Opening : Kind → Fixed → Type 0 where
    by_word : {k : Kind} → Opening k (opener k)
    by_begin : {k : Kind} → m.pvl ≡ true → Opening k (beginner k)

  mutual
    -- [statement]*, at a depth
    pub data Statements : ℕ → List Placed → List Row → Type 0 where
      no_statement : {d : ℕ} → Statements d [] []
      and_statement : {d : ℕ} {xs ys : List Placed} {rs qs : List Row} →
          Statement d xs rs → Statements d ys qs → Statements d (xs ++ ys) (rs ++ qs)

    -- statement ::= assignment_stmt | pointer_stmt | object_stmt | group_stmt
    pub data Statement : ℕ → List Placed → List Row → Type 0 where
      -- assignment_stmt ::= attribute_identifier = value
      assignment : {d : ℕ} {n : Name} {p q : Span} {xs es : List Placed} {rs : List Row} →
          Value xs rs → Semicolon es → Statement d (name n on p ∷ the equals on q ∷ (xs ++ es)) (attribute p ∷ rs)
      -- pointer_stmt ::= ^ object_identifier = value
      pointing : {d : ℕ} {n : Name} {p q q' : Span} {xs es : List Placed} {rs : List Row} →
          Value xs rs → Semicolon es → Statement d (the caret on p ∷ name n on q ∷ the equals on q' ∷ (xs ++ es)) (pointer q ∷ rs)
      -- object_stmt ::= object = object_identifier [statement]* end_object [= object_identifier], and group_stmt alike.
      -- OBJECT and GROUP together nest at most 80 deep.
      block : {d : ℕ} {k : Kind} {f : Fixed} {n : Name} {p q q' : Span} (t : Span) {es xs cs es' : List Placed} {rs : List Row} →
          Opening k f → Kept s (d < 80) → Semicolon es → Statements (suc d) xs rs → Closing n cs → Semicolon es' →
          Statement d (the f on p ∷ the equals on q ∷ name n on q' ∷ (es ++ (xs ++ (the (closer k) on t ∷ (cs ++ es')))))
          (opened k q' ∷ (rs ++ (closed k ∷ [])))

  -- label ::= [statement]* end. END stands at depth 0, and the byte after it is spacing, a line end or the input's end.
  pub data Label : List Placed → List Row → Type 0 where
    label : (b : Bool) (p : Span) {xs : List Placed} {rs : List Row} →
        Statements 0 xs rs → Kept s (b ≡ true) → Label (xs ++ (end b on p ∷ [])) (rs ++ (last p.upto ∷ []))
