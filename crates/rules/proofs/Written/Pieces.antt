-- A label as pieces, laid out as the writer does it, each time with the zone that its mark has: each piece an element, with the spaces and
-- line ends before it. With the marks of what is written their bytes are the written label.
use Prim.Native.Nat.{ℕ}
use Prim.Native.Char.{code as byte}
use mathlib.Core.Bool.{Bool, true, false, cond}
use mathlib.Core.Path.{◌≡◌, refl, sym, ap, ap₂, ◌∙◌}
use mathlib.Core.List.{List, [], ◌∷◌, ◌++◌, map, append_assoc, append-nil}
use Rattle.rules.specs.Bytes.{ascii}
use Rattle.rules.specs.Data.{Whole, Name, Fixed, equals, comma, star, slash, caret, less, greater, lpar, rpar, lbrace, rbrace, power, Elem, name, the, end, integer, real, moment, text, symbol, opener, closer, Op, first, times, divided, Opens, outside, inside, depth, attribute, pointer, opened, closed, an_integer, a_real, a_moment, a_text, a_symbol, a_unit, sequence, sequence_end, set, set_end, last}
use Rattle.rules.specs.Written.{decimal, real_bytes, moment_bytes, is_name, symbol_bytes, op_sign, is_one, open_word, close_word, Prior, start, heading, member, factor, prior, units_end, lead, new_line, around, after, repeats, writes, writes_all, canonical}
use Rattle.rules.proofs.Written.Marks.{on_moment, other_rows, unmark, as_written, Wording, prior_unmark, after_unmark}
use Rattle.rules.proofs.Written.GivenMoments.{given_bytes, given_written}

pub record WrittenPiece : Type 0 where
  pub gap : List ℕ
  -- what stands before and after the span: quotes, or nothing
  pub mark : List ℕ
  pub word : List ℕ
  pub elem : Elem

abbrev pub sign : List ℕ → List ℕ → Fixed → WrittenPiece
sign g w k = record { gap = g; mark = []; word = w; elem = the k }

abbrev pub plain : List ℕ → List ℕ → Elem → WrittenPiece
plain g w e = record { gap = g; mark = []; word = w; elem = e }

-- `NAME`
abbrev pub called : List ℕ → Name → WrittenPiece
called g n = record { gap = g; mark = []; word = n; elem = name n }

abbrev pub space : List ℕ
space = 32 ∷ []

-- ` =`
abbrev pub is : WrittenPiece
is = sign space (byte "=" ∷ []) equals

-- a symbol stands bare if it is an unreserved identifier of at most 60 bytes, else in apostrophes
abbrev pub symbol_piece : List ℕ → List ℕ → Bool → WrittenPiece
symbol_piece g w true = called g w
symbol_piece g w false = record { gap = g; mark = byte "'" ∷ []; word = w; elem = symbol }

-- `**-2`, exponent 1 unwritten
abbrev pub exponent_pieces : Whole → Bool → List WrittenPiece
exponent_pieces w true = []
exponent_pieces w false = sign [] (byte "*" ∷ byte "*" ∷ []) power ∷ plain [] (decimal w) (integer w) ∷ []

abbrev pub op_piece : Op → WrittenPiece
op_piece first = sign space (byte "<" ∷ []) less
op_piece times = sign [] (byte "*" ∷ []) star
op_piece divided = sign [] (byte "/" ∷ []) slash

-- ---- between one row and the next

-- after units, `>`
abbrev pub closing : Prior → List WrittenPiece
closing start = []
closing heading = []
closing member = []
closing factor = sign [] (byte ">" ∷ []) greater ∷ []

-- between members, and between the rows of a sequence of sequences, a comma
abbrev pub apart : Prior → List WrittenPiece
apart start = []
apart heading = []
apart member = sign [] (byte "," ∷ []) comma ∷ []
apart factor = sign [] (byte ">" ∷ []) greater ∷ sign [] (byte "," ∷ []) comma ∷ []

-- before a value: a space after `=` and after a comma, none where a bracket has just opened
abbrev pub before : Prior → List ℕ
before start = []
before heading = space
before member = space
before factor = space

-- ---- rows

-- a closing line repeat_pieces the name of the innermost block
abbrev pub repeat_pieces : Opens → List WrittenPiece
repeat_pieces outside = []
repeat_pieces (inside k n o) = is ∷ called space n ∷ []

-- what a row writes, after `q`, within the blocks `o`
abbrev pub pieces_of : Prior → Opens → Wording → List WrittenPiece
pieces_of q o (attribute n) = closing q ++ (called (new_line q (depth o)) n ∷ is ∷ [])
pieces_of q o (pointer n) = closing q ++ (sign (new_line q (depth o)) (byte "^" ∷ []) caret ∷ called [] n ∷ is ∷ [])
pieces_of q o (opened k n) = closing q ++ (sign (new_line q (depth o)) (open_word k) (opener k) ∷ is ∷ called space n ∷ [])
pieces_of q o (closed k) = closing q ++ (sign (new_line q (depth (around o))) (close_word k) (closer k) ∷ repeat_pieces o)
pieces_of q o (an_integer w) = apart q ++ (plain (before q) (decimal w) (integer w) ∷ [])
pieces_of q o (a_real x) = apart q ++ (plain (before q) (real_bytes x) (real x) ∷ [])
pieces_of q o (a_moment t) = apart q ++ (plain (before q) (given_bytes t) (moment t) ∷ [])
pieces_of q o (a_text w) = apart q ++ (record { gap = before q; mark = byte "\"" ∷ []; word = w; elem = text } ∷ [])
pieces_of q o (a_symbol w) = apart q ++ (symbol_piece (before q) w (is_name w) ∷ [])
pieces_of q o (a_unit op n w) = op_piece op ∷ called [] n ∷ exponent_pieces w (is_one w)
pieces_of q o sequence = apart q ++ (sign (before q) (byte "(" ∷ []) lpar ∷ [])
pieces_of q o sequence_end = closing q ++ (sign [] (byte ")" ∷ []) rpar ∷ [])
pieces_of q o set = apart q ++ (sign (before q) (byte "{" ∷ []) lbrace ∷ [])
pieces_of q o set_end = closing q ++ (sign [] (byte "}" ∷ []) rbrace ∷ [])
pieces_of q o (last n) = closing q ++ (plain (new_line q (depth o)) (ascii "END") (end true) ∷ [])

abbrev pub pieces : Prior → Opens → List Wording → List WrittenPiece
pieces q o [] = []
pieces q o (r ∷ rs) = pieces_of q o r ++ pieces (prior r) (after o r) rs

-- the bytes of pieces
abbrev pub bytes_of : List WrittenPiece → List ℕ
bytes_of [] = []
bytes_of (p ∷ ps) = p.gap ++ (p.mark ++ (p.word ++ (p.mark ++ bytes_of ps)))

abbrev pub written_pieces : List Wording → List WrittenPiece
written_pieces m = pieces start outside m

-- ---- their bytes

pub bytes_append : (ps qs : List WrittenPiece) → bytes_of (ps ++ qs) ≡ bytes_of ps ++ bytes_of qs
bytes_append [] qs = refl
bytes_append (p ∷ ps) qs = simp (append_assoc, bytes_append ps qs)

closing_bytes : (q : Prior) → bytes_of (closing q) ≡ units_end q
closing_bytes start = refl
closing_bytes heading = refl
closing_bytes member = refl
closing_bytes factor = refl

apart_bytes : (q : Prior) (s : List ℕ) → bytes_of (apart q) ++ (before q ++ s) ≡ units_end q ++ (lead q ++ s)
apart_bytes start s = refl
apart_bytes heading s = refl
apart_bytes member s = refl
apart_bytes factor s = refl

-- behind what closes the row before
after_closing : (q : Prior) (ps : List WrittenPiece) (s : List ℕ) → bytes_of ps ≡ s → bytes_of (closing q ++ ps) ≡ units_end q ++ s
after_closing q ps s e = bytes_append (closing q) ps ∙ ap (λ (l : List ℕ). l ++ bytes_of ps) (closing_bytes q) ∙ ap (λ (l : List ℕ). units_end q ++ l) e

-- behind what stands before a value
after_apart : (q : Prior) (p : WrittenPiece) (s : List ℕ) → bytes_of (p ∷ []) ≡ before q ++ s → bytes_of (apart q ++ (p ∷ [])) ≡ units_end q ++ (lead q ++ s)
after_apart q p s e = bytes_append (apart q) (p ∷ []) ∙ ap (λ (l : List ℕ). bytes_of (apart q) ++ l) e ∙ apart_bytes q s

plain_bytes_lem : (g w : List ℕ) (e : Elem) → bytes_of (plain g w e ∷ []) ≡ g ++ w
plain_bytes_lem g w e = ap (λ (l : List ℕ). g ++ l) (append-nil w)

symbol_bytes_lem : (g w : List ℕ) (b : Bool) → bytes_of (symbol_piece g w b ∷ []) ≡ g ++ cond b w (39 ∷ (w ++ 39 ∷ []))
symbol_bytes_lem g w true = plain_bytes_lem g w (name w)
symbol_bytes_lem g w false = refl

repeat_bytes : (o : Opens) → bytes_of (repeat_pieces o) ≡ repeats o
repeat_bytes outside = refl
repeat_bytes (inside k n o) = ap (λ (l : List ℕ). 32 ∷ 61 ∷ 32 ∷ l) (append-nil n)

exponent_bytes_lem : (w : Whole) (b : Bool) → bytes_of (exponent_pieces w b) ≡ cond b [] (42 ∷ 42 ∷ decimal w)
exponent_bytes_lem w true = refl
exponent_bytes_lem w false = ap (λ (l : List ℕ). 42 ∷ 42 ∷ l) (append-nil (decimal w))

op_bytes : (op : Op) (s : List ℕ) (ps : List WrittenPiece) → bytes_of ps ≡ s → bytes_of (op_piece op ∷ ps) ≡ op_sign op ++ s
op_bytes first s ps e = ap (λ (l : List ℕ). 32 ∷ 60 ∷ l) e
op_bytes times s ps e = ap (λ (l : List ℕ). 42 ∷ l) e
op_bytes divided s ps e = ap (λ (l : List ℕ). 47 ∷ l) e

row_bytes : (q : Prior) (o : Opens) (r : Wording) → bytes_of (pieces_of q o (on_moment as_written r)) ≡ writes q o (unmark r)
row_bytes q o (attribute n) = after_closing q _ _ refl
row_bytes q o (pointer n) = after_closing q _ _ refl
row_bytes q o (opened k n) = after_closing q _ _ (ap (λ (l : List ℕ). new_line q (depth o) ++ (open_word k ++ (32 ∷ 61 ∷ 32 ∷ l))) (append-nil n))
row_bytes q o (closed k) = after_closing q _ _ (ap (λ (l : List ℕ). new_line q (depth (around o)) ++ (close_word k ++ l)) (repeat_bytes o))
row_bytes q o (an_integer w) = after_apart q _ (decimal w) (plain_bytes_lem (before q) (decimal w) (integer w))
row_bytes q o (a_real x) = after_apart q _ (real_bytes x) (plain_bytes_lem (before q) (real_bytes x) (real x))
row_bytes q o (a_moment t) =
    after_apart q _ (moment_bytes t) (plain_bytes_lem (before q) (given_bytes (as_written t)) (moment (as_written t)) ∙ ap (λ (l : List ℕ). before q ++ l) (given_written t))
row_bytes q o (a_text w) = after_apart q _ (34 ∷ (w ++ 34 ∷ [])) refl
row_bytes q o (a_symbol w) = after_apart q _ (symbol_bytes w) (symbol_bytes_lem (before q) w (is_name w))
row_bytes q o (a_unit op n w) = op_bytes op _ (called [] n ∷ exponent_pieces w (is_one w)) (ap (λ (l : List ℕ). n ++ l) (exponent_bytes_lem w (is_one w)))
row_bytes q o sequence = after_apart q _ (40 ∷ []) refl
row_bytes q o sequence_end = after_closing q _ _ refl
row_bytes q o set = after_apart q _ (123 ∷ []) refl
row_bytes q o set_end = after_closing q _ _ refl
row_bytes q o (last n) = after_closing q _ _ refl

rows_bytes : (q : Prior) (o : Opens) (rs : List Wording) → bytes_of (pieces q o (map (on_moment as_written) rs)) ≡ writes_all q o (map unmark rs)
rows_bytes q o [] = refl
rows_bytes q o (r ∷ rs) =
    let w = on_moment as_written r in
    let ws = map (on_moment as_written) rs in
    let e : prior w ≡ prior (unmark r) = other_rows as_written (λ (x y : Wording). prior x ≡ prior y) (λ t. refl) (λ y. refl) r ∙ sym (prior_unmark r) in
    let f : after o w ≡ after o (unmark r) = other_rows as_written (λ (x y : Wording). after o x ≡ after o y) (λ t. refl) (λ y. refl) r ∙ sym (after_unmark o r) in
    bytes_append (pieces_of q o w) (pieces (prior w) (after o w) ws)
    ∙ ap₂ (λ (l l' : List ℕ). l ++ l') (row_bytes q o r) (ap₂ (λ (p : Prior) (b : Opens). bytes_of (pieces p b ws)) e f ∙ rows_bytes (prior (unmark r)) (after o (unmark r)) rs)

-- the label that the pieces make: every date and time as its mark has it
abbrev pub given_label : List Wording → List ℕ
given_label m = bytes_of (written_pieces m) ++ (13 ∷ 10 ∷ [])

-- with the marks of what is written, it is the written label
pub written_bytes : (m : List Wording) → given_label (map (on_moment as_written) m) ≡ canonical (map unmark m)
written_bytes m = ap (λ (l : List ℕ). l ++ (13 ∷ 10 ∷ [])) (rows_bytes start outside m)
