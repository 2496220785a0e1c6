-- Elements: what a byte begins, the piece at the front of the bytes, and the next element behind a gap.
use Prim.Native.Nat.{ℕ, suc, zero}
use mathlib.Core.Bool.{Bool, cond}
use mathlib.Core.Option.{Option, none, some}
use mathlib.Core.List.{List, [], ◌∷◌, ◌++◌}
use lib.Dec.{leb, eqb}
use lib.ListN.{length}
use Rattle.rules.specs.Bytes.{line_end, word_byte, front, pair}
use Rattle.rules.specs.Data.{star, slash, power, Elem, the, text, symbol, Fixed}
use Rattle.rules.specs.Modes.{Mode}
use Rattle.rules.specs.Elements.{is_blank, in_comment, in_line, in_text, in_symbol, in_word, sets_off, Spells, never, Fault, sign_of, Gap}
use Rattle.rules.proofs.Machine.Splits.{Split, split_run, behind_first}
use Rattle.rules.proofs.Machine.Words.{WordVerdict, is, over, formless, classify}

-- ---- what a byte begins

-- a word, a blank, a sign, `*`, `/`, `"`, `'`, or nothing
pub data Begin : Type 0 where
  a_word a_blank a_star a_slash a_quote an_apostrophe no_start : Begin
  a_sign : Fixed → Begin

-- what is no sign by itself
abbrev pub other : ℕ → Begin
other b = cond (eqb b 42) a_star (cond (eqb b 47) a_slash (cond (eqb b 34) a_quote (cond (eqb b 39) an_apostrophe no_start)))

-- a sign, or else
abbrev pub or_sign : Option Fixed → Begin → Begin
or_sign none x = x
or_sign (some f) x = a_sign f

abbrev pub begin : Mode → ℕ → Begin
begin m b = cond (word_byte b) a_word (cond (is_blank b) a_blank (or_sign (sign_of m b) (other b)))

-- ---- the piece at the front

-- a gap, an element, a fault, or the end
pub data Piece : Type 0 where
  -- bytes between elements; an element, how many bytes its span leaves out, its bytes; what follows
  a_gap : List ℕ → List ℕ → Piece
  an_element : Elem → ℕ → List ℕ → List ℕ → Piece
  a_fault : ℕ → Piece
  the_end : Piece

-- a word, by what it is
abbrev pub verdict_piece : WordVerdict → List ℕ → List ℕ → Piece
verdict_piece (is e) w r = an_element e 0 w r
verdict_piece over w r = a_fault 5
verdict_piece formless w r = a_fault 4

abbrev pub word_piece : Mode → Split → Piece
word_piece m s = verdict_piece (classify m (sets_off m s.1) s.0) s.0 s.1

abbrev pub star_piece : List ℕ → Piece
star_piece l = cond (front (λ b. eqb b 42) l) (an_element (the power) 0 (42 ∷ 42 ∷ []) (behind_first l)) (an_element (the star) 0 (42 ∷ []) l)

-- 3 where the bytes end or where this class stands; 2 at any other byte
abbrev pub broken_code : (ℕ → Bool) → List ℕ → ℕ
broken_code c [] = 3
broken_code c (b ∷ r) = cond (c b) 3 2

abbrev pub text_piece : Split → Piece
text_piece s = cond (front (λ b. eqb b 34) s.1) (an_element text 1 (34 ∷ (s.0 ++ 34 ∷ [])) (behind_first s.1)) (a_fault (broken_code never s.1))

-- a closed symbol, by its size
abbrev pub sized : List ℕ → List ℕ → Piece
sized [] r = a_fault 4
sized (b ∷ t) r = cond (leb (length (b ∷ t)) 255) (an_element symbol 1 (39 ∷ ((b ∷ t) ++ 39 ∷ [])) r) (a_fault 5)

abbrev pub symbol_piece : Split → Piece
symbol_piece s = cond (front (λ b. eqb b 39) s.1) (sized s.0 (behind_first s.1)) (a_fault (broken_code line_end s.1))

-- a comment, and the rest of its line
abbrev pub ignored : List ℕ → Split → Piece
ignored c s = a_gap (47 ∷ 42 ∷ (c ++ 42 ∷ 47 ∷ s.0)) s.1

abbrev pub comment_piece : Split → Piece
comment_piece s =
    let g = ignored s.0 (split_run in_line (behind_first (behind_first s.1))) in
    cond (pair 42 47 s.1) g (a_fault (broken_code line_end s.1))

abbrev pub slash_piece : List ℕ → Piece
slash_piece l =
    let g = comment_piece (split_run in_comment (behind_first l)) in
    cond (front (λ b. eqb b 42) l) g (an_element (the slash) 0 (47 ∷ []) l)

abbrev pub piece_of : Mode → Begin → ℕ → List ℕ → Piece
piece_of m a_word b l = word_piece m (split_run in_word (b ∷ l))
piece_of m a_blank b l = a_gap (b ∷ []) l
piece_of m a_star b l = star_piece l
piece_of m a_slash b l = slash_piece l
piece_of m a_quote b l = text_piece (split_run in_text l)
piece_of m an_apostrophe b l = symbol_piece (split_run in_symbol l)
piece_of m no_start b l = a_fault 2
piece_of m (a_sign f) b l = an_element (the f) 0 (b ∷ []) l

abbrev pub piece : Mode → List ℕ → Piece
piece m [] = the_end
piece m (b ∷ l) = piece_of m (begin m b) b l

-- ---- the next element behind a gap

-- an element, the bytes that its span leaves out, the gap before it, its bytes, and what follows; a fault and the gap before it; neither
pub data Ahead : Type 0 where
  comes : Elem → ℕ → List ℕ → List ℕ → List ℕ → Ahead
  faulty : ℕ → List ℕ → Ahead
  none_left : Ahead

-- what comes behind a gap
abbrev pub behind : List ℕ → Ahead → Ahead
behind c (comes e q g w r) = comes e q (c ++ g) w r
behind c (faulty k g) = faulty k (c ++ g)
behind c none_left = none_left

-- by the piece at the front; the function finds what comes behind it
abbrev pub onward : Piece → (List ℕ → Ahead) → Ahead
onward (a_gap c r) f = behind c (f r)
onward (an_element e q w r) f = comes e q [] w r
onward (a_fault k) f = faulty k []
onward the_end f = none_left

-- within so many pieces
abbrev pub search_in : Mode → ℕ → List ℕ → Ahead
search_in m zero l = none_left
search_in m (suc k) l = onward (piece m l) (search_in m k)

abbrev pub next_element : Mode → List ℕ → Ahead
next_element m l = search_in m (suc (length l)) l

-- the same in the rules' terms
pub data NextIs (m : Mode) : List ℕ → Ahead → Type 0 where
  finds : {g w r : List ℕ} {e : Elem} {q : ℕ} → Gap m g (w ++ r) → Spells m w e q r → NextIs m (g ++ (w ++ r)) (comes e q g w r)
  faults : {g r : List ℕ} {c : ℕ} → Gap m g r → Fault m r c → NextIs m (g ++ r) (faulty c g)
  ends : {l : List ℕ} → Gap m l [] → NextIs m l none_left
