-- The bytes of the written label cut into exactly its elements.
use Prim.Native.Nat.{ℕ, zero, suc, ◌+◌, ◌-◌}
use mathlib.Core.Logic.{◌⊎◌, inl, inr}
use mathlib.Core.Path.{◌≡◌, refl, sym, ap, ◌∙◌, subst, subst₂}
use mathlib.Core.Bool.{Bool, true, false, false≢true}
use mathlib.Core.Option.{some}
use mathlib.Core.List.{List, [], ◌∷◌, ◌++◌, append_assoc, append-nil}
use native.Mathlib.Omega.{arith}
use borrow.Author.Tests.{ne_eqb, le-leb}
use lib.Dec.{leb, eqb}
use lib.ListN.{length, length-append}
use Rattle.rules.specs.Values.{each}
use Rattle.rules.specs.Written.{is_one, is_name, decimal, real_bytes, open_word, close_word, Prior, start, heading, member, factor, prior, indent, new_line, after, around}
use Rattle.rules.specs.Proper.{Each, the_rules}
use Rattle.rules.specs.Bytes.{between, word_byte, front, All, ascii}
use Rattle.rules.specs.Data.{Whole, Fixed, equals, comma, caret, less, greater, lpar, rpar, lbrace, rbrace, power, Elem, name, the, end, integer, real, moment, text, symbol, ◌on◌, Kind, object, group, opener, closer, Op, first, times, divided, Opens, outside, inside, depth, attribute, pointer, opened, closed, an_integer, a_real, a_moment, a_text, a_symbol, a_unit, sequence, sequence_end, set, set_end, last}
use Rattle.rules.specs.Words.{Form}
use Rattle.rules.specs.Elements.{sign_of, Gap, no_gap, blank, in_word, sets_off, Spells, word, sign as sign-spelled, one_star, two_stars, one_slash, quoted_text, quoted_symbol, Cut, none_more, next as cut-next}
use Rattle.rules.proofs.Written.Marks.{Wording}
use Rattle.rules.proofs.Written.GivenMoments.{given_bytes}
use Rattle.rules.proofs.Written.Pieces.{bytes_append, WrittenPiece, sign, plain, called, space, is, symbol_piece, exponent_pieces, op_piece, closing, apart, before, repeat_pieces, pieces_of, pieces, bytes_of, written_pieces, given_label}
use Rattle.rules.proofs.Tables.Tests.{and_left, and_right}
use Rattle.rules.proofs.Written.Place.{span_at, next, place, skip}
use Rattle.rules.proofs.Machine.Statements.{in_sequence, in_row, in_set, alone, within}
use Rattle.rules.proofs.Machine.Rows.{sort, s_last, Await, t_statement, t_value, t_first, t_set_first, t_in_row, t_row, t_end, t_number, t_units, t_member, Kinds, to, to_none, sort_step, RowRun, row_here, row_by}
use Rattle.rules.proofs.Tables.RowRuns.{none_to, to_same}
use Rattle.rules.proofs.Machine.Limits.{Within, Valued}
use Rattle.rules.proofs.Written.Clean.{Upper, Clean, Uppers, uppers_after}
use Rattle.rules.proofs.Written.Names.{name_form, open_form, close_form, end_form}
use Rattle.rules.proofs.Words.Runs.{all_run}
use Rattle.rules.proofs.Machine.Checks.{text_byte, symbol_byte, is_text, is_symbol}
use Rattle.rules.proofs.Tables.Contents.{passes_all, name_bytes, Begun, begun, name_begun}
use Rattle.rules.proofs.Written.PrintedNumbers.{integer_form}
use Rattle.rules.proofs.Written.PrintedReals.{real_form}
use Rattle.rules.proofs.Written.PrintedMoments.{given_form}
use Rattle.rules.proofs.Written.WordBytes.{decimal_wordy, real_wordy, given_wordy}

-- ---- one piece

-- with `r` behind it, a piece is cut off as its element
pub record Spelled (p : WrittenPiece) (r : List ℕ) : Type 0 where
  pub blanks : (l : List ℕ) → Gap the_rules p.gap l
  pub spelled : Spells the_rules (p.mark ++ (p.word ++ p.mark)) p.elem (length p.mark) r

abbrev pub AllSpelled : List WrittenPiece → List ℕ → Type 0
AllSpelled [] r = Unit {0}
AllSpelled (p ∷ ps) r = Spelled p (bytes_of ps ++ r) × AllSpelled ps r

spelled_append : (ps qs : List WrittenPiece) (r : List ℕ) → AllSpelled ps (bytes_of qs ++ r) → AllSpelled qs r → AllSpelled (ps ++ qs) r
spelled_append [] qs r h k = k
spelled_append (p ∷ ps) qs r h k =
    (subst (Spelled p) (sym (ap (λ (l : List ℕ). l ++ r) (bytes_append ps qs) ∙ append_assoc (bytes_of ps) (bytes_of qs) r)) h.0, spelled_append ps qs r h.1 k)

pub cut_pieces : (n : ℕ) (ps : List WrittenPiece) (r : List ℕ) → AllSpelled ps r → Cut the_rules n (bytes_of ps ++ r) (place n ps) (skip n ps) r
cut_pieces n [] r h = none_more
cut_pieces n (p ∷ ps) r h =
    let w : List ℕ = p.mark ++ (p.word ++ p.mark) in
    let l : List ℕ = bytes_of ps ++ r in
    let size : length w ≡ length p.mark + (length p.word + length p.mark) = simp length-append in
    let e₁ : n + length p.gap + length w ≡ next n p = omega arith in
    let e₂ : n + length p.gap + length w - length p.mark ≡ (span_at n p).upto = omega arith in
    let e₃ : p.gap ++ (w ++ l) ≡ bytes_of (p ∷ ps) ++ r = simp append_assoc in
    subst₂ (λ (u : ℕ) (b : List ℕ). Cut the_rules n b (p.elem on record { from = n + length p.gap + length p.mark; upto = u } ∷ place (next n p) ps) (skip (next n p) ps) r) e₂ e₃
    (cut-next p.gap w (h.0.blanks (w ++ l)) h.0.spelled (subst (λ (i : ℕ). Cut the_rules i l (place (next n p) ps) (skip (next n p) ps) r) (sym e₁) (cut_pieces (next n p) ps r h.1)))

-- ---- gaps

gap_indent : (d : ℕ) (l : List ℕ) → Gap the_rules (indent d) l
unfolding indent
gap_indent zero l = no_gap
gap_indent (suc d) l = blank refl (blank refl (gap_indent d l))

gap_line : (q : Prior) (d : ℕ) (l : List ℕ) → Gap the_rules (new_line q d) l
gap_line start d l = gap_indent d l
gap_line heading d l = blank refl (blank refl (gap_indent d l))
gap_line member d l = blank refl (blank refl (gap_indent d l))
gap_line factor d l = blank refl (blank refl (gap_indent d l))

gap_space : (l : List ℕ) → Gap the_rules space l
gap_space l = blank refl no_gap

gap_before : (q : Prior) (l : List ℕ) → Gap the_rules (before q) l
gap_before start l = no_gap
gap_before heading l = gap_space l
gap_before member l = gap_space l
gap_before factor l = gap_space l

-- ---- signs and words

a_sign_spelled : (g : List ℕ) → ((l : List ℕ) → Gap the_rules g l) → (b : ℕ) (f : Fixed) (r : List ℕ) → sign_of the_rules b ≡ some f → Spelled (sign g (b ∷ []) f) r
a_sign_spelled g h b f r e = record { blanks = h; spelled = sign-spelled e }

is_spelled : (r : List ℕ) → Spelled is r
is_spelled r = a_sign_spelled space gap_space 61 equals r refl

some_word : (w r : List ℕ) (e : Elem) → All word_byte w → leb 1 (length w) ≡ true → in_word r ≡ false → Form the_rules (sets_off the_rules r) w e → Spells the_rules w e 0 r
some_word [] r e h l k f = absurd (false≢true l)
some_word (b ∷ w) r e h l k f = word (all_run h k) f

word_spelled : (g : List ℕ) → ((l : List ℕ) → Gap the_rules g l) → (w r : List ℕ) (e : Elem) → All word_byte w → leb 1 (length w) ≡ true → in_word r ≡ false → Form the_rules (sets_off the_rules r) w e →
    Spelled (plain g w e) r
word_spelled g h w r e a l k f =
    record { blanks = h; spelled = subst (λ (v : List ℕ). Spells the_rules v e 0 r) (sym (append-nil w)) (some_word w r e a l k f) }

begun_some : (w : List ℕ) → Begun w → leb 1 (length w) ≡ true
begun_some w (begun {s = s} h) = le-leb 1 (suc (length s)) (omega arith)

name_spelled : (g : List ℕ) → ((l : List ℕ) → Gap the_rules g l) → (w r : List ℕ) → Upper w → in_word r ≡ false → Spelled (called g w) r
name_spelled g h w r u k = word_spelled g h w r (name w) (name_bytes w u.0) (begun_some w (name_begun w u.0)) k (name_form (sets_off the_rules r) w u)

-- ---- quoted pieces

text_spelled : (g : List ℕ) → ((l : List ℕ) → Gap the_rules g l) → (w r : List ℕ) → is_text w ≡ true → Spelled (record { gap = g; mark = 34 ∷ []; word = w; elem = text }) r
unfolding is_text
text_spelled g h w r k = record { blanks = h; spelled = quoted_text (all_run (passes_all text_byte w k) refl) }

symbol_spelled : (g : List ℕ) → ((l : List ℕ) → Gap the_rules g l) → (w r : List ℕ) → Clean (a_symbol w) → in_word r ≡ false → (b : Bool) → is_name w ≡ b → Spelled (symbol_piece g w b) r
unfolding is_symbol
symbol_spelled g h w r c k true e = name_spelled g h w r (e, c.1) k
symbol_spelled g h w r c k false e =
    record { blanks = h; spelled = quoted_symbol (all_run (passes_all symbol_byte w (and_left (each symbol_byte w) (between 1 255 (length w)) c.0)) refl) (and_right (each symbol_byte w) (between 1 255 (length w)) c.0) }

-- ---- what a row's bytes begin with

-- after these no word byte may follow at once
abbrev Ends : Prior → Type 0
Ends start = ⊥
Ends heading = Unit {0}
Ends member = Unit {0}
Ends factor = Unit {0}

line_first : (q : Prior) → Ends q → (d : ℕ) (m w : List ℕ) (e : Elem) (ps : List WrittenPiece) (r : List ℕ) →
    in_word (bytes_of (closing q ++ (record { gap = new_line q d; mark = m; word = w; elem = e } ∷ ps)) ++ r) ≡ false
line_first start h d m w e ps r = absurd h
line_first heading h d m w e ps r = refl
line_first member h d m w e ps r = refl
line_first factor h d m w e ps r = refl

apart_first : (q : Prior) → Ends q → (m w : List ℕ) (e : Elem) (ps : List WrittenPiece) (r : List ℕ) →
    in_word (bytes_of (apart q ++ (record { gap = before q; mark = m; word = w; elem = e } ∷ ps)) ++ r) ≡ false
apart_first start h m w e ps r = absurd h
apart_first heading h m w e ps r = refl
apart_first member h m w e ps r = refl
apart_first factor h m w e ps r = refl

symbol_first : (q : Prior) → Ends q → (w : List ℕ) (b : Bool) (r : List ℕ) → in_word (bytes_of (apart q ++ (symbol_piece (before q) w b ∷ [])) ++ r) ≡ false
symbol_first q h w true r = apart_first q h [] w (name w) [] r
symbol_first q h w false r = apart_first q h (39 ∷ []) w symbol [] r

end_first : (q : Prior) → Ends q → (b : ℕ) (f : Fixed) (r : List ℕ) → word_byte b ≡ false → in_word (bytes_of (closing q ++ (sign [] (b ∷ []) f ∷ [])) ++ r) ≡ false
end_first start h b f r k = absurd h
end_first heading h b f r k = k
end_first member h b f r k = k
end_first factor h b f r k = refl

op_first : (op : Op) (ps : List WrittenPiece) (r : List ℕ) → in_word (bytes_of (op_piece op ∷ ps) ++ r) ≡ false
op_first first ps r = refl
op_first times ps r = refl
op_first divided ps r = refl

row_first : (q : Prior) → Ends q → (o : Opens) (x : Wording) (r : List ℕ) → in_word (bytes_of (pieces_of q o x) ++ r) ≡ false
row_first q h o (attribute w) r = line_first q h _ _ _ _ _ r
row_first q h o (pointer w) r = line_first q h _ _ _ _ _ r
row_first q h o (opened k w) r = line_first q h _ _ _ _ _ r
row_first q h o (closed k) r = line_first q h _ _ _ _ _ r
row_first q h o (an_integer w) r = apart_first q h _ _ _ _ r
row_first q h o (a_real x) r = apart_first q h _ _ _ _ r
row_first q h o (a_moment t) r = apart_first q h _ _ _ _ r
row_first q h o (a_text w) r = apart_first q h _ _ _ _ r
row_first q h o (a_symbol w) r = symbol_first q h w (is_name w) r
row_first q h o (a_unit op w v) r = op_first op (called [] w ∷ exponent_pieces v (is_one v)) r
row_first q h o sequence r = apart_first q h _ _ _ _ r
row_first q h o sequence_end r = end_first q h 41 rpar r refl
row_first q h o set r = apart_first q h _ _ _ _ r
row_first q h o set_end r = end_first q h 125 rbrace r refl
row_first q h o (last n) r = line_first q h _ _ _ _ _ r

abbrev tail_bytes : List ℕ
tail_bytes = 13 ∷ 10 ∷ []

split_bytes : (ps qs : List WrittenPiece) (r : List ℕ) → bytes_of (ps ++ qs) ++ r ≡ bytes_of ps ++ (bytes_of qs ++ r)
split_bytes ps qs r = ap (λ (l : List ℕ). l ++ r) (bytes_append ps qs) ∙ append_assoc (bytes_of ps) (bytes_of qs) r

rows_first : (q : Prior) → Ends q → (o : Opens) (rs : List Wording) → in_word (bytes_of (pieces q o rs) ++ tail_bytes) ≡ false
rows_first q h o [] = refl
rows_first q h o (r ∷ rs) = ap in_word (split_bytes (pieces_of q o r) (pieces (prior r) (after o r) rs) tail_bytes) ∙ row_first q h o r (bytes_of (pieces (prior r) (after o r) rs) ++ tail_bytes)

-- ---- each row's pieces are spelled

closing_spelled : (q : Prior) (ps : List WrittenPiece) (r : List ℕ) → AllSpelled ps r → AllSpelled (closing q ++ ps) r
closing_spelled start ps r h = h
closing_spelled heading ps r h = h
closing_spelled member ps r h = h
closing_spelled factor ps r h = (a_sign_spelled [] (λ l. no_gap) 62 greater _ refl, h)

apart_spelled : (q : Prior) (ps : List WrittenPiece) (r : List ℕ) → AllSpelled ps r → AllSpelled (apart q ++ ps) r
apart_spelled start ps r h = h
apart_spelled heading ps r h = h
apart_spelled member ps r h = (a_sign_spelled [] (λ l. no_gap) 44 comma _ refl, h)
apart_spelled factor ps r h = (a_sign_spelled [] (λ l. no_gap) 62 greater _ refl, (a_sign_spelled [] (λ l. no_gap) 44 comma _ refl, h))

repeat_spelled : (o : Opens) (r : List ℕ) → Uppers o → in_word r ≡ false → AllSpelled (repeat_pieces o) r
repeat_spelled outside r u h = tt
repeat_spelled (inside k n o) r u h = (is_spelled _, (name_spelled space gap_space n r u.0 h, tt))

repeat_first : (o : Opens) (r : List ℕ) → in_word r ≡ false → in_word (bytes_of (repeat_pieces o) ++ r) ≡ false
repeat_first outside r h = h
repeat_first (inside k n o) r h = refl

letters : (w : List ℕ) → each word_byte w ≡ true → All word_byte w
letters w h = passes_all word_byte w h

open_bytes : (k : Kind) → All word_byte (open_word k)
open_bytes object = letters (open_word object) refl
open_bytes group = letters (open_word group) refl

close_bytes : (k : Kind) → All word_byte (close_word k)
close_bytes object = letters (close_word object) refl
close_bytes group = letters (close_word group) refl

open_some : (k : Kind) → (leb 1 (length (open_word k)) ≡ true) × (leb 1 (length (close_word k)) ≡ true)
open_some object = (refl, refl)
open_some group = (refl, refl)

star_first : (w x l : List ℕ) → Begun w → front (λ b. eqb b 42) ((w ++ x) ++ l) ≡ false
star_first w x l (begun {b} h) = ne_eqb b 42 (λ e. omega arith)

op_spelled : (op : Op) (w : List ℕ) (ps : List WrittenPiece) (r : List ℕ) → Begun w → Spelled (op_piece op) (bytes_of (called [] w ∷ ps) ++ r)
op_spelled first w ps r h = a_sign_spelled space gap_space 60 less _ refl
op_spelled times w ps r h = record { blanks = λ l. no_gap; spelled = one_star (star_first w (bytes_of ps) r h) }
op_spelled divided w ps r h = record { blanks = λ l. no_gap; spelled = one_slash (star_first w (bytes_of ps) r h) }

power_first : (v : Whole) (b : Bool) (r : List ℕ) → in_word r ≡ false → in_word (bytes_of (exponent_pieces v b) ++ r) ≡ false
power_first v true r h = h
power_first v false r h = refl

power_spelled : (v : Whole) (b : Bool) (r : List ℕ) → Within 100 v → in_word r ≡ false → AllSpelled (exponent_pieces v b) r
power_spelled v true r h k = tt
power_spelled v false r h k =
    let d = decimal_wordy v (omega (arith, h.below)) in
    let p : Spelled (sign [] (42 ∷ 42 ∷ []) power) (bytes_of (plain [] (decimal v) (integer v) ∷ []) ++ r) = record { blanks = λ l. no_gap; spelled = two_stars } in
    (p, (word_spelled [] (λ l. no_gap) (decimal v) r (integer v) d.letters d.some k (integer_form _ v (record { below = omega (arith, h.below); zero_plain = h.zero_plain })), tt))

-- END is set off
abbrev SetOff : Wording → List ℕ → Type 0
SetOff (attribute w) r = Unit {0}
SetOff (pointer w) r = Unit {0}
SetOff (opened k w) r = Unit {0}
SetOff (closed k) r = Unit {0}
SetOff (an_integer w) r = Unit {0}
SetOff (a_real x) r = Unit {0}
SetOff (a_moment t) r = Unit {0}
SetOff (a_text w) r = Unit {0}
SetOff (a_symbol w) r = Unit {0}
SetOff (a_unit op w v) r = Unit {0}
SetOff sequence r = Unit {0}
SetOff sequence_end r = Unit {0}
SetOff set r = Unit {0}
SetOff set_end r = Unit {0}
SetOff (last n) r = sets_off the_rules r ≡ true

row_spelled : (q : Prior) (o : Opens) (x : Wording) (r : List ℕ) → Clean x → Valued x → Uppers o → (Ends (prior x) → in_word r ≡ false) → SetOff x r → AllSpelled (pieces_of q o x) r
row_spelled q o (attribute w) r c v u h z =
    closing_spelled q _ r (name_spelled (new_line q (depth o)) (gap_line q (depth o)) w _ c refl, (is_spelled _, tt))
row_spelled q o (pointer w) r c v u h z =
    closing_spelled q _ r (a_sign_spelled (new_line q (depth o)) (gap_line q (depth o)) 94 caret _ refl, (name_spelled [] (λ l. no_gap) w _ c refl, (is_spelled _, tt)))
row_spelled q o (opened k w) r c v u h z =
    closing_spelled q _ r (
      word_spelled (new_line q (depth o)) (gap_line q (depth o)) (open_word k) _ (the (opener k)) (open_bytes k) (open_some k).0 refl (open_form _ k),
      (is_spelled _, (name_spelled space gap_space w r c (h tt), tt)),
    )
row_spelled q o (closed k) r c v u h z =
    closing_spelled q _ r (
      word_spelled (new_line q (depth (around o))) (gap_line q (depth (around o))) (close_word k) _ (the (closer k)) (close_bytes k) (open_some k).1 (repeat_first o r (h tt)) (close_form _ k),
      repeat_spelled o r u (h tt),
    )
row_spelled q o (an_integer w) r c v u h z =
    let d = decimal_wordy w (omega (arith, v.below)) in
    apart_spelled q _ r (word_spelled (before q) (gap_before q) (decimal w) r (integer w) d.letters d.some (h tt) (integer_form _ w v), tt)
row_spelled q o (a_real x) r c v u h z =
    let d = real_wordy x v in
    apart_spelled q _ r (word_spelled (before q) (gap_before q) (real_bytes x) r (real x) d.letters d.some (h tt) (real_form _ x v), tt)
row_spelled q o (a_moment t) r c v u h z =
    let d = given_wordy t in
    apart_spelled q _ r (word_spelled (before q) (gap_before q) (given_bytes t) r (moment t) d.letters d.some (h tt) (given_form _ t v), tt)
row_spelled q o (a_text w) r c v u h z = apart_spelled q _ r (text_spelled (before q) (gap_before q) w r c.0, tt)
row_spelled q o (a_symbol w) r c v u h z = apart_spelled q _ r (symbol_spelled (before q) (gap_before q) w r c (h tt) (is_name w) refl, tt)
row_spelled q o (a_unit op w e) r c v u h z =
    (op_spelled op w (exponent_pieces e (is_one e)) r (name_begun w c.0), (name_spelled [] (λ l. no_gap) w _ c (power_first e (is_one e) r (h tt)), power_spelled e (is_one e) r v (h tt)))
row_spelled q o sequence r c v u h z = apart_spelled q _ r (a_sign_spelled (before q) (gap_before q) 40 lpar r refl, tt)
row_spelled q o sequence_end r c v u h z = closing_spelled q _ r (a_sign_spelled [] (λ l. no_gap) 41 rpar r refl, tt)
row_spelled q o set r c v u h z = apart_spelled q _ r (a_sign_spelled (before q) (gap_before q) 123 lbrace r refl, tt)
row_spelled q o set_end r c v u h z = closing_spelled q _ r (a_sign_spelled [] (λ l. no_gap) 125 rbrace r refl, tt)
row_spelled q o (last n) r c v u h z =
    closing_spelled q _ r (word_spelled (new_line q (depth o)) (gap_line q (depth o)) (ascii "END") r (end true) (letters (ascii "END") refl) refl (h tt) (subst (λ (b : Bool). Form the_rules b (ascii "END") (end true)) (sym z) end_form), tt)

-- ---- nothing follows the last row

last_step : (t : Await) (o : Kinds) → (sort_step t o s_last ≡ to_none) ⊎ (sort_step t o s_last ≡ to t_end [])
last_step t_statement [] = inr refl
last_step t_statement (k ∷ o) = inl refl
last_step t_value o = inl refl
last_step t_first o = inl refl
last_step t_set_first o = inl refl
last_step t_in_row o = inl refl
last_step t_row o = inl refl
last_step t_end o = inl refl
last_step (t_number alone) [] = inr refl
last_step (t_number alone) (k ∷ o) = inl refl
last_step (t_number (within in_sequence)) o = inl refl
last_step (t_number (within in_row)) o = inl refl
last_step (t_number (within in_set)) o = inl refl
last_step (t_units alone) [] = inr refl
last_step (t_units alone) (k ∷ o) = inl refl
last_step (t_units (within in_sequence)) o = inl refl
last_step (t_units (within in_row)) o = inl refl
last_step (t_units (within in_set)) o = inl refl
last_step (t_member in_sequence) o = inl refl
last_step (t_member in_row) o = inl refl
last_step (t_member in_set) o = inl refl

ended_here : {o : Kinds} {rs : List Wording} (t : Await) → t ≡ t_end → RowRun t o rs t_end [] → rs ≡ []
ended_here t e row_here = refl
ended_here {o} t e (row_by {r = r} f a) = absurd (none_to (ap (λ (s : Await). sort_step s o (sort r)) (sym e) ∙ f))

last_alone : (t : Await) (o : Kinds) {t' : Await} {o' : Kinds} {rs : List Wording} → sort_step t o s_last ≡ to t' o' → RowRun t' o' rs t_end [] → rs ≡ []
last_alone t o {t'} {o'} {rs} e a = go (last_step t o)
  where
    go : (sort_step t o s_last ≡ to_none) ⊎ (sort_step t o s_last ≡ to t_end []) → rs ≡ []
    go (inl f) = absurd (none_to (sym f ∙ e))
    go (inr f) = ended_here t' (to_same (sym e ∙ f)).0 a

set_off : (t : Await) (k : Kinds) (o : Opens) (x : Wording) (rs : List Wording) {t' : Await} {k' : Kinds} → sort_step t k (sort x) ≡ to t' k' → RowRun t' k' rs t_end [] →
    SetOff x (bytes_of (pieces (prior x) (after o x) rs) ++ tail_bytes)
set_off t k o (attribute w) rs e a = tt
set_off t k o (pointer w) rs e a = tt
set_off t j o (opened k w) rs e a = tt
set_off t j o (closed k) rs e a = tt
set_off t k o (an_integer w) rs e a = tt
set_off t k o (a_real x) rs e a = tt
set_off s k o (a_moment t) rs e a = tt
set_off t k o (a_text w) rs e a = tt
set_off t k o (a_symbol w) rs e a = tt
set_off t k o (a_unit op w v) rs e a = tt
set_off t k o sequence rs e a = tt
set_off t k o sequence_end rs e a = tt
set_off t k o set rs e a = tt
set_off t k o set_end rs e a = tt
set_off t k o (last n) rs e a =
    subst (λ (l : List Wording). sets_off the_rules (bytes_of (pieces heading o l) ++ tail_bytes) ≡ true) (sym (last_alone t k e a)) refl

rows_spelled : {t : Await} {k : Kinds} (q : Prior) (o : Opens) (rs : List Wording) → Each Clean rs → Each Valued rs → Uppers o → RowRun t k rs t_end [] → AllSpelled (pieces q o rs) tail_bytes
rows_spelled q o rs Each.none Each.none u row_here = tt
rows_spelled q o rs (Each.one {a = r} {s = rs'} c cs) (Each.one v vs) u (row_by {t = t} {o = k} e a) =
    let l = bytes_of (pieces (prior r) (after o r) rs') ++ tail_bytes in
    spelled_append (pieces_of q o r) (pieces (prior r) (after o r) rs') tail_bytes
    (row_spelled q o r l c v u (λ d. rows_first (prior r) d (after o r) rs') (set_off t k o r rs' e a))
    (rows_spelled (prior r) (after o r) rs' cs vs (uppers_after o r u c) a)

-- the label of accepted rows is cut into exactly its elements
pub written_cut : (m : List Wording) → Each Clean m → Each Valued m → RowRun t_statement [] m t_end [] →
    Cut the_rules 0 (given_label m) (place 0 (written_pieces m)) (skip 0 (written_pieces m)) tail_bytes
written_cut m c v a = cut_pieces 0 (written_pieces m) tail_bytes (rows_spelled start outside m c v tt a)
