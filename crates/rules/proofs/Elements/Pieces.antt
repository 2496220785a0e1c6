-- What a word is, and the piece at the front of the bytes (a blank, a comment, an element, a fault, or the end), are as the rules say, both ways.
use Prim.Native.Nat.{ℕ, suc}
use native.Mathlib.Omega.{arith}
use mathlib.Core.Bool.{Bool, true, false, cond, false≢true, true≢false}
use mathlib.Core.Option.{Option, none, some}
use mathlib.Core.Path.{◌≡◌, refl, sym, ap, subst, ◌∙◌}
use mathlib.Core.List.{List, [], ◌∷◌, ◌++◌, append_assoc}
use borrow.Author.Tests.{le-leb}
use lib.Dec.{leb, eqb}
use lib.ListN.{length}
use Rattle.rules.specs.Bytes.{between, line_end, word_byte, front, pair, Run, stops, goes_on}
use Rattle.rules.specs.Data.{star, slash, power, Elem, the, text, symbol}
use Rattle.rules.specs.Modes.{Mode}
use Rattle.rules.specs.Values.{Written, value}
use Rattle.rules.specs.Words.{Shape, Form, Past, Formless}
use Rattle.rules.specs.Elements.{is_blank, in_comment, in_line, Comment, comment, in_text, in_symbol, in_word, sets_off, Spells, word, sign, one_star, two_stars, one_slash, quoted_text, quoted_symbol, Breaks, open_at_end, open_at, foreign, never, Fault, no_element, no_form, past_limit, broken_text, broken_symbol, broken_comment, empty_symbol, long_symbol}
use Rattle.rules.proofs.Machine.Splits.{Split, split_run, behind_first}
use Rattle.rules.proofs.Options.{none_some}
use Rattle.rules.proofs.Words.Runs.{run_split, SplitAt, split_at, split_is, front_is, both, pair_is}
use Rattle.rules.proofs.Machine.Words.{shape}
use Rattle.rules.proofs.Words.Shapes.{shape_sound, shape_complete}
use Rattle.rules.proofs.Machine.Elements.{Begin, a_word, a_blank, a_star, a_slash, a_quote, an_apostrophe, no_start, a_sign, begin}
use Rattle.rules.proofs.Elements.Begin.{BeginsWith, starts, blank_begins, sign_begins, nothing_begins}
use Rattle.rules.proofs.Machine.Words.{WordVerdict, is, over, formless, limited, shaped, classify, Classified}
use Rattle.rules.proofs.Machine.Elements.{Piece, a_gap, an_element, a_fault, the_end, verdict_piece, word_piece, star_piece, broken_code, text_piece, sized, symbol_piece, ignored, comment_piece, slash_piece, piece_of, piece}

-- ---- a word: its element, past its limit, or of no form

pub classified : (m : Mode) (off : Bool) (w : List ℕ) → Classified m off w (classify m off w)
classified m off w = go (shape m w) refl
  where
    valued : (v : Written) → Shape m w v → (x : Option Elem) → value m off v ≡ x → Classified m off w (limited x)
    valued v s none e = (v, s, e)
    valued v s (some x) e = (v, s, e)

    go : (x : Option Written) → shape m w ≡ x → Classified m off w (shaped m off x)
    go none e = λ v s. none_some (sym e ∙ shape_complete s)
    go (some v) e = valued v (shape_sound m w v e) (value m off v) refl

pub form_once : {m : Mode} {off : Bool} {w : List ℕ} {e : Elem} → Form m off w e → classify m off w ≡ is e
form_once {m} {off} f = ap (shaped m off) (shape_complete f.1) ∙ ap limited f.2

pub past_once : {m : Mode} {off : Bool} {w : List ℕ} → Past m off w → classify m off w ≡ over
past_once {m} {off} f = ap (shaped m off) (shape_complete f.1) ∙ ap limited f.2

pub formless_once : {m : Mode} (off : Bool) {w : List ℕ} → Formless m w → classify m off w ≡ formless
formless_once {m} off {w} n = go (shape m w) refl
  where
    go : (x : Option Written) → shape m w ≡ x → shaped m off (shape m w) ≡ formless
    go none e = ap (shaped m off) e
    go (some v) e = absurd (n v (shape_sound m w v e))

-- ---- the piece in the rules' terms

pub data PieceIs (m : Mode) : List ℕ → Piece → Type 0 where
  is_a_blank : {b : ℕ} {r : List ℕ} → is_blank b ≡ true → PieceIs m (b ∷ r) (a_gap (b ∷ []) r)
  is_comment : {c r : List ℕ} → Comment c r → PieceIs m (c ++ r) (a_gap c r)
  is_element : {w r : List ℕ} {e : Elem} {q : ℕ} → Spells m w e q r → PieceIs m (w ++ r) (an_element e q w r)
  is_fault : {l : List ℕ} {c : ℕ} → Fault m l c → PieceIs m l (a_fault c)
  is_the_end : PieceIs m [] the_end

-- ---- sound

breaks : (c : ℕ → Bool) (r : List ℕ) → Breaks c r (broken_code c r)
breaks c [] = open_at_end
breaks c (b ∷ r) = go (c b) refl
  where
    go : (t : Bool) → c b ≡ t → Breaks c (b ∷ r) (cond t 3 2)
    go true h = open_at h
    go false h = foreign h

-- one byte at least
pub sized_kept : (n : ℕ) → leb (suc n) 255 ≡ true → between 1 255 (suc n) ≡ true
sized_kept n h = rw (le-leb 1 (suc n) (omega arith), h)

sized_least : (n : ℕ) → between 1 255 (suc n) ≡ true → leb (suc n) 255 ≡ true
sized_least n h = (both (leb 1 (suc n)) (leb (suc n) 255) h).1

sized_some : (t r : List ℕ) → between 1 255 (length t) ≡ true → sized t r ≡ an_element symbol 1 (39 ∷ (t ++ 39 ∷ [])) r
sized_some [] r h = absurd (false≢true h)
sized_some (b ∷ t) r h = rw (sized_least (length t) h)

sized_long : (t r : List ℕ) → leb (length t) 255 ≡ false → sized t r ≡ a_fault 5
sized_long [] r h = absurd (true≢false h)
sized_long (b ∷ t) r h = rw h

module _ (m : Mode) where
  judged_is : {b : ℕ} {w r : List ℕ} → Run in_word (b ∷ w) r → (v : WordVerdict) → Classified m (sets_off m r) (b ∷ w) v →
      PieceIs m (b ∷ (w ++ r)) (verdict_piece v (b ∷ w) r)
  judged_is t (is e) f = is_element (word t f)
  judged_is t over f = is_fault (past_limit t f)
  judged_is t formless f = is_fault (no_form t f)

  word_sound : {l : List ℕ} {s : Split} → front word_byte l ≡ true → SplitAt in_word l s → PieceIs m l (word_piece m s)
  word_sound h (split_at (stops z)) = absurd (true≢false (sym h ∙ z))
  word_sound h (split_at (goes_on {b} {a = w} {r} x t)) = judged_is (goes_on x t) (classify m (sets_off m r) (b ∷ w)) (classified m (sets_off m r) (b ∷ w))

  star_sound : (l : List ℕ) → PieceIs m (42 ∷ l) (star_piece l)
  star_sound l = go (front (λ b. eqb b 42) l) refl
    where
      go : (t : Bool) → front (λ b. eqb b 42) l ≡ t →
          PieceIs m (42 ∷ l) (cond t (an_element (the power) 0 (42 ∷ 42 ∷ []) (behind_first l)) (an_element (the star) 0 (42 ∷ []) l))
      go true h = subst (λ (k : List ℕ). PieceIs m (42 ∷ k) (an_element (the power) 0 (42 ∷ 42 ∷ []) (behind_first l))) (sym (front_is 42 l h)) (is_element two_stars)
      go false h = is_element (one_star h)

  text_sound : {l : List ℕ} {s : Split} → SplitAt in_text l s → PieceIs m (34 ∷ l) (text_piece s)
  text_sound (split_at {a} {r} t) = go r t (front (λ b. eqb b 34) r) refl
    where
      closed : (r k : List ℕ) → r ≡ 34 ∷ k → Run in_text a r → PieceIs m (34 ∷ (a ++ r)) (an_element text 1 (34 ∷ (a ++ 34 ∷ [])) k)
      closed r k e t =
          let x : Spells m (34 ∷ (a ++ 34 ∷ [])) text 1 k = quoted_text (rw e at t) in
          rw e (simp append_assoc at (is_element x))

      go : (r : List ℕ) → Run in_text a r → (t : Bool) → front (λ b. eqb b 34) r ≡ t →
          PieceIs m (34 ∷ (a ++ r)) (cond t (an_element text 1 (34 ∷ (a ++ 34 ∷ [])) (behind_first r)) (a_fault (broken_code never r)))
      go r t true h = closed r (behind_first r) (front_is 34 r h) t
      go r t false h = is_fault (broken_text t h (breaks never r))

  sized_sound : (t : List ℕ) {r : List ℕ} → Run in_symbol t (39 ∷ r) → PieceIs m (39 ∷ (t ++ 39 ∷ r)) (sized t r)
  sized_sound [] x = is_fault empty_symbol
  sized_sound (b ∷ t) {r} x = go (leb (length (b ∷ t)) 255) refl
    where
      go : (k : Bool) → leb (length (b ∷ t)) 255 ≡ k →
          PieceIs m (39 ∷ ((b ∷ t) ++ 39 ∷ r)) (cond k (an_element symbol 1 (39 ∷ ((b ∷ t) ++ 39 ∷ [])) r) (a_fault 5))
      go true h =
          let y : Spells m (39 ∷ ((b ∷ t) ++ 39 ∷ [])) symbol 1 r = quoted_symbol x (sized_kept (length t) h) in
          simp append_assoc at (is_element y)
      go false h = is_fault (long_symbol x h)

  symbol_sound : {l : List ℕ} {s : Split} → SplitAt in_symbol l s → PieceIs m (39 ∷ l) (symbol_piece s)
  symbol_sound (split_at {a} {r} t) = go r t (front (λ b. eqb b 39) r) refl
    where
      closed : (r k : List ℕ) → r ≡ 39 ∷ k → Run in_symbol a r → PieceIs m (39 ∷ (a ++ r)) (sized a k)
      closed r k e t = rw e (sized_sound a (rw e at t))

      go : (r : List ℕ) → Run in_symbol a r → (t : Bool) → front (λ b. eqb b 39) r ≡ t →
          PieceIs m (39 ∷ (a ++ r)) (cond t (sized a (behind_first r)) (a_fault (broken_code line_end r)))
      go r t true h = closed r (behind_first r) (front_is 39 r h) t
      go r t false h = is_fault (broken_symbol t h (breaks line_end r))

  ignored_sound : {c k : List ℕ} {s : Split} → Run in_comment c (42 ∷ 47 ∷ k) → SplitAt in_line k s → PieceIs m (47 ∷ 42 ∷ (c ++ 42 ∷ 47 ∷ k)) (ignored c s)
  ignored_sound {c} t (split_at {a} {r} u) =
      let x : PieceIs m ((47 ∷ 42 ∷ (c ++ 42 ∷ 47 ∷ a)) ++ r) (a_gap (47 ∷ 42 ∷ (c ++ 42 ∷ 47 ∷ a)) r) = is_comment (comment t u) in
      simp append_assoc at x

  comment_sound : {l : List ℕ} {s : Split} → SplitAt in_comment l s → PieceIs m (47 ∷ 42 ∷ l) (comment_piece s)
  comment_sound (split_at {a} {r} t) = go r t (pair 42 47 r) refl
    where
      closed : (r k : List ℕ) → r ≡ 42 ∷ 47 ∷ k → Run in_comment a r → PieceIs m (47 ∷ 42 ∷ (a ++ r)) (ignored a (split_run in_line k))
      closed r k e t = rw e (ignored_sound (rw e at t) (split_is in_line refl k))

      go : (r : List ℕ) → Run in_comment a r → (t : Bool) → pair 42 47 r ≡ t →
          PieceIs m (47 ∷ 42 ∷ (a ++ r)) (cond t (ignored a (split_run in_line (behind_first (behind_first r)))) (a_fault (broken_code line_end r)))
      go r t true h = closed r (behind_first (behind_first r)) (pair_is 42 47 r h) t
      go r t false h = is_fault (broken_comment t h (breaks line_end r))

  slash_sound : (l : List ℕ) → PieceIs m (47 ∷ l) (slash_piece l)
  slash_sound l = go (front (λ b. eqb b 42) l) refl
    where
      opened : (k j : List ℕ) → k ≡ 42 ∷ j → PieceIs m (47 ∷ k) (comment_piece (split_run in_comment j))
      opened k j e = rw e (comment_sound (split_is in_comment refl j))

      go : (t : Bool) → front (λ b. eqb b 42) l ≡ t →
          PieceIs m (47 ∷ l) (cond t (comment_piece (split_run in_comment (behind_first l))) (an_element (the slash) 0 (47 ∷ []) l))
      go true h = opened l (behind_first l) (front_is 42 l h)
      go false h = is_element (one_slash h)

  piece_of_sound : (b : ℕ) (l : List ℕ) (x : Begin) → BeginsWith m x b → PieceIs m (b ∷ l) (piece_of m x b l)
  piece_of_sound b l a_word h = word_sound h (split_is in_word refl (b ∷ l))
  piece_of_sound b l a_blank h = is_a_blank h
  piece_of_sound b l a_star h = rw h (star_sound l)
  piece_of_sound b l a_slash h = rw h (slash_sound l)
  piece_of_sound b l a_quote h = rw h (text_sound (split_is in_text refl l))
  piece_of_sound b l an_apostrophe h = rw h (symbol_sound (split_is in_symbol refl l))
  piece_of_sound b l no_start h = is_fault (no_element h.0 h.1 h.2 h.3)
  piece_of_sound b l (a_sign f) h = is_element (sign h)

  pub piece_sound : (l : List ℕ) → PieceIs m l (piece m l)
  piece_sound [] = is_the_end
  piece_sound (b ∷ l) = piece_of_sound b l (begin m b) (starts m b)

  -- ---- complete

  broken_is : {c : ℕ → Bool} {r : List ℕ} {k : ℕ} → Breaks c r k → broken_code c r ≡ k
  broken_is open_at_end = refl
  broken_is (open_at h) = rw h
  broken_is (foreign h) = rw h

  pub begin_word : {b : ℕ} {w r : List ℕ} → Run in_word (b ∷ w) r → begin m b ≡ a_word
  begin_word (goes_on h t) = rw h

  word_complete : {b : ℕ} {w r : List ℕ} → Run in_word (b ∷ w) r → piece m (b ∷ (w ++ r)) ≡ word_piece m (b ∷ w, r)
  word_complete {b} {w} {r} t = ap (λ (x : Begin). piece_of m x b (w ++ r)) (begin_word t) ∙ ap (word_piece m) (run_split t)

  element_complete : {w r : List ℕ} {e : Elem} {q : ℕ} → Spells m w e q r → piece m (w ++ r) ≡ an_element e q w r
  element_complete (word {b} {w} {r} t f) = word_complete t ∙ ap (λ (v : WordVerdict). verdict_piece v (b ∷ w) r) (form_once f)
  element_complete (sign {b} {r = r} h) = ap (λ (x : Begin). piece_of m x b r) (sign_begins m b h)
  element_complete (one_star h) = rw h
  element_complete two_stars = refl
  element_complete (one_slash h) = rw h
  element_complete (quoted_text {t} {r} h) = simp append_assoc (ap text_piece (run_split h))
  element_complete (quoted_symbol {t} {r} h k) = simp append_assoc (ap symbol_piece (run_split h) ∙ sized_some t r k)

  comment_complete : {c r : List ℕ} → Comment c r → piece m (c ++ r) ≡ a_gap c r
  comment_complete (comment {c} {i} {r} t u) = simp append_assoc (ap comment_piece (run_split t) ∙ ap (ignored c) (run_split u))

  fault_complete : {l : List ℕ} {c : ℕ} → Fault m l c → piece m l ≡ a_fault c
  fault_complete (no_element {b} {r} f g h k) = ap (λ (x : Begin). piece_of m x b r) (nothing_begins m b (f, g, h, k))
  fault_complete (no_form {b} {w} {r} t f) = word_complete t ∙ ap (λ (v : WordVerdict). verdict_piece v (b ∷ w) r) (formless_once (sets_off m r) f)
  fault_complete (past_limit {b} {w} {r} t f) = word_complete t ∙ ap (λ (v : WordVerdict). verdict_piece v (b ∷ w) r) (past_once f)
  fault_complete (broken_text {t} {r} u h k) = ap text_piece (run_split u) ∙ rw h (ap a_fault (broken_is k))
  fault_complete (broken_symbol {t} {r} u h k) = ap symbol_piece (run_split u) ∙ rw h (ap a_fault (broken_is k))
  fault_complete (broken_comment {t} {r} u h k) = ap comment_piece (run_split u) ∙ rw h (ap a_fault (broken_is k))
  fault_complete empty_symbol = refl
  fault_complete (long_symbol {t} {r} u h) = ap symbol_piece (run_split u) ∙ sized_long t r h

  pub piece_complete : {l : List ℕ} {p : Piece} → PieceIs m l p → piece m l ≡ p
  piece_complete (is_a_blank {b} {r} h) = ap (λ (x : Begin). piece_of m x b r) (blank_begins m b h)
  piece_complete (is_comment c) = comment_complete c
  piece_complete (is_element s) = element_complete s
  piece_complete (is_fault f) = fault_complete f
  piece_complete is_the_end = refl
