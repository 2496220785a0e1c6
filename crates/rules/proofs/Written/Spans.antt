-- The spans of a written label's rows hold the bytes that were written: the table that is read back has the same words and marks.
use Prim.Native.Nat.{ℕ, ◌+◌, ◌-◌}
use mathlib.Core.Path.{◌≡◌, refl, sym, ap, ap₂, ◌∙◌, subst}
use mathlib.Core.Bool.{Bool, true, false}
use mathlib.Core.List.{List, [], ◌∷◌, ◌++◌, append_assoc}
use lib.ListN.{length, length-append}
use native.Mathlib.Omega.{arith}
use lib.Seq.{take_at, drop_at}
use Rattle.rules.specs.Proper.{Each, none, one, stretch}
use Rattle.rules.specs.Written.{is_name, is_one, Prior, start, heading, member, factor, prior, after}
use Rattle.rules.specs.Data.{Op, first, times, divided, Opens, outside, attribute, pointer, opened, closed, an_integer, a_real, a_moment, a_text, a_symbol, a_unit, sequence, sequence_end, set, set_end, last}
use Rattle.rules.specs.Meaning.{fold_all, reassemble}
use Rattle.rules.proofs.Written.Marks.{Wording, wording, wordings}
use Rattle.rules.proofs.Written.Pieces.{bytes_append, WrittenPiece, called, symbol_piece, exponent_pieces, op_piece, closing, apart, before, pieces_of, pieces, bytes_of, given_label}
use Rattle.rules.proofs.Written.Place.{span_at, next, skip, has_span, span_in, spanned, laid}
use Rattle.rules.proofs.Written.Clean.{Clean}

-- ---- places in bytes

-- from `n` on, `whole` is `rest`
pub record At (whole : List ℕ) (n : ℕ) (rest : List ℕ) : Type 0 where
  pub front : List ℕ
  pub split : whole ≡ front ++ rest
  pub size : length front ≡ n

pub at_start : (whole : List ℕ) → At whole 0 whole
at_start whole = record { front = []; split = refl; size = refl }

pub at_past : (whole : List ℕ) (n : ℕ) (g rest : List ℕ) → At whole n (g ++ rest) → At whole (n + length g) rest
at_past whole n g rest a = record {
  front = a.front ++ g;
  split = a.split ∙ sym (append_assoc a.front g rest);
  size = length-append a.front g ∙ ap (λ (i : ℕ). i + length g) a.size;
}

-- the bytes of a span
pub at_word : (whole : List ℕ) (n : ℕ) (w rest : List ℕ) → At whole n (w ++ rest) → stretch whole (record { from = n; upto = n + length w }) ≡ w
at_word whole n w rest a =
    let e : n + length w - n ≡ length w = omega arith in
    rw (a.split, drop_at a.front (w ++ rest) n a.size, e) (take_at w rest (length w) refl)

module _ (whole : List ℕ) (post : List ℕ) where
  abbrev pub Here : ℕ → List WrittenPiece → Type 0
  Here n ps = At whole n (bytes_of ps ++ post)

  piece_open : (n : ℕ) (p : WrittenPiece) (ps : List WrittenPiece) → Here n (p ∷ ps) → At whole n (p.gap ++ (p.mark ++ (p.word ++ (p.mark ++ (bytes_of ps ++ post)))))
  piece_open n p ps h = simp append_assoc at h

  pub here_next : (n : ℕ) (p : WrittenPiece) (ps : List WrittenPiece) → Here n (p ∷ ps) → Here (next n p) ps
  here_next n p ps h =
      at_past whole _ p.mark _ (at_past whole _ p.word _ (at_past whole _ p.mark _ (at_past whole n p.gap _ (piece_open n p ps h))))

  pub here_word : (n : ℕ) (p : WrittenPiece) (ps : List WrittenPiece) → Here n (p ∷ ps) → stretch whole (span_at n p) ≡ p.word
  here_word n p ps h = at_word whole _ p.word _ (at_past whole _ p.mark _ (at_past whole n p.gap _ (piece_open n p ps h)))

  pub here_skip : (n : ℕ) (ps qs : List WrittenPiece) → Here n (ps ++ qs) → Here (skip n ps) qs
  here_skip n [] qs h = h
  here_skip n (p ∷ ps) qs h = here_skip (next n p) ps qs (here_next n p (ps ++ qs) h)

-- ---- the first span, past what closes the row before

span_closing : (n : ℕ) (q : Prior) (ps : List WrittenPiece) → span_in n (closing q ++ ps) ≡ span_in (skip n (closing q)) ps
span_closing n start ps = refl
span_closing n heading ps = refl
span_closing n member ps = refl
span_closing n factor ps = refl

span_apart : (n : ℕ) (q : Prior) (ps : List WrittenPiece) → span_in n (apart q ++ ps) ≡ span_in (skip n (apart q)) ps
span_apart n start ps = refl
span_apart n heading ps = refl
span_apart n member ps = refl
span_apart n factor ps = refl

module _ (whole : List ℕ) (post : List ℕ) where
  -- a name, first or after other elements
  closed_word : (n : ℕ) (q : Prior) (p : WrittenPiece) (ps : List WrittenPiece) → has_span p.elem ≡ true → Here whole post n (closing q ++ (p ∷ ps)) → stretch whole (span_in n (closing q ++ (p ∷ ps))) ≡ p.word
  closed_word n q p ps e h = rw (span_closing n q (p ∷ ps), e) (here_word whole post _ p ps (here_skip whole post n (closing q) (p ∷ ps) h))

  closed_second : (n : ℕ) (q : Prior) (p p' : WrittenPiece) (ps : List WrittenPiece) → has_span p.elem ≡ false → has_span p'.elem ≡ true → Here whole post n (closing q ++ (p ∷ p' ∷ ps)) →
      stretch whole (span_in n (closing q ++ (p ∷ p' ∷ ps))) ≡ p'.word
  closed_second n q p p' ps e e' h =
      rw (span_closing n q (p ∷ p' ∷ ps), e, e') (here_word whole post _ p' ps (here_next whole post _ p (p' ∷ ps) (here_skip whole post n (closing q) (p ∷ p' ∷ ps) h)))

  closed_third : (n : ℕ) (q : Prior) (p p' p'' : WrittenPiece) (ps : List WrittenPiece) → has_span p.elem ≡ false → has_span p'.elem ≡ false → has_span p''.elem ≡ true → Here whole post n (closing q ++ (p ∷ p' ∷ p'' ∷ ps)) →
      stretch whole (span_in n (closing q ++ (p ∷ p' ∷ p'' ∷ ps))) ≡ p''.word
  closed_third n q p p' p'' ps e e' e'' h =
      rw (span_closing n q (p ∷ p' ∷ p'' ∷ ps), e, e', e'')
      (here_word whole post _ p'' ps (here_next whole post _ p' (p'' ∷ ps) (here_next whole post _ p (p' ∷ p'' ∷ ps) (here_skip whole post n (closing q) (p ∷ p' ∷ p'' ∷ ps) h))))

  apart_word : (n : ℕ) (q : Prior) (p : WrittenPiece) → has_span p.elem ≡ true → Here whole post n (apart q ++ (p ∷ [])) → stretch whole (span_in n (apart q ++ (p ∷ []))) ≡ p.word
  apart_word n q p e h = rw (span_apart n q (p ∷ []), e) (here_word whole post _ p [] (here_skip whole post n (apart q) (p ∷ []) h))

  symbol_word : (n : ℕ) (q : Prior) (g w : List ℕ) (b : Bool) → Here whole post n (apart q ++ (symbol_piece g w b ∷ [])) → stretch whole (span_in n (apart q ++ (symbol_piece g w b ∷ []))) ≡ w
  symbol_word n q g w true h = apart_word n q (symbol_piece g w true) refl h
  symbol_word n q g w false h = apart_word n q (symbol_piece g w false) refl h

  unit_word : (n : ℕ) (op : Op) (w : List ℕ) (ps : List WrittenPiece) → Here whole post n (op_piece op ∷ called [] w ∷ ps) → stretch whole (span_in n (op_piece op ∷ called [] w ∷ ps)) ≡ w
  unit_word n first w ps h = here_word whole post _ (called [] w) ps (here_next whole post n (op_piece first) (called [] w ∷ ps) h)
  unit_word n times w ps h = here_word whole post _ (called [] w) ps (here_next whole post n (op_piece times) (called [] w ∷ ps) h)
  unit_word n divided w ps h = here_word whole post _ (called [] w) ps (here_next whole post n (op_piece divided) (called [] w ∷ ps) h)

  wording_back : (n : ℕ) (q : Prior) (o : Opens) (r : Wording) → Clean r → Here whole post n (pieces_of q o r) → wording whole (spanned (span_in n (pieces_of q o r)) r) ≡ r
  wording_back n q o (attribute w) c h = ap attribute (ap fold_all (closed_word n q _ _ refl h) ∙ c.1)
  wording_back n q o (pointer w) c h = ap pointer (ap fold_all (closed_second n q _ _ _ refl refl h) ∙ c.1)
  wording_back n q o (opened k w) c h = ap (opened k) (ap fold_all (closed_third n q _ _ _ _ refl refl refl h) ∙ c.1)
  wording_back n q o (closed k) c h = refl
  wording_back n q o (an_integer w) c h = refl
  wording_back n q o (a_real x) c h = refl
  wording_back n q o (a_moment t) c h = refl
  wording_back n q o (a_text w) c h = ap a_text (ap reassemble (apart_word n q _ refl h) ∙ c.1)
  wording_back n q o (a_symbol w) c h = ap a_symbol (ap fold_all (symbol_word n q (before q) w (is_name w) h) ∙ c.1)
  wording_back n q o (a_unit op w v) c h = ap (λ (u : List ℕ). a_unit op u v) (ap fold_all (unit_word n op w (exponent_pieces v (is_one v)) h) ∙ c.1)
  wording_back n q o sequence c h = refl
  wording_back n q o sequence_end c h = refl
  wording_back n q o set c h = refl
  wording_back n q o set_end c h = refl
  wording_back n q o (last u) c h = refl

pub laid_wordings : (whole post : List ℕ) (n : ℕ) (q : Prior) (o : Opens) (rs : List Wording) → Each Clean rs → Here whole post n (pieces q o rs) → wordings whole (laid n q o rs) ≡ rs
laid_wordings whole post n q o [] none h = refl
laid_wordings whole post n q o (r ∷ rs) (one c cs) h =
    let ps = pieces (prior r) (after o r) rs in
    ap₂ (λ (x : Wording) (y : List Wording). x ∷ y)
    (wording_back whole (bytes_of ps ++ post) n q o r c (subst (At whole n) (ap (λ (l : List ℕ). l ++ post) (bytes_append (pieces_of q o r) ps) ∙ append_assoc (bytes_of (pieces_of q o r)) (bytes_of ps) post) h))
    (laid_wordings whole post (skip n (pieces_of q o r)) (prior r) (after o r) rs cs (here_skip whole post n (pieces_of q o r) ps h))

-- the table of the label of these rows has the bytes that were written
pub written_wordings : (m : List Wording) → Each Clean m → wordings (given_label m) (laid 0 start outside m) ≡ m
written_wordings m c = laid_wordings (given_label m) (13 ∷ 10 ∷ []) 0 start outside m c (at_start (given_label m))
