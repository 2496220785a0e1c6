-- The next element is as the rules say, both ways.
use Prim.Native.Nat.{ℕ, zero, suc, ◌<◌}
use native.Mathlib.Omega.{arith}
use mathlib.Core.Bool.{true}
use mathlib.Core.Path.{◌≡◌, refl, ap, ◌∙◌}
use mathlib.Core.List.{List, [], ◌∷◌, ◌++◌, append_assoc, append-nil}
use lib.ListN.{length, length-append}
use Rattle.rules.specs.Data.{Elem}
use Rattle.rules.specs.Modes.{Mode}
use Rattle.rules.specs.Elements.{is_blank, Comment, comment, Gap, no_gap, blank, remark, Spells, word, sign, one_star, two_stars, one_slash, quoted_text, quoted_symbol}
use Rattle.rules.proofs.Machine.Elements.{Piece, a_gap, piece}
use Rattle.rules.proofs.Elements.Pieces.{PieceIs, is_a_blank, is_comment, is_element, is_fault, is_the_end, piece_sound, piece_complete}
use Rattle.rules.proofs.Machine.Elements.{Ahead, comes, faulty, none_left, behind, onward, search_in, next_element, NextIs, finds, faults, ends}

-- what is found is one thing: the element, the bytes that its span leaves out, the gap, the element's bytes and what follows
pub record SameAhead (e e' : Elem) (q q' : ℕ) (g g' w w' r r' : List ℕ) : Type 0 where
  pub elem : e ≡ e'
  pub left : q ≡ q'
  pub gap : g ≡ g'
  pub bytes : w ≡ w'
  pub rest : r ≡ r'

pub same_ahead : {e e' : Elem} {q q' : ℕ} {g g' w w' r r' : List ℕ} → comes e q g w r ≡ comes e' q' g' w' r' → SameAhead e e' q q' g g' w w' r r'
same_ahead h = record { elem = cc; left = cc; gap = cc; bytes = cc; rest = cc }

comment_some : {c r : List ℕ} → Comment c r → 0 < length c
comment_some (comment t u) = omega arith

pub spells_some : {m : Mode} {w r : List ℕ} {e : Elem} {q : ℕ} → Spells m w e q r → 0 < length w
spells_some (word t f) = omega arith
spells_some (sign h) = omega arith
spells_some (one_star h) = omega arith
spells_some two_stars = omega arith
spells_some (one_slash h) = omega arith
spells_some (quoted_text h) = omega arith
spells_some (quoted_symbol h k) = omega arith

module _ (m : Mode) where
  after_blank : {b : ℕ} {r : List ℕ} {f : Ahead} → is_blank b ≡ true → NextIs m r f → NextIs m (b ∷ r) (behind (b ∷ []) f)
  after_blank h (finds g s) = finds (blank h g) s
  after_blank h (faults g s) = faults (blank h g) s
  after_blank h (ends g) = ends (blank h g)

  after_comment : {c r : List ℕ} {f : Ahead} → Comment c r → NextIs m r f → NextIs m (c ++ r) (behind c f)
  after_comment {c} k (finds {g} {w} {r} {e} {q} x s) = let n : NextIs m ((c ++ g) ++ (w ++ r)) (comes e q (c ++ g) w r) = finds (remark k x) s in rw append_assoc at n
  after_comment {c} k (faults {g} {r} {c = i} x s) = let n : NextIs m ((c ++ g) ++ r) (faulty i (c ++ g)) = faults (remark k x) s in rw append_assoc at n
  after_comment {c} k (ends {l} x) = let k' : Comment c (l ++ []) = simp append-nil k in ends (remark k' x)

  pub search_sound : (k : ℕ) (l : List ℕ) → length l < k → NextIs m l (search_in m k l)
  search_sound zero l h = absurd (omega arith)
  search_sound (suc k) l h = go h (λ r. search_sound k r) (piece_sound m l)
    where
      go : {l : List ℕ} {p : Piece} → length l < suc k → ((r : List ℕ) → length r < k → NextIs m r (search_in m k r)) → PieceIs m l p → NextIs m l (onward p (search_in m k))
      go h ih (is_a_blank {r = r} e) = after_blank e (ih r (omega arith))
      go h ih (is_comment {c} {r} e) = after_comment e (ih r (omega (arith, comment_some e, length-append c r)))
      go h ih (is_element s) = finds no_gap s
      go h ih (is_fault f) = faults no_gap f
      go h ih is_the_end = ends no_gap

  pub next_sound : (l : List ℕ) → NextIs m l (next_element m l)
  next_sound l = search_sound (suc (length l)) l (omega arith)

  behind_nil : (f : Ahead) → f ≡ behind [] f
  behind_nil (comes e q g w r) = refl
  behind_nil (faulty k g) = refl
  behind_nil none_left = refl

  behind_behind : (c g : List ℕ) (f : Ahead) → behind c (behind g f) ≡ behind (c ++ g) f
  behind_behind c g (comes e q x w r) = rw append_assoc
  behind_behind c g (faulty k x) = rw append_assoc
  behind_behind c g none_left = refl

  -- what follows a gap is found behind it
  abbrev Along : List ℕ → List ℕ → ℕ → Type 0
  Along g r k = (k' : ℕ) × (length r < k') × (search_in m k (g ++ r) ≡ behind g (search_in m k' r))

  further : {c r : List ℕ} (g : List ℕ) (k : ℕ) → piece m (c ++ (g ++ r)) ≡ a_gap c (g ++ r) → Along g r k → Along (c ++ g) r (suc k)
  further {c} {r} g k e a = (
    a.0,
    a.1,
    simp append_assoc (ap (λ (p : Piece). onward p (search_in m k)) e ∙ ap (behind c) a.2 ∙ behind_behind c g (search_in m a.0 r)),
  )

  along : {g r : List ℕ} → Gap m g r → (k : ℕ) → length (g ++ r) < k → Along g r k
  along (no_gap {r}) k h = (k, h, behind_nil (search_in m k r))
  along (blank h n) zero l = absurd (omega arith)
  along (blank {g = g} h n) (suc k) l = further g k (piece_complete m (is_a_blank h)) (along n k (omega arith))
  along (remark c n) zero l = absurd (omega arith)
  along (remark {c} {g} {r} h n) (suc k) l =
      further g k (piece_complete m (is_comment h)) (along n k (omega (arith, comment_some h, length-append c (g ++ r), simp append_assoc at l)))

  pub search_complete : {l : List ℕ} {f : Ahead} → NextIs m l f → (k : ℕ) → length l < k → search_in m k l ≡ f
  search_complete (finds {g} {w} {r} {e} {q} x s) k h = let a = along x k h in a.2 ∙ go a.0 a.1
    where
      go : (k : ℕ) → length (w ++ r) < k → behind g (search_in m k (w ++ r)) ≡ comes e q g w r
      go zero h = absurd (omega arith)
      go (suc k) h = ap (λ (p : Piece). behind g (onward p (search_in m k))) (piece_complete m (is_element s)) ∙ rw append-nil
  search_complete (faults {g} {r} {c} x s) k h = let a = along x k h in a.2 ∙ go a.0 a.1
    where
      go : (k : ℕ) → length r < k → behind g (search_in m k r) ≡ faulty c g
      go zero h = absurd (omega arith)
      go (suc k) h = ap (λ (p : Piece). behind g (onward p (search_in m k))) (piece_complete m (is_fault s)) ∙ rw append-nil
  search_complete (ends {l} x) k h = let a = along x k (simp append-nil h) in (simp append-nil at a.2) ∙ go a.0 a.1
    where
      go : (k : ℕ) → 0 < k → behind l (search_in m k []) ≡ none_left
      go zero h = absurd (omega arith)
      go (suc k) h = refl

  pub next_complete : {l : List ℕ} {f : Ahead} → NextIs m l f → next_element m l ≡ f
  next_complete {l} n = search_complete n (suc (length l)) (omega arith)
