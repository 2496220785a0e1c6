-- Blanks and comments passed, in the rules' terms.
use Prim.Native.Nat.{ℕ, ◌+◌, ◌≤◌, ◌<◌}
use mathlib.Core.Bool.{Bool, true, false, true≢false}
use mathlib.Core.Path.{◌≡◌, refl, sym, ap, subst, ◌∙◌}
use mathlib.Core.List.{List, [], ◌∷◌, ◌++◌}
use native.Mathlib.Omega.{arith}
use lib.ListN.{length, get_or, drop, drop_of_length-le}
use Rattle.rules.specs.Bytes.{line_end, front, pair, Run}
use Rattle.rules.specs.Modes.{base}
use Rattle.rules.specs.Elements.{is_blank, in_comment, in_line, Comment, comment, Gap, no_gap, blank, remark, Breaks, open_at_end, open_at, foreign, Fault, broken_comment}
use Rattle.classes.specs.Places.{part, EndsAt, ByteAt}
use Rattle.elements.specs.Faults.{code_of}
use Rattle.elements.specs.Places.{CommentOpens, CommentEnds, CommentBroken, GapEnds, GapBroken}
use Rattle.elements.specs.declared.Broken.{Broken}
use Rattle.elements.specs.declared.Fault as code
use Rattle.classes.proofs.Runs.{joined, front_at}
use Rattle.elements.proofs.Pairs.{first_not, second_not, two, two_part}
use Rattle.classes.proofs.Parts.{part_cons, part_nil, part_split}

-- ---- breaks

-- whether the bytes or their line end here
abbrev pub line_ends : List ℕ → Bool
line_ends [] = true
line_ends (b ∷ r) = line_end b

pub left_open : (s : List ℕ) → line_ends s ≡ true → Breaks line_end s 3
left_open [] h = open_at_end
left_open (b ∷ r) h = open_at h

pub foreign_byte : (s : List ℕ) → line_ends s ≡ false → Breaks line_end s 2
foreign_byte [] h = absurd (true≢false h)
foreign_byte (b ∷ r) h = foreign h

-- ---- comments

unclosed_at : (l : List ℕ) (at e : ℕ) (f : code.Fault) → CommentOpens l at → EndsAt in_comment l (at + 2) e → pair 42 47 (drop e l) ≡ false → Breaks line_end (drop e l) (code_of f) → CommentBroken l at (f, at)
unclosed_at l at e f o r p k = record {
  opens = o;
  place = refl;
  is = subst (λ (s : List ℕ). Fault base s (code_of f))
      (ap (λ (s : List ℕ). 47 ∷ 42 ∷ s) (joined l (at + 2) e r.from) ∙ sym (two l at 47 42 o.first o.second o.within))
      (broken_comment r.is p k);
}

pub unclosed_first : (l : List ℕ) (at e b : ℕ) (f : code.Fault) → CommentOpens l at → EndsAt in_comment l (at + 2) e → ByteAt l e b → (b ≡ 42 → ⊥) → Breaks line_end (drop e l) (code_of f) → CommentBroken l at (f, at)
unclosed_first l at e b f o r h n k = unclosed_at l at e f o r (first_not l e 42 47 refl refl (λ q. n (h.is ∙ q))) k

pub unclosed_second : (l : List ℕ) (at e b : ℕ) (f : code.Fault) → CommentOpens l at → EndsAt in_comment l (at + 2) e → ByteAt l (e + 1) b → (b ≡ 47 → ⊥) → Breaks line_end (drop e l) (code_of f) → CommentBroken l at (f, at)
unclosed_second l at e b f o r h n k = unclosed_at l at e f o r (second_not l e 42 47 refl refl (λ q. n (h.is ∙ q))) k

pub closed : (l : List ℕ) (at e a b f : ℕ) → CommentOpens l at → EndsAt in_comment l (at + 2) e → ByteAt l e a → a ≡ 42 → ByteAt l (e + 1) b → b ≡ 47 → EndsAt in_line l (e + 2) f → CommentEnds l at f
closed l at e a b f o r x p y q s =
    let ends : e + 2 ≤ f = s.from in
    let is : drop e l ≡ 42 ∷ 47 ∷ (part l (e + 2) f ++ drop f l) =
    two l e 42 47 (sym x.is ∙ p) (sym y.is ∙ q) (omega arith) ∙ ap (λ (t : List ℕ). 42 ∷ 47 ∷ t) (sym (joined l (e + 2) f ends)) in
    let whole : part l at f ≡ 47 ∷ 42 ∷ (part l (at + 2) e ++ 42 ∷ 47 ∷ part l (e + 2) f) =
    two_part l at 47 42 f o.first o.second (omega arith) s.within
    ∙ ap (λ (t : List ℕ). 47 ∷ 42 ∷ t) (part_split l (at + 2) e f r.from (omega arith) s.within
    ∙ ap (λ (t : List ℕ). part l (at + 2) e ++ t) (two_part l e 42 47 f (sym x.is ∙ p) (sym y.is ∙ q) ends s.within)) in
    let less : at < f = omega arith in
    record {
      onward = less;
      within = s.within;
      is = subst (λ (t : List ℕ). Comment t (drop f l)) (sym whole) (comment (subst (Run in_comment (part l (at + 2) e)) is r.is) s.is);
    }

-- ---- gaps

-- the invariant: whatever gap is found from here is the rest of the gap from the start
pub record Skipping (l : List ℕ) (from i : ℕ) : Type 0 where
  pub onward : from ≤ i
  pub within : i ≤ length l
  pub on : (e : ℕ) → i ≤ e → e ≤ length l → Gap base (part l i e) (drop e l) → Gap base (part l from e) (drop e l)

pub start : (l : List ℕ) (at : ℕ) → at ≤ length l → Skipping l at at
start l at h = record { onward = omega arith; within = h; on = λ e k n w. w }

pub blank_turn : (l : List ℕ) (from i : ℕ) (t : Bool) → Skipping l from i → i < length l → t ≡ is_blank (get_or l i 0) → t ≡ true → Skipping l from (i + 1)
blank_turn l from i t v h e k = record {
  onward = omega (arith, v.onward);
  within = omega arith;
  on = λ f x n g. v.on f (omega arith) n (rw (part_cons l i f (omega arith) n) (blank (sym e ∙ k) g));
}

pub remark_turn : (l : List ℕ) (from i e : ℕ) → Skipping l from i → CommentEnds l i e → Skipping l from e
remark_turn l from i e v r = record {
  onward = omega (arith, v.onward, r.onward);
  within = r.within;
  on = λ f x n g. v.on f (omega (arith, r.onward)) n (rw (part_split l i e f (omega (arith, r.onward)) x n) (remark (subst (Comment (part l i e)) (sym (joined l e f x)) r.is) g));
}

pub opens : (l : List ℕ) (i b : ℕ) → i < length l → get_or l i 0 ≡ 47 → ByteAt l (i + 1) b → b ≡ 42 → CommentOpens l i
opens l i b h e y q = record { first = e; second = sym y.is ∙ q; within = omega (arith, y.inside) }

found_at : (l : List ℕ) (from i : ℕ) → Skipping l from i → Gap base (part l from i) (drop i l)
found_at l from i v = v.on i (omega arith) v.within (rw (part_nil l i) no_gap)

pub broken_at : (l : List ℕ) (from i : ℕ) (b : Broken) → Skipping l from i → CommentBroken l i b → GapBroken l from b
broken_at l from i b v r = record {
  onward = omega (arith, v.onward, r.place);
  is = subst (λ (n : ℕ). Gap base (part l from n) (drop n l)) (sym r.place) (found_at l from i v);
  broken = subst (λ (n : ℕ). CommentBroken l n b) (sym r.place) r;
}

blank_not : (l : List ℕ) (i : ℕ) (t : Bool) → i < length l → t ≡ is_blank (get_or l i 0) → t ≡ false → front is_blank (drop i l) ≡ false
blank_not l i t h e k = front_at is_blank l i h ∙ sym e ∙ k

pub clear_first : (l : List ℕ) (from i : ℕ) (t : Bool) → Skipping l from i → i < length l → t ≡ is_blank (get_or l i 0) → t ≡ false → (get_or l i 0 ≡ 47 → ⊥) → GapEnds l from i
clear_first l from i t v h e k n =
    record { onward = v.onward; clear = record { within = v.within; no_blank = blank_not l i t h e k; no_comment = first_not l i 47 42 refl refl n }; is = found_at l from i v }

pub clear_second : (l : List ℕ) (from i b : ℕ) (t : Bool) → Skipping l from i → i < length l → t ≡ is_blank (get_or l i 0) → t ≡ false → ByteAt l (i + 1) b → (b ≡ 42 → ⊥) → GapEnds l from i
clear_second l from i b t v h e k z n =
    record { onward = v.onward; clear = record { within = v.within; no_blank = blank_not l i t h e k; no_comment = second_not l i 47 42 refl refl (λ q. n (z.is ∙ q)) }; is = found_at l from i v }

pub clear_end : (l : List ℕ) (from i : ℕ) → Skipping l from i → length l ≤ i → GapEnds l from i
clear_end l from i v h =
    let e : drop i l ≡ [] = drop_of_length-le l h in
    record { onward = v.onward; clear = record { within = v.within; no_blank = ap (front is_blank) e; no_comment = ap (pair 47 42) e }; is = found_at l from i v }
