-- A text reassembled byte by byte: what each byte leaves, and where a run holds a line end.
use Prim.Native.Nat.{ℕ, ◌+◌, ◌-◌, ◌≤◌, ◌<◌, min}
use mathlib.Core.Bool.{Bool, true, false, true≢false, cond, not, ◌&&◌, ◌||◌, and-false}
use Rattle.std.specs.Prelude.{Option, Some, None}
use mathlib.Core.Path.{◌≡◌, refl, ap, sym, ◌∙◌}
use mathlib.Core.List.{List, [], ◌∷◌, ◌++◌, append_assoc, append-nil}
use native.Mathlib.Omega.{arith}
use borrow.Author.Tests.{eq-eqb, ne_eqb}
use lib.Dec.{leb, eqb}
use lib.ListN.{length, get_or, take, drop, length-drop, drop_of_length-le}
use lib.Seq.{take_all}
use native.Mathlib.Nat.{le_refl}
use borrow.Rule.Slice.PartMut.{mid_of, put_mid}
use Rattle.rules.specs.Bytes.{spacing, line_end, front}
use Rattle.rules.specs.Elements.{is_blank}
use Rattle.rules.specs.Meaning.{kept, keep, breaks, join, reassemble}
use Rattle.rules.proofs.Tables.Tests.{cond-case}
use Rattle.classes.proofs.Runs.{unroll}
use Rattle.output.specs.Puts.{Puts}
use Rattle.output.specs.Joins.{maybe, dealt, Known, Turned}
use Rattle.output.specs.declared.texts.Run.{Run}
use Rattle.output.specs.declared.texts.Run.TheVariants as runs
use Rattle.output.proofs.Laws.{nothing, onward, long, same_part}

-- ---- bytes that are passed over, and bytes that are kept

keep_not : (w : List ℕ) (i : ℕ) → i < length w → kept (get_or w i 0) ≡ false → keep (drop i w) ≡ keep (drop (i + 1) w)
unfolding keep
keep_not w i h k = rw (unroll w i h, k)

keep_yes : (w : List ℕ) (i : ℕ) → i < length w → kept (get_or w i 0) ≡ true → keep (drop i w) ≡ get_or w i 0 ∷ keep (drop (i + 1) w)
unfolding keep
keep_yes w i h k = rw (unroll w i h, k)

keep_none : (w : List ℕ) (i : ℕ) → length w ≤ i → keep (drop i w) ≡ []
unfolding keep
keep_none w i h = rw (drop_of_length-le w h)

-- ---- whether a line end stands next

-- the first i bytes are passed over
pub record Next (w : List ℕ) (i : ℕ) : Type 0 where
  pub rest : front line_end (keep (drop i w)) ≡ front line_end (keep w)

pub next_start : (w : List ℕ) → Next w 0
next_start w = record { rest = refl }

pub next_turn : (w : List ℕ) (i : ℕ) (t : Bool) → Next w i → i < length w → t ≡ kept (get_or w i 0) → t ≡ false → Next w (i + 1)
next_turn w i t v h e f = record { rest = ap (front line_end) (sym (keep_not w i h (sym e ∙ f))) ∙ v.rest }

pub next_is : (w : List ℕ) (i : ℕ) (t r : Bool) → Next w i → i < length w → t ≡ kept (get_or w i 0) → t ≡ true → r ≡ line_end (get_or w i 0) → r ≡ front line_end (keep w)
next_is w i t r v h e f g = g ∙ sym (ap (front line_end) (keep_yes w i h (sym e ∙ f))) ∙ v.rest

pub next_end : (w : List ℕ) (i : ℕ) → Next w i → length w ≤ i → false ≡ front line_end (keep w)
next_end w i v h = sym (ap (front line_end) (keep_none w i h)) ∙ v.rest

-- ---- whether a run holds a line end

-- no line end, and nothing that is shown, stands among the first i bytes
pub record Breaks (w : List ℕ) (i : ℕ) : Type 0 where
  pub rest : breaks (keep (drop i w)) ≡ breaks (keep w)

pub breaks_start : (w : List ℕ) → Breaks w 0
breaks_start w = record { rest = refl }

-- a line end is kept; a byte that is neither that nor shown is spacing, or passed over
ends_kept : (b : ℕ) → line_end b ≡ true → kept b ≡ true
ends_kept b h = go (spacing b) (leb 32 b && not (eqb b 127)) h
  where
    go : (s k : Bool) {l : Bool} → l ≡ true → ((s || l) || k) ≡ true
    go true k e = refl
    go false k e = rw e

spaces : (s l k : Bool) → l ≡ false → (((s || l) || k) && not (s || l)) ≡ false → ((s || l) || k) ≡ true → s ≡ true
spaces true l k e f g = refl
spaces false true k e f g = absurd (true≢false e)
spaces false false true e f g = absurd (true≢false f)
spaces false false false e f g = g

passed : (b : ℕ) (s : List ℕ) → line_end b ≡ false → (kept b && not (is_blank b)) ≡ false → breaks (cond (kept b) (b ∷ s) s) ≡ breaks s
unfolding breaks
passed b s e f = cond-case (λ l. breaks l ≡ breaks s) (kept b) (b ∷ s) s (λ k. rw (e, spaces (spacing b) (line_end b) _ e f k)) (λ k. refl)

no_blank : (s l k : Bool) → (((s || l) || k) && not (s || l)) ≡ true → (((s || l) || k) ≡ true) × ((s ≡ false) × (l ≡ false))
no_blank true l k e = absurd (true≢false (sym e))
no_blank false true k e = absurd (true≢false (sym e))
no_blank false false true e = (refl, (refl, refl))
no_blank false false false e = absurd (true≢false (sym e))

shown : (b : ℕ) (s : List ℕ) → (kept b && not (is_blank b)) ≡ true → breaks (cond (kept b) (b ∷ s) s) ≡ false
unfolding breaks
shown b s e = let n = no_blank (spacing b) (line_end b) _ e in rw (n.0, n.1.0, n.1.1)

breaks_end : (b : ℕ) (s : List ℕ) → line_end b ≡ true → breaks (cond (kept b) (b ∷ s) s) ≡ true
unfolding breaks
breaks_end b s e = rw (ends_kept b e, e)

kept_at : (w : List ℕ) (i : ℕ) → i < length w → keep (drop i w) ≡ cond (kept (get_or w i 0)) (get_or w i 0 ∷ keep (drop (i + 1) w)) (keep (drop (i + 1) w))
unfolding keep
kept_at w i h = ap keep (unroll w i h)

pub breaks_turn : (w : List ℕ) (i : ℕ) (t u : Bool) → Breaks w i → i < length w → t ≡ line_end (get_or w i 0) → t ≡ false → u ≡ (kept (get_or w i 0) && not (is_blank (get_or w i 0))) → u ≡ false → Breaks w (i + 1)
breaks_turn w i t u v h e f g k = record { rest = sym (ap breaks (kept_at w i h) ∙ passed (get_or w i 0) (keep (drop (i + 1) w)) (sym e ∙ f) (sym g ∙ k)) ∙ v.rest }

pub breaks_yes : (w : List ℕ) (i : ℕ) (t : Bool) → Breaks w i → i < length w → t ≡ line_end (get_or w i 0) → t ≡ true → true ≡ breaks (keep w)
breaks_yes w i t v h e f = sym (ap breaks (kept_at w i h) ∙ breaks_end (get_or w i 0) (keep (drop (i + 1) w)) (sym e ∙ f)) ∙ v.rest

pub breaks_no : (w : List ℕ) (i : ℕ) (u : Bool) → Breaks w i → i < length w → u ≡ (kept (get_or w i 0) && not (is_blank (get_or w i 0))) → u ≡ true → false ≡ breaks (keep w)
breaks_no w i u v h g k = sym (ap breaks (kept_at w i h) ∙ shown (get_or w i 0) (keep (drop (i + 1) w)) (sym g ∙ k)) ∙ v.rest

pub breaks_past : (w : List ℕ) (i : ℕ) → Breaks w i → length w ≤ i → false ≡ breaks (keep w)
unfolding breaks
breaks_past w i v h = sym (ap breaks (keep_none w i h)) ∙ v.rest

-- ---- a byte's turn

run_rest : (c : ℕ) (s : List ℕ) → is_blank c ≡ true → breaks (c ∷ s) ≡ false → breaks s ≡ false
unfolding breaks
run_rest c s y z = go (spacing c) (line_end c) (breaks s) y z
  where
    go : (a l b : Bool) → (a || l) ≡ true → (l || (a && b)) ≡ false → b ≡ false
    go true true b y z = absurd (true≢false z)
    go true false b y z = z
    go false true b y z = absurd (true≢false z)
    go false false b y z = absurd (true≢false (sym y))

known_not : (w : List ℕ) (i : ℕ) {run : Run} → (run ≡ runs.Unbroken → ⊥) → Known w i run
known_not w i h = record { unbroken = λ e. absurd (h e) }

-- a slice from a place on, as the code takes it
onwards : (w : List ℕ) (i : ℕ) → take (length w - i) (drop i w) ≡ drop i w
onwards w i = take_all (length w - i) (drop i w) (rw (length-drop i w) (le_refl _))

dropped : (k y : Bool) → (k && not y) ≡ false → y ≡ false → k ≡ false
dropped true y e f = absurd (true≢false (sym (ap not f) ∙ e))
dropped false y e f = refl

blank_kept : (b : ℕ) → is_blank b ≡ true → kept b ≡ true
blank_kept b y = rw y

module _ (w : List ℕ) (i : ℕ) where
  pub turn_passed : {run : Run} (s u : Bool) → Known w i run → i < length w → s ≡ (kept (get_or w i 0) && not (is_blank (get_or w i 0))) → s ≡ false → u ≡ is_blank (get_or w i 0) → u ≡ false → Turned w i run None run
  turn_passed {run} s u v h e f g j =
      let k : keep (drop i w) ≡ keep (drop (i + 1) w) = keep_not w i h (dropped (kept (get_or w i 0)) (is_blank (get_or w i 0)) (sym e ∙ f) (sym g ∙ j)) in
      record { joins = ap (join (dealt run)) k; knows = record { unbroken = λ y. ap breaks (sym k) ∙ v.unbroken y } }

  -- a blank
  module _ (u : Bool) (h : i < length w) (g : u ≡ is_blank (get_or w i 0)) (j : u ≡ true) where
    blank_next : keep (drop i w) ≡ get_or w i 0 ∷ keep (drop (i + 1) w)
    blank_next = keep_yes w i h (blank_kept (get_or w i 0) (sym g ∙ j))

    pub turn_dealt : {run : Run} → run ≡ runs.Dealt → Turned w i run None runs.Dealt
    unfolding join
    turn_dealt d = record { joins = rw (d, blank_next, ← g, j); knows = known_not w (i + 1) (λ z. cc) }

    pub turn_breaks : {run : Run} {r : Bool} → run ≡ runs.Fresh → r ≡ breaks (keep (take (length w - i) (drop i w))) → r ≡ true → Turned w i run (Some 32) runs.Dealt
    unfolding join
    turn_breaks d b c =
        let k : breaks (get_or w i 0 ∷ keep (drop (i + 1) w)) ≡ true = ap breaks (sym blank_next) ∙ sym (b ∙ ap (λ l. breaks (keep l)) (onwards w i)) ∙ c in
        record { joins = rw (d, blank_next, ← g, j, k); knows = known_not w (i + 1) (λ z. cc) }

    stays : {run : Run} → dealt run ≡ false → breaks (keep (drop i w)) ≡ false → Turned w i run (Some (get_or w i 0)) runs.Unbroken
    unfolding join
    stays d b =
        let k : breaks (get_or w i 0 ∷ keep (drop (i + 1) w)) ≡ false = ap breaks (sym blank_next) ∙ b in
        record { joins = rw (d, blank_next, ← g, j, k); knows = record { unbroken = λ y. run_rest (get_or w i 0) (keep (drop (i + 1) w)) (sym g ∙ j) k } }

    pub turn_unbroken : {run : Run} {r : Bool} → run ≡ runs.Fresh → r ≡ breaks (keep (take (length w - i) (drop i w))) → r ≡ false → Turned w i run (Some (get_or w i 0)) runs.Unbroken
    turn_unbroken d b c = stays (ap dealt d) (sym (b ∙ ap (λ l. breaks (keep l)) (onwards w i)) ∙ c)

    pub turn_known : {run : Run} → Known w i run → run ≡ runs.Unbroken → Turned w i run (Some (get_or w i 0)) runs.Unbroken
    turn_known v d = stays (ap dealt d) (v.unbroken d)

  -- a byte that is shown
  module _ (s : Bool) (h : i < length w) (e : s ≡ (kept (get_or w i 0) && not (is_blank (get_or w i 0)))) (f : s ≡ true) where
    tests : (kept (get_or w i 0) ≡ true) × ((spacing (get_or w i 0) ≡ false) × (line_end (get_or w i 0) ≡ false))
    tests = no_blank (spacing (get_or w i 0)) (line_end (get_or w i 0)) _ (sym e ∙ f)

    shown_next : keep (drop i w) ≡ get_or w i 0 ∷ keep (drop (i + 1) w)
    shown_next = keep_yes w i h tests.0

    pub turn_vanish : {run : Run} {r : Bool} → get_or w i 0 ≡ 45 → r ≡ front line_end (keep (take (length w - (i + 1)) (drop (i + 1) w))) → r ≡ true → Turned w i run None runs.Dealt
    unfolding join
    turn_vanish m b c =
        let q : (eqb (get_or w i 0) 45 && front line_end (keep (drop (i + 1) w))) ≡ true = rw (eq-eqb (get_or w i 0) 45 m, ← onwards w (i + 1), ← b, c) in
        record { joins = rw (shown_next, tests.1.0, tests.1.1, q); knows = known_not w (i + 1) (λ z. cc) }

    byte_stays : {run : Run} → (eqb (get_or w i 0) 45 && front line_end (keep (drop (i + 1) w))) ≡ false → Turned w i run (Some (get_or w i 0)) runs.Fresh
    unfolding join
    byte_stays q = record { joins = rw (shown_next, tests.1.0, tests.1.1, q); knows = known_not w (i + 1) (λ z. cc) }

    pub turn_hyphen : {run : Run} {r : Bool} → r ≡ front line_end (keep (take (length w - (i + 1)) (drop (i + 1) w))) → r ≡ false → Turned w i run (Some (get_or w i 0)) runs.Fresh
    turn_hyphen b c = byte_stays (rw (← onwards w (i + 1), ← b, c) (and-false (eqb (get_or w i 0) 45)))

    pub turn_other : {run : Run} → (get_or w i 0 ≡ 45 → ⊥) → Turned w i run (Some (get_or w i 0)) runs.Fresh
    turn_other m = byte_stays (rw (ne_eqb (get_or w i 0) 45 m))

-- ---- all turns

pub record Joining (w room out : List ℕ) (n i : ℕ) (run : Run) : Type 0 where
  pub less : n ≤ i
  pub done : List ℕ
  pub puts : Puts done room out n
  pub same : length out ≡ length room
  pub rest : reassemble w ≡ done ++ join (dealt run) (keep (drop i w))
  pub knows : Known w i run

pub join_start : (w room : List ℕ) → Joining w room room 0 0 runs.Fresh
unfolding reassemble
join_start w room = record { less = omega arith; done = []; puts = nothing room; same = refl; rest = refl; knows = known_not w 0 (λ z. cc) }

pub join_turn : (w room out p : List ℕ) (n m k i : ℕ) (run next : Run) (b : Option ℕ) → Joining w room out n i run → Turned w i run b next → k ≡ min n (length out) →
    Puts (maybe b) (mid_of k (length out - k) out) p m × (m ≤ 1) → Joining w room (put_mid k (length out - k) out p) (n + m) (i + 1) next
join_turn w room out p n m k i run next b v q e f = record {
  less = omega (arith, v.less, f.1);
  done = v.done ++ maybe b;
  puts = onward v.puts e f.0;
  same = long (onward v.puts e f.0);
  rest = v.rest ∙ ap (λ (l : List ℕ). v.done ++ l) q.joins ∙ sym (append_assoc v.done (maybe b) (join (dealt next) (keep (drop (i + 1) w))));
  knows = q.knows;
}

pub join_end : (w room out : List ℕ) (n i : ℕ) (run : Run) → Joining w room out n i run → i ≡ length w → Puts (reassemble w) room out n × (n ≤ length w)
unfolding join
join_end w room out n i run v h =
    let e : reassemble w ≡ v.done = v.rest ∙ ap (λ (l : List ℕ). v.done ++ join (dealt run) l) (keep_none w i (omega arith)) ∙ append-nil v.done in
    (same_part (sym e) v.puts, omega (arith, v.less))
