-- The reading of a label is as the rules say, both ways: every label has one outcome, and every call one answer.
use Prim.Native.Nat.{ℕ, zero, suc, ◌+◌, ◌<◌}
use native.Mathlib.Omega.{arith}
use native.Mathlib.Nat.{zero-add}
use mathlib.Core.Bool.{Bool, true, false, cond, true≢false, false≢true}
use mathlib.Core.Path.{◌≡◌, refl, sym, ap, subst, ◌∙◌}
use mathlib.Core.List.{List, [], ◌++◌, append_assoc, append-nil}
use borrow.Author.Tests.{leb-true, leb-false, le-leb, lt-leb}
use lib.Dec.{leb}
use lib.ListN.{length, length-append}
use Rattle.rules.specs.Data.{Elem, name, the, end, integer, based, real, moment, range, text, symbol, Placed, ◌on◌, Row, Opens, outside}
use Rattle.rules.specs.Grammar.{strict, Label}
use Rattle.rules.specs.Modes.{Mode}
use Rattle.rules.specs.Faults.{Refused, Early}
use Rattle.rules.specs.Elements.{Gap, Spells, placed, Cut, none_more, next}
use Rattle.rules.specs.Reading.{longest, Outcome, accepted, refused, Judged, follows, misspelled, misplaced, ends_early, Reads, too_long, read, Said, Answered, stored, no_room, not_read}
use Rattle.rules.specs.Table.{table}
use Rattle.rules.proofs.Machine.Statements.{State, at_statement, at_semicolon, at_equals, at_pointer, at_opener, at_opened, at_closer, at_closed, at_scalar, at_number, at_member, at_row, at_next_row, at_unit, at_power, at_exponent, at_factor, at_end, Answer, refuses, goes, step}
use Rattle.rules.proofs.Grammar.Run.{Reach, here, by_step, reading, trace, reach_run}
use Rattle.rules.proofs.Grammar.Run as Run
use Rattle.rules.proofs.Grammar.Rest.{r_end}
use Rattle.rules.proofs.Grammar.Complete.{refuses_goes, complete}
use Rattle.rules.proofs.Grammar.Theorems.{whole, sound_reach, refused_at, viable→taken, early, reach→viable, same_code, reach_more}
use Rattle.rules.proofs.Machine.Elements.{Ahead, next_element, NextIs, finds, faults, ends}
use Rattle.rules.proofs.Elements.Next.{spells_some, next_sound, next_complete}
use Rattle.rules.proofs.Machine.Statements.{is_end}
use Rattle.rules.proofs.Machine.Labels.{behind_rows, stepped, taken, loop, judge_label, reader, Stop, at_the_end, at_a_fault, at_an_element, at_no_more, Goes, now, later, roomy, returned, answer}
use Rattle.rules.proofs.Machine.Returns.{Return, returns}

-- ---- an outcome behind rows

pub onto_nil : (z : Outcome) → behind_rows [] z ≡ z
onto_nil (accepted qs i) = refl
onto_nil (refused c i) = refl

pub onto_onto : (rs qs : List Row) (z : Outcome) → behind_rows rs (behind_rows qs z) ≡ behind_rows (rs ++ qs) z
onto_onto rs qs (accepted ps i) = ap (λ (l : List Row). accepted l i) (sym (append_assoc rs qs ps))
onto_onto rs qs (refused c i) = refl

-- ---- the loop is its relation

module _ (m : Mode) where
  loop_sound : (k : ℕ) (q : State) (o : Opens) (i : ℕ) (l : List ℕ) → length l < k → Goes m q o i l (loop m k q o i l)
  loop_sound zero q o i l h = absurd (omega arith)
  loop_sound (suc k) q o i l h = by_end (λ q' o' i' r'. loop_sound k q' o' i' r') (is_end q) refl
    where
      next_by : {w r : List ℕ} {g : List ℕ} {e : Elem} {n : ℕ} → is_end q ≡ false → Gap m g (w ++ r) → Spells m w e n r →
          ((q' : State) (o' : Opens) → Goes m q' o' (i + length g + length w) r (loop m k q' o' (i + length g + length w) r)) →
          (a : Answer) → step m strict q o (placed i g w e n) ≡ a → Goes m q o i (g ++ (w ++ r)) (stepped (i + length g) a (λ q' o'. loop m k q' o' (i + length g + length w) r))
      next_by x g s ih (refuses c) e = now (at_an_element x g s e)
      next_by x g s ih (goes q' o' rs) e = later x g s e (ih q' o')

      by_next : is_end q ≡ false → {l : List ℕ} {f : Ahead} → length l < suc k → NextIs m l f →
          ((q' : State) (o' : Opens) (i : ℕ) (r : List ℕ) → length r < k → Goes m q' o' i r (loop m k q' o' i r)) → Goes m q o i l (taken m q o i l f (loop m k))
      by_next x h (finds {g} {w} {r} {e} {q = n} y s) ih =
          next_by x y s (λ q' o'. ih q' o' (i + length g + length w) r (omega (arith, spells_some s, length-append g (w ++ r), length-append w r))) (step m strict q o (placed i g w e n)) refl
      by_next x h (faults y f) ih = now (at_a_fault x y f)
      by_next x h (ends y) ih = now (at_no_more x y)

      by_end : ((q' : State) (o' : Opens) (i : ℕ) (r : List ℕ) → length r < k → Goes m q' o' i r (loop m k q' o' i r)) → (t : Bool) → is_end q ≡ t → Goes m q o i l (cond t (accepted [] i) (taken m q o i l (next_element m l) (loop m k)))
      by_end ih true x = now (at_the_end x)
      by_end ih false x = by_next x h (next_sound m l) ih

  one_turn : (k : ℕ) (q : State) (o : Opens) (i : ℕ) {l : List ℕ} {f : Ahead} → is_end q ≡ false → NextIs m l f → loop m (suc k) q o i l ≡ taken m q o i l f (loop m k)
  one_turn k q o i {l} x n = rw x (ap (λ (f : Ahead). taken m q o i l f (loop m k)) (next_complete m n))

  loop_stops : {q : State} {o : Opens} {i : ℕ} {l : List ℕ} {z : Outcome} → Stop m q o i l z → (k : ℕ) → loop m (suc k) q o i l ≡ z
  loop_stops (at_the_end x) k = rw x
  loop_stops {q} {o} {i} (at_a_fault x g f) k = one_turn k q o i x (faults g f)
  loop_stops {q} {o} {i} (at_an_element {g = g'} {w} {r} x g s e) k =
      one_turn k q o i x (finds g s) ∙ ap (λ (a : Answer). stepped (i + length g') a (λ q' o'. loop m k q' o' (i + length g' + length w) r)) e
  loop_stops {q} {o} {i} (at_no_more x g) k = one_turn k q o i x (ends g)

  pub loop_complete : {q : State} {o : Opens} {i : ℕ} {l : List ℕ} {z : Outcome} → Goes m q o i l z → (k : ℕ) → length l < k → loop m k q o i l ≡ z
  loop_complete (now s) zero h = absurd (omega arith)
  loop_complete (now s) (suc k) h = loop_stops s k
  loop_complete (later x g s e t) zero h = absurd (omega arith)
  loop_complete {q} {o} {i} (later {g = g'} {w} {r} {rs = rs} x g s e t) (suc k) h =
      one_turn k q o i x (finds g s)
      ∙ ap (λ (a : Answer). stepped (i + length g') a (λ q' o'. loop m k q' o' (i + length g' + length w) r)) e
      ∙ ap (behind_rows rs) (loop_complete t k (omega (arith, spells_some s, length-append g' (w ++ r), length-append w r)))

  -- ---- and in the rules' terms

  -- the elements up to the stop
  pub data Ran (q : State) (o : Opens) (i : ℕ) (l : List ℕ) : Outcome → Type 0 where
    ran : {es : List Placed} {j : ℕ} {r : List ℕ} {q' : State} {o' : Opens} {rs : List Row} {z : Outcome} → Cut m i l es j r → Reach m strict q o es q' o' rs → Stop m q' o' j r z →
        Ran q o i l (behind_rows rs z)

  ran_more : {q q' : State} {o o' : Opens} {i n : ℕ} {g w r : List ℕ} {e : Elem} {rs : List Row} {z : Outcome} → Gap m g (w ++ r) → Spells m w e n r →
      step m strict q o (placed i g w e n) ≡ goes q' o' rs → Ran q' o' (i + length g + length w) r z → Ran q o i (g ++ (w ++ r)) (behind_rows rs z)
  ran_more {q} {o = o} {i = i} {g = g} {w = w} {r = r} {rs = rs} x s e (ran {rs = qs} {z = z} c t st) =
      subst (Ran q o i (g ++ (w ++ r))) (sym (onto_onto rs qs z)) (ran (next g w x s c) (by_step e t) st)

  pub gather : {q : State} {o : Opens} {i : ℕ} {l : List ℕ} {z : Outcome} → Goes m q o i l z → Ran q o i l z
  gather {q} {o} {i} {l} {z} (now s) = subst (Ran q o i l) (onto_nil z) (ran none_more here s)
  gather (later x g s e t) = ran_more g s e (gather t)

  pub cut_length : {i j : ℕ} {l r : List ℕ} {es : List Placed} → Cut m i l es j r → i + length l ≡ j + length r
  cut_length none_more = refl
  cut_length (next {l = l} g w x s c) = omega (arith, cut_length c, length-append g (w ++ l), length-append w l)

  -- END is the last
  ended_not : {q : State} {o : Opens} {rs rows : List Row} → is_end q ≡ false → Run.ended q o rs ≡ Run.ended at_end outside rows → ⊥
  ended_not {q} {o} {rs} {rows} x e = let h : q ≡ at_end = cc in true≢false (sym (ap is_end h) ∙ x)

  reach_reading : {es : List Placed} {q : State} {o : Opens} {rs : List Row} → Reach m strict at_statement outside es q o rs → reading m strict es ≡ Run.ended q o rs
  reach_reading t = simp append-nil at (reach_run m strict t [])

  pub reach_early : {es : List Placed} {q : State} {o : Opens} {rs : List Row} → Reach m strict at_statement outside es q o rs → is_end q ≡ false → Early m es
  reach_early {es} {q} {o} {rs} t x = early m es q o rs (reach_reading t) (λ rows. ended_not x)

  is_the_end : (q : State) → is_end q ≡ true → q ≡ at_end
  is_the_end at_statement h = absurd (false≢true h)
  is_the_end at_semicolon h = absurd (false≢true h)
  is_the_end at_equals h = absurd (false≢true h)
  is_the_end at_pointer h = absurd (false≢true h)
  is_the_end (at_opener k) h = absurd (false≢true h)
  is_the_end (at_opened k) h = absurd (false≢true h)
  is_the_end (at_closer n) h = absurd (false≢true h)
  is_the_end (at_closed n) h = absurd (false≢true h)
  is_the_end (at_scalar c a) h = absurd (false≢true h)
  is_the_end (at_number c) h = absurd (false≢true h)
  is_the_end (at_member g) h = absurd (false≢true h)
  is_the_end at_row h = absurd (false≢true h)
  is_the_end at_next_row h = absurd (false≢true h)
  is_the_end (at_unit c op) h = absurd (false≢true h)
  is_the_end (at_power c op p) h = absurd (false≢true h)
  is_the_end (at_exponent c op p) h = absurd (false≢true h)
  is_the_end (at_factor c) h = absurd (false≢true h)
  is_the_end at_end h = refl

  reach_label : {es : List Placed} {q : State} {o : Opens} {rs : List Row} → Reach m strict at_statement outside es q o rs → is_end q ≡ true → Label m strict es rs
  reach_label {q = q} t x = simp append-nil at (whole m strict (sound_reach m strict (rw (is_the_end q x) at t) r_end))

  pub judged : {l : List ℕ} {z : Outcome} → Ran at_statement outside 0 l z → Judged m l z
  judged {l} (ran c t s) = go c t s
    where
      go : {j : ℕ} {r : List ℕ} {es : List Placed} {q : State} {o : Opens} {rs : List Row} {z : Outcome} → Cut m 0 l es j r →
          Reach m strict at_statement outside es q o rs → Stop m q o j r z → Judged m l (behind_rows rs z)
      go {rs = rs} c t (at_the_end x) = rw append-nil (follows c (reach_label t x))
      go c t (at_a_fault x g f) = misspelled c (reach_early t x) g f
      go c t (at_an_element x g s e) = misplaced c (reach_early t x) g s (refused_at m _ t e)
      go {j} {r} c t (at_no_more x g) = subst (λ (n : ℕ). Judged m l (refused 10 n)) (sym (zero-add (length l)) ∙ cut_length c) (ends_early c (reach_early t x) g)

  pub judge_sound : (l : List ℕ) → Judged m l (judge_label m l)
  judge_sound l = judged (gather (loop_sound (suc (length l)) at_statement outside 0 l (omega arith)))

  -- ---- the other way

  -- after END nothing can stand
  pub end_refuses : (o : Opens) (x : Placed) → step m strict at_end o x ≡ refuses 6
  end_refuses o (name n on p) = refl
  end_refuses o (the k on p) = refl
  end_refuses o (end b on p) = refl
  end_refuses o (integer w on p) = refl
  end_refuses o (based w on p) = refl
  end_refuses o (real w on p) = refl
  end_refuses o (moment t on p) = refl
  end_refuses o (range a b on p) = refl
  end_refuses o (text on p) = refl
  end_refuses o (symbol on p) = refl

  goes_not_end : (q : State) (o : Opens) (x : Placed) {q' : State} {o' : Opens} {rs : List Row} → step m strict q o x ≡ goes q' o' rs → is_end q ≡ false
  goes_not_end q o x e = go (is_end q) refl
    where
      go : (t : Bool) → is_end q ≡ t → is_end q ≡ false
      go true h = absurd (refuses_goes (sym (end_refuses o x) ∙ ap (λ (y : State). step m strict y o x) (sym (is_the_end q h)) ∙ e))
      go false h = h

  goes_along : {q q' : State} {o o' : Opens} {i j : ℕ} {l r : List ℕ} {es : List Placed} {rs : List Row} {z : Outcome} → Cut m i l es j r →
      Reach m strict q o es q' o' rs → Stop m q' o' j r z → Goes m q o i l (behind_rows rs z)
  goes_along {q} {o = o} {i = i} {l = l} {z = z} none_more here s = subst (Goes m q o i l) (sym (onto_nil z)) (now s)
  goes_along {q} {o = o} {i = i} {z = z} (next {l = l} g w x s c) (by_step {q' = q₁} {x = y} {r = r} {rs = rs} e t) st =
      subst (Goes m q o i (g ++ (w ++ l))) (onto_onto r rs z) (later (goes_not_end q o y e) x s e (goes_along {q = q₁} c t st))

  not_ended : {es : List Placed} {q : State} {o : Opens} {rs : List Row} → Early m es → Reach m strict at_statement outside es q o rs → is_end q ≡ false
  not_ended {q = q} {rs = rs} E t = go (is_end q) refl
    where
      go : (b : Bool) → is_end q ≡ b → is_end q ≡ false
      go true h = absurd (E.short rs (reach_label t h))
      go false h = h

  step_refuses : {es : List Placed} {q : State} {o : Opens} {rs : List Row} (x : Placed) {c : ℕ} → Refused m es x c → Reach m strict at_statement outside es q o rs →
      (a : Answer) → step m strict q o x ≡ a → step m strict q o x ≡ refuses c
  step_refuses x R t (refuses c) e = e ∙ ap refuses (same_code m (refused_at m x t e).code R.code)
  step_refuses x R t (goes q o r) e = absurd (R.fault (reach→viable m strict (reach_more m strict x t e)))

  pub judged_goes : {l : List ℕ} {z : Outcome} → Judged m l z → Goes m at_statement outside 0 l z
  judged_goes (follows c L) = simp append-nil at (goes_along c (complete m strict L) (at_the_end refl))
  judged_goes (misspelled {es = es} c E g f) =
      let t = viable→taken m (trace m strict at_statement outside es) E.until in
      goes_along c t.3 (at_a_fault (not_ended E t.3) g f)
  judged_goes (misplaced {i} {q = n} {es = es} {g = g'} {w = w} {e = e} c E g s R) =
      let t = viable→taken m (trace m strict at_statement outside es) E.until in
      goes_along c t.3 (at_an_element (not_ended E t.3) g s (step_refuses (placed i g' w e n) R t.3 (step m strict t.0 t.1 (placed i g' w e n)) refl))
  judged_goes {l} (ends_early {es = es} c E g) =
      let t = viable→taken m (trace m strict at_statement outside es) E.until in
      subst (λ (n : ℕ). Goes m at_statement outside 0 l (refused 10 n)) (sym (cut_length c) ∙ zero-add (length l)) (goes_along c t.3 (at_no_more (not_ended E t.3) g))

  pub judge_complete : {l : List ℕ} {z : Outcome} → Judged m l z → judge_label m l ≡ z
  judge_complete {l} j = loop_complete (judged_goes j) (suc (length l)) (omega arith)

  -- ---- the reading

  pub reads_sound : (l : List ℕ) → Reads m l (reader m l)
  reads_sound l = go (leb (length l) longest) refl
    where
      go : (t : Bool) → leb (length l) longest ≡ t → Reads m l (cond t (judge_label m l) (refused 1 longest))
      go true h = read (leb-true (length l) longest h) (judge_sound l)
      go false h = too_long (leb-false (length l) longest h)

  pub reads_complete : {l : List ℕ} {z : Outcome} → Reads m l z → reader m l ≡ z
  reads_complete {l} (too_long h) = rw (lt-leb (length l) longest h)
  reads_complete {l} (read h j) = rw (le-leb (length l) longest h) (judge_complete j)

  -- every label has an outcome, and one only
  pub reading_unique : {l : List ℕ} {z z' : Outcome} → Reads m l z → Reads m l z' → z ≡ z'
  reading_unique r r' = sym (reads_complete r) ∙ reads_complete r'

-- ---- the call

module _ (m : Mode) (l room : List ℕ) where
  pub answered : Answered m l room (answer m l room).said (answer m l room).room
  answered = go (reader m l) (reads_sound m l)
    where
      fit : (rows : List Row) (i : ℕ) → Reads m l (accepted rows i) → (t : Bool) → leb (length (table rows)) (length room) ≡ t →
          Answered m l room (roomy t room (table rows) i).said (roomy t room (table rows) i).room
      fit rows i r true h = stored r (leb-true (length (table rows)) (length room) h)
      fit rows i r false h = no_room r (leb-false (length (table rows)) (length room) h)

      go : (z : Outcome) → Reads m l z → Answered m l room (returned room z).said (returned room z).room
      go (accepted rows i) r = fit rows i r (leb (length (table rows)) (length room)) refl
      go (refused c i) r = not_read r

  answered_is : {s : Said} {room' : List ℕ} → Answered m l room s room' → answer m l room ≡ returns s room'
  answered_is (stored {rows} {i} r h) = ap (returned room) (reads_complete m r) ∙ rw (le-leb (length (table rows)) (length room) h)
  answered_is (no_room {rows} {i} r h) = ap (returned room) (reads_complete m r) ∙ rw (lt-leb (length (table rows)) (length room) h)
  answered_is (not_read r) = ap (returned room) (reads_complete m r)

  pub answered_unique : {s s' : Said} {room₁ room₂ : List ℕ} → Answered m l room s room₁ → Answered m l room s' room₂ → (s ≡ s') × (room₁ ≡ room₂)
  answered_unique a b =
      let e = sym (answered_is a) ∙ answered_is b in
      (ap (λ (x : Return). x.said) e, ap (λ (x : Return). x.room) e)
