-- Layout means nothing: two labels with the same elements, byte for byte, are read alike, in every mode.
use Prim.Native.Nat.{ℕ, ◌+◌, ◌-◌, ◌≤◌, ◌<◌}
use native.Mathlib.Omega.{arith}
use mathlib.Core.Bool.{Bool, false, true≢false}
use mathlib.Core.Path.{◌≡◌, refl, sym, ap, subst, subst₂, ◌∙◌}
use mathlib.Core.List.{List, [], ◌∷◌, ◌++◌, append_assoc}
use lib.ListN.{length, length-append}
use Rattle.rules.specs.Data.{Elem, end, Row, Opens, outside}
use Rattle.rules.specs.Modes.{Mode}
use Rattle.rules.specs.Grammar.{strict}
use Rattle.rules.specs.Elements.{Gap, Spells, placed}
use Rattle.rules.specs.Table.{table}
use Rattle.rules.specs.Proper.{stretch, proper_rows, Ruled}
use Rattle.rules.specs.Reading.{Outcome, accepted, refused, Judged, longest, Reads, too_long, read, Said, says, Answered, stored, no_room, not_read}
use Rattle.rules.specs.SameElements.{is_end_word, Through, Listed, to_the_end, through_end, and_then, SameElements, the_first, further, the_only, behind, AlikeRead, both_accepted, both_refused, both_at_the_end, Ample, AlikeSaid, both_stored, both_not_read, both_ended}
use Rattle.rules.proofs.Machine.Statements.{State, at_statement, Answer, step, is_end}
use Rattle.rules.proofs.Reading.StepTwice.{ending, SameBytes, SameRows, append, Like, plain, Answers, both_refuse, both_goes, step_both}
use Rattle.rules.proofs.Reading.ElementTwice.{other_than_end, Both, both_spelled, both_faulty, both, spells_end}
use Rattle.rules.proofs.Machine.Labels.{behind_rows, at_the_end, at_a_fault, at_an_element, at_no_more, Goes, now, later}
use Rattle.rules.proofs.Reading.Reader.{gather, judged, judge_complete}
use Rattle.rules.proofs.Rooms.{refusal_some}
use Rattle.rules.proofs.Tables.OwnTable.{read_ruled}
use Rattle.rules.proofs.Reading.EndWord.{end_word_size}
use Rattle.rules.proofs.Reading.Stretches.{Bare, bare, stretch_is}

-- the bytes from an offset
pub record FromOffset (l : List ℕ) (i : ℕ) (r : List ℕ) : Type 0 where
  pub before : List ℕ
  pub is : l ≡ before ++ r
  pub size : i ≡ length before

-- from the start
pub from_start : (l : List ℕ) → FromOffset l 0 l
from_start l = record { before = []; is = refl; size = refl }

-- behind a gap and an element
pub onward : {l : List ℕ} {i : ℕ} (g w r : List ℕ) → FromOffset l i (g ++ (w ++ r)) → FromOffset l (i + length g + length w) r
onward g w r f =
    record {
      before = f.before ++ (g ++ w);
      is = simp append_assoc f.is;
      size = omega (arith, f.size, length-append f.before (g ++ w), length-append g w);
    }

at_last : {l : List ℕ} {i : ℕ} {r : List ℕ} → FromOffset l i r → i + length r ≡ length l
at_last {l} {i} {r} f = let e : length l ≡ length f.before + length r = ap length f.is ∙ length-append f.before r in omega (arith, f.size, e)

-- what a call gives, where the room is ample
data Gives (l : List ℕ) : Outcome → Said → List ℕ → Type 0 where
  a_table : (rows : List Row) (rest : List ℕ) {i : ℕ} → Ruled l (table rows) (proper_rows rows) → Gives l (accepted rows i) (says 0 i (length (table rows))) (table rows ++ rest)
  no_table : {c i : ℕ} {room : List ℕ} → 0 < c → Gives l (refused c i) (says c i 0) room

given : {m : Mode} {l room after : List ℕ} {s : Said} → Ample m l room → Answered m l room s after → (z : Outcome) × Reads m l z × Gives l z s after
given {m} {l} k (stored {rows} {i} r h) = (accepted rows i, r, a_table rows _ (read_ruled m l r))
given k (no_room {rows} {i} r h) = absurd (omega (arith, k rows i r))
given k (not_read {c} {i} r) = (refused c i, r, no_table (refusal_some r))

module _ (m : Mode) (l l' : List ℕ) where
  -- both labels from two offsets, in two states
  record Read (q q' : State) (o : Opens) (i i' : ℕ) (r r' ps ps' : List ℕ) : Type 0 where
    outcome : Outcome
    outcome' : Outcome
    run : Goes m q o i r outcome
    run' : Goes m q' o i' r' outcome'
    alike : AlikeRead l l' ps ps' outcome outcome'

  -- both labels behind one element each, at these places
  record Onward (p p' : ℕ) (q q' : State) (o : Opens) (i i' : ℕ) (r r' ps ps' : List ℕ) : Type 0 where
    outcome : Outcome
    outcome' : Outcome
    run : Goes m q o i r outcome
    run' : Goes m q' o i' r' outcome'
    alike : {rs rs' : List Row} → SameRows l l' rs rs' → AlikeRead l l' (p ∷ ps) (p' ∷ ps') (behind_rows rs outcome) (behind_rows rs' outcome')

  -- one element more before
  longer : {rs rs' : List Row} {ps ps' : List ℕ} (p p' : ℕ) {z z' : Outcome} → AlikeRead l l' ps ps' z z' → SameRows l l' rs rs' → AlikeRead l l' (p ∷ ps) (p' ∷ ps') (behind_rows rs z) (behind_rows rs' z')
  longer p p' (both_accepted x y s) h = let k = append l l' h (record { meant = x; sized = y }) in both_accepted k.meant k.sized (behind s)
  longer p p' (both_refused s) h = both_refused (further s)
  longer p p' both_at_the_end h = both_at_the_end

  more : {q q' : State} {o : Opens} {i i' : ℕ} {r r' ps ps' : List ℕ} (p p' : ℕ) → Read q q' o i i' r r' ps ps' → Onward p p' q q' o i i' r r' ps ps'
  more p p' z = record { outcome = z.outcome; outcome' = z.outcome'; run = z.run; run' = z.run'; alike = longer p p' z.alike }

  -- the element's spans hold the same bytes
  held : {i i' : ℕ} (g g' w r r' : List ℕ) (e : Elem) (q : ℕ) → FromOffset l i (g ++ (w ++ r)) → FromOffset l' i' (g' ++ (w ++ r')) → Bare m w e q →
      SameBytes l l' (record { from = i + length g + q; upto = i + length g + length w - q }) (record { from = i' + length g' + q; upto = i' + length g' + length w - q })
  held {i} {i'} g g' w r r' e q f f' b =
      ap (λ (x : List ℕ). stretch x (record { from = i + length g + q; upto = i + length g + length w - q })) f.is
      ∙ stretch_is m f.before g w r e q i f.size b
      ∙ sym (stretch_is m f'.before g' w r' e q i' f'.size b)
      ∙ sym (ap (λ (x : List ℕ). stretch x (record { from = i' + length g' + q; upto = i' + length g' + length w - q })) f'.is)

  -- one element, and what is read behind it
  element : {q q' : State} {o : Opens} {i i' n : ℕ} {g g' w r r' : List ℕ} {e : Elem} {ps ps' : List ℕ} → Like l l' q q' → is_end q ≡ false → is_end q' ≡ false →
      FromOffset l i (g ++ (w ++ r)) → FromOffset l' i' (g' ++ (w ++ r')) → Gap m g (w ++ r) → Gap m g' (w ++ r') → Spells m w e n r → Spells m w e n r' →
      ((q₁ q₁' : State) (o₁ : Opens) → Like l l' q₁ q₁' → is_end q₁ ≡ ending e → is_end q₁' ≡ ending e →
      Onward (i + length g) (i' + length g') q₁ q₁' o₁ (i + length g + length w) (i' + length g' + length w) r r' ps ps') →
      Read q q' o i i' (g ++ (w ++ r)) (g' ++ (w ++ r')) ((i + length g) ∷ ps) ((i' + length g') ∷ ps')
  element {q} {q'} {o} {i} {i'} {n} {g} {g'} {w} {r} {r'} {e} {ps} {ps'} k x x' f f' gap gap' s s' ih =
      go (step m strict q o (placed i g w e n)) (step m strict q' o (placed i' g' w e n)) refl refl (step_both l l' m k o e _ _ (held g g' w r r' e n f f' (bare s)))
    where
      go : (a a' : Answer) → step m strict q o (placed i g w e n) ≡ a → step m strict q' o (placed i' g' w e n) ≡ a' → Answers l l' (ending e) a a' →
          Read q q' o i i' (g ++ (w ++ r)) (g' ++ (w ++ r')) ((i + length g) ∷ ps) ((i' + length g') ∷ ps')
      go a a' h h' (both_refuse {c}) =
          record {
            outcome = refused c (i + length g);
            outcome' = refused c (i' + length g');
            run = now (at_an_element x gap s h);
            run' = now (at_an_element x' gap' s' h');
            alike = both_refused the_first;
          }
      go a a' h h' (both_goes {q = q₁} {q' = q₁'} {o = o₁} {rs = rs} {rs' = rs'} y t t' rows) =
          let z = ih q₁ q₁' o₁ y t t' in
          record {
            outcome = behind_rows rs z.outcome;
            outcome' = behind_rows rs' z.outcome';
            run = later x gap s h z.run;
            run' = later x' gap' s' h' z.run';
            alike = z.alike rows;
          }

  -- one element other than END, or the same fault in both
  other : {q q' : State} {o : Opens} {i i' : ℕ} {g g' w r r' ps ps' : List ℕ} → Like l l' q q' → is_end q ≡ false → is_end q' ≡ false →
      FromOffset l i (g ++ (w ++ r)) → FromOffset l' i' (g' ++ (w ++ r')) → Gap m g (w ++ r) → Gap m g' (w ++ r') → is_end_word w ≡ false → Both m w r r' →
      ((q₁ q₁' : State) (o₁ : Opens) → Like l l' q₁ q₁' → is_end q₁ ≡ false → is_end q₁' ≡ false → Read q₁ q₁' o₁ (i + length g + length w) (i' + length g' + length w) r r' ps ps') →
      Read q q' o i i' (g ++ (w ++ r)) (g' ++ (w ++ r')) ((i + length g) ∷ ps) ((i' + length g') ∷ ps')
  other k x x' f f' gap gap' h (both_spelled s s') ih =
      let e = other_than_end s h in
      element k x x' f f' gap gap' s s' (λ q₁ q₁' o₁ y t t'. more _ _ (ih q₁ q₁' o₁ y (t ∙ e) (t' ∙ e)))
  other {i = i} {i' = i'} {g = g} {g' = g'} k x x' f f' gap gap' h (both_faulty {c} u u' n) ih =
      record {
        outcome = refused c (i + length g);
        outcome' = refused c (i' + length g');
        run = now (at_a_fault x gap u);
        run' = now (at_a_fault x' gap' u');
        alike = both_refused the_first;
      }

  -- END, set off in both or in neither: the place past it is three bytes on
  accepted_past : {p p' n : ℕ} {rs rs' : List Row} → n ≡ 3 → SameRows l l' rs rs' → AlikeRead l l' (p ∷ []) (p' ∷ []) (behind_rows rs (accepted [] (p + n))) (behind_rows rs' (accepted [] (p' + n)))
  accepted_past e h = let k = append l l' h (record { meant = refl; sized = refl }) in rw e (both_accepted k.meant k.sized the_only)

  the_end_word : {q q' : State} {o : Opens} {i i' : ℕ} {g g' w r r' : List ℕ} {off : Bool} → Like l l' q q' → is_end q ≡ false → is_end q' ≡ false →
      FromOffset l i (g ++ (w ++ r)) → FromOffset l' i' (g' ++ (w ++ r')) → Gap m g (w ++ r) → Gap m g' (w ++ r') → Spells m w (end off) 0 r → Spells m w (end off) 0 r' → length w ≡ 3 →
      Read q q' o i i' (g ++ (w ++ r)) (g' ++ (w ++ r')) ((i + length g) ∷ []) ((i' + length g') ∷ [])
  the_end_word k x x' f f' gap gap' s s' n =
      element k x x' f f' gap gap' s s'
      (λ q₁ q₁' o₁ y t t'. record { outcome = accepted [] _; outcome' = accepted [] _; run = now (at_the_end t); run' = now (at_the_end t'); alike = accepted_past n })

  -- both labels from two offsets, with the same elements left
  same : {q q' : State} {o : Opens} {i i' : ℕ} {r r' ps ps' : List ℕ} {ws : List (List ℕ)} {t : Through} → Like l l' q q' → is_end q ≡ false → is_end q' ≡ false →
      FromOffset l i r → FromOffset l' i' r' → Listed m i r ws ps t → Listed m i' r' ws ps' t → Read q q' o i i' r r' ps ps'
  same {i = i} {i' = i'} {r = r} {r' = r'} k x x' f f' (to_the_end g) (to_the_end g') =
      record {
        outcome = refused 10 (i + length r);
        outcome' = refused 10 (i' + length r');
        run = now (at_no_more x g);
        run' = now (at_no_more x' g');
        alike = subst₂ (λ (a b : ℕ). AlikeRead l l' [] [] (refused 10 a) (refused 10 b)) (sym (at_last f)) (sym (at_last f')) both_at_the_end;
      }
  same k x x' f f' (through_end {w = w} {r = r} g s h e) (through_end {r = r'} g' s' h' e') =
      the_end_word k x x' f f' g g'
      (subst (λ (b : Bool). Spells m w (end b) 0 r) e (spells_end s h))
      (subst (λ (b : Bool). Spells m w (end b) 0 r') e' (spells_end s' h'))
      (end_word_size w h)
  same k x x' f f' (through_end g s h e) (and_then g' s' h' t') = absurd (true≢false (sym h ∙ h'))
  same k x x' f f' (and_then g s h t) (through_end g' s' h' e') = absurd (true≢false (sym h' ∙ h))
  same k x x' f f' (and_then {g = g} {w = w} {l = r} gap s h t) (and_then {g = g'} {l = r'} gap' s' h' t') =
      other k x x' f f' gap gap' h (both s s' h) (λ q₁ q₁' o₁ y u u'. same {q = q₁} y u u' (onward g w r f) (onward g' w r' f') t t')

  -- ---- the theorem: of the rules

  module _ {ps ps' : List ℕ} (a : SameElements m l l' ps ps') where
    start : Read at_statement at_statement outside 0 0 l l' ps ps'
    start = same (plain at_statement tt) refl refl (from_start l) (from_start l') a.in_one a.in_other

    -- of labels of any length
    pub alike_judged : {z z' : Outcome} → Judged m l z → Judged m l' z' → AlikeRead l l' ps ps' z z'
    alike_judged j j' =
        let r = start in
        subst₂ (AlikeRead l l' ps ps')
        (sym (judge_complete m (judged m (gather m r.run))) ∙ judge_complete m j)
        (sym (judge_complete m (judged m (gather m r.run'))) ∙ judge_complete m j')
        r.alike

    -- of the readings, when each label is at most 65,535 bytes
    pub alike_read : {z z' : Outcome} → length l ≤ longest → length l' ≤ longest → Reads m l z → Reads m l' z' → AlikeRead l l' ps ps' z z'
    alike_read h h' (too_long k) r' = absurd (omega arith)
    alike_read h h' (read k j) (too_long k') = absurd (omega arith)
    alike_read h h' (read k j) (read k' j') = alike_judged j j'

    combined : {z z' : Outcome} {s s' : Said} {after after' : List ℕ} → AlikeRead l l' ps ps' z z' → Gives l z s after → Gives l' z' s' after' → AlikeSaid l l' ps ps' s after s' after'
    combined (both_accepted x y p) (a_table rows rest v) (a_table rows' rest' v') = both_stored rest rest' v v' x y p
    combined (both_refused p) (no_table n) (no_table n') = both_not_read n p
    combined both_at_the_end (no_table n) (no_table n') = both_ended n

    -- of the calls, when the room is ample
    pub alike_said : {s s' : Said} {room room' after after' : List ℕ} → length l ≤ longest → length l' ≤ longest → Ample m l room → Ample m l' room' →
        Answered m l room s after → Answered m l' room' s' after' → AlikeSaid l l' ps ps' s after s' after'
    alike_said h h' k k' x x' =
        let y = given k x in
        let y' = given k' x' in
        combined (alike_read h h' y.1 y'.1) y.2 y'.2
