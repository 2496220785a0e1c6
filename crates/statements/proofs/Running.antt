-- The loop over the elements: what holds between two of them, and what each way out makes of it.
use mathlib.Core.Path.{◌≡◌, refl, sym, ap, ◌∙◌, subst}
use lib.Dec.{leb}
use borrow.Author.Tests.{leb-true}
use Rattle.rules.proofs.Tables.Tests.{and_left}
use mathlib.Core.Bool.{Bool, true, false, ◌&&◌, false≢true}
use mathlib.Core.List.{List, [], ◌++◌, append-nil}
use Prim.Native.Nat.{ℕ, ◌+◌, ◌<◌, ◌≤◌}
use native.Mathlib.Omega.{arith}
use lib.ListN.{length, take, drop, length-append, length-drop, take-append-drop}
use lib.Seq.{take_at, take-take}
use Rattle.std.specs.Prelude.{Option, None, Some, Result, Ok, Err}
use Rattle.rules.specs.Data as rule
use Rattle.rules.specs.Modes.{base}
use Rattle.rules.specs.Grammar.{strict}
use Rattle.rules.specs.Elements.{placed}
use Rattle.rules.specs.Table.{table}
use Rattle.rules.specs.Reading.{longest, Outcome, accepted, refused, Judged}
use Rattle.rules.proofs.Machine.Statements as machine
use Rattle.rules.proofs.Machine.Elements as found
use Rattle.rules.proofs.Machine.Statements.{is_end}
use Rattle.rules.proofs.Machine.Labels.{behind_rows, Stop, at_the_end, at_a_fault, at_an_element, at_no_more, Goes, now, later}
use Rattle.rules.proofs.Tables.Walk.{table_append}
use Rattle.rules.proofs.Reading.Reader.{gather, judged, onto_nil, onto_onto}
use Rattle.classes.proofs.Parts.{part_length}
use Rattle.elements.specs.Faults.{code_of}
use Rattle.elements.specs.Next.{placed_of, place_of, NextAt, ElementNext, FaultNext}
use Rattle.elements.specs.declared.Element.{Element}
use Rattle.elements.specs.declared.Element.TheVariants.{Name}
use Rattle.elements.specs.declared.Broken.{Broken}
use Rattle.elements.specs.declared.Found.{Found}
use Rattle.rows.specs.declared.Row.{Row}
use Rattle.rows.specs.declared.Row.TheVariants as rows
use Rattle.statements.specs.Passes.{Refuses, Added, Sofar, AtStart, Reached, Passed, Refused, Concluded, OnePass}
use Rattle.steps.specs.States.{state_of}
use Rattle.steps.specs.Steps.{Given, number_of, row_given, rows_of, Does}
use Rattle.blocks.specs.Stack.{Block, blocks_of, opens_of}
use Rattle.blocks.proofs.Opened.{nothing_open}
use Rattle.statements.specs.Opened.{Sound}
use Rattle.statements.specs.declared.outcome.Accepted.{Accepted}
use Rattle.statements.specs.declared.outcome.Refusal as answers
use Rattle.statements.specs.declared.outcome.Refusal.TheVariants.{EndsEarly}
use Rattle.statements.specs.declared.cursor.Cursor.{Cursor}
use Rattle.statements.specs.declared.passes.Run.{Run}
use Rattle.steps.specs.declared.Awaited.TheVariants as await
use Rattle.steps.specs.declared.Misfit.{Misfit}
use Rattle.steps.specs.declared.State.{State}
use Rattle.steps.specs.declared.Stepped.{Stepped}
use Rattle.blocks.specs.declared.Blocks.{Blocks}
use Rattle.statements.proofs.Codes.{judged_code}
use Rattle.statements.proofs.Rooms.{behind}
use Rattle.statements.proofs.Turns.{Moves, turn_last, last_state, turn_stop, sound_start}

-- ---- one element of the rules' reading

steps_on : {q q' : machine.State} {o o' : rule.Opens} {i n j : ℕ} {l g w r : List ℕ} {x : rule.Elem} {rs : List rule.Row} {z : Outcome} → is_end q ≡ false →
    found.NextIs base l (found.comes x n g w r) → machine.step base strict q o (placed i g w x n) ≡ machine.goes q' o' rs → i + length g + length w ≡ j → Goes base q' o' j r z → Goes base q o i l (behind_rows rs z)
steps_on h (found.finds a b) e k t = later h a b e (rw (← k) at t)

halts_at : {q : machine.State} {o : rule.Opens} {i n c p : ℕ} {l g w r : List ℕ} {x : rule.Elem} → is_end q ≡ false →
    found.NextIs base l (found.comes x n g w r) → machine.step base strict q o (placed i g w x n) ≡ machine.refuses c → i + length g ≡ p → Goes base q o i l (refused c p)
halts_at h (found.finds a b) e k = rw (← k) (now (at_an_element h a b e))

faults_at : {q : machine.State} {o : rule.Opens} {i c p : ℕ} {l g : List ℕ} → is_end q ≡ false → found.NextIs base l (found.faulty c g) → i + length g ≡ p → Goes base q o i l (refused c p)
faults_at h (found.faults a b) k = rw (← k) (now (at_a_fault h a b))

ends_at : {q : machine.State} {o : rule.Opens} {i p : ℕ} {l : List ℕ} → is_end q ≡ false → found.NextIs base l found.none_left → i + length l ≡ p → Goes base q o i l (refused 10 p)
ends_at h (found.ends a) k = rw (← k) (now (at_no_more h a))

-- ---- the same of what `next` found

module _ {label : List ℕ} {q : machine.State} {o : rule.Opens} {at : ℕ} (h : is_end q ≡ false) where
  one_turn : {e : Element} {to : ℕ} {q' : machine.State} {o' : rule.Opens} {rs : List rule.Row} {z : Outcome} → ElementNext label at (e, to) →
      machine.step base strict q o (placed_of label e) ≡ machine.goes q' o' rs → Goes base q' o' to (drop to label) z → Goes base q o at (drop at label) (behind_rows rs z)
  one_turn {to = to} {q' = q'} {o' = o'} {rs = rs} x e g =
      steps_on h x.is (subst (λ (u : rule.Placed). machine.step base strict q o u ≡ machine.goes q' o' rs) x.placed e)
      (omega (arith, x.behind, x.onward, part_length label at x.at (omega (arith, x.onward, x.within)), part_length label x.at to x.within)) g

  refuse_turn : {e : Element} {to c : ℕ} → ElementNext label at (e, to) → machine.step base strict q o (placed_of label e) ≡ machine.refuses c → Goes base q o at (drop at label) (refused c (place_of e))
  refuse_turn {c = code} x e = halts_at h x.is (subst (λ (u : rule.Placed). machine.step base strict q o u ≡ machine.refuses code) x.placed e)
      (omega (arith, x.behind, x.place, part_length label at x.at (omega (arith, x.onward, x.within))))

  fault_turn : {f : Broken} → FaultNext label at f → Goes base q o at (drop at label) (refused (code_of f.0) f.1)
  fault_turn {f} x = faults_at h x.is (omega (arith, x.behind, part_length label at f.1 (omega (arith, x.within))))

end_turn : (label : List ℕ) {q : machine.State} {o : rule.Opens} (at : ℕ) → is_end q ≡ false → at ≤ length label → found.NextIs base (drop at label) found.none_left →
    Goes base q o at (drop at label) (refused 10 (length label))
end_turn label at h k n = ends_at h n (simp length-drop (omega arith))

-- ---- the invariant

-- the rows so far, whose bytes stand in the room as far as they fit
pub record Running (label before out : List ℕ) (t : State) (b : Blocks) (at n : ℕ) : Type 0 where
  pub rs : List rule.Row
  pub sofar : Sofar label rs t b at n
  pub sound : Sound t b
  pub going : is_end (state_of label t) ≡ false
  pub long : length out ≡ length before
  pub bytes : n ≤ length before → out ≡ table rs ++ drop n before

-- and a place behind from which a reading may go on
pub record Noting (label before out : List ℕ) (t : State) (b : Blocks) (at n : ℕ) (full : Cursor) : Type 0 where
  pub running : Running label before out t b at n
  pub reached : Reached label out full
  pub behind : full.n ≤ n

-- in the base mode the first statement may begin wherever another may
first_stop : {o : rule.Opens} {i : ℕ} {l : List ℕ} {z : Outcome} → Stop base machine.at_semicolon o i l z → Stop base machine.at_statement o i l z
first_stop (at_the_end x) = absurd (false≢true x)
first_stop (at_a_fault x g f) = at_a_fault refl g f
first_stop (at_an_element x g s e) = at_an_element refl g s e
first_stop (at_no_more x g) = at_no_more refl g

first_statement : {o : rule.Opens} {i : ℕ} {l : List ℕ} {z : Outcome} → Goes base machine.at_semicolon o i l z → Goes base machine.at_statement o i l z
first_statement (now s) = now (first_stop s)
first_statement (later x g s e t) = later refl g s e t

from_start : (label : List ℕ) (t : State) (bs : List Block) (z : Outcome) → t.awaited ≡ await.Statement → bs ≡ [] → Goes base (state_of label t) (opens_of label bs) 0 label z →
    Goes base machine.at_statement rule.outside 0 label (behind_rows [] z)
from_start label t bs z m b g = rw (onto_nil z) (first_statement (rw (m, b) at g))

pub begins : {c : Cursor} → AtStart c → (label room : List ℕ) → Reached label room c
begins {c} g label room = let d : c.blocks.depth ≡ 0 = ap (λ (b : Blocks). b.depth) g.blocks in record {
  rs = [];
  sofar = record {
    on = λ z x. from_start label c.state (blocks_of c.blocks) z (ap (λ (t : State). t.awaited) g.state)
        (nothing_open c.blocks.starts c.blocks.ends c.blocks.kinds c.blocks.depth d) (rw g.at at x);
    within = omega arith;
    count = g.n;
    small = omega arith;
  };
  sound = sound_start c.state c.blocks g.state d;
  going = rw g.state;
  fits = omega arith;
  bytes = rw g.n;
}

-- a reading may go on in another room that begins alike
pub elsewhere : {label room room' : List ℕ} {c : Cursor} → Reached label room c → c.n ≤ length room' → take c.n room' ≡ take c.n room → Reached label room' c
elsewhere s h q = record { rs = s.rs; sofar = s.sofar; sound = s.sound; going = s.going; fits = h; bytes = q ∙ s.bytes }

-- a pass goes on from where a reading stands
pub resumes : {label room : List ℕ} {c : Cursor} → Reached label room c → Noting label room room c.state c.blocks c.at c.n c
resumes {room = room} {c} s = record {
  running = record {
    rs = s.rs;
    sofar = s.sofar;
    sound = s.sound;
    going = s.going;
    long = refl;
    bytes = λ z. sym (take-append-drop c.n room) ∙ ap (λ (l : List ℕ). l ++ drop c.n room) s.bytes;
  };
  reached = s;
  behind = omega arith;
}

-- a place noted anew
pub noted : {label before out : List ℕ} {t : State} {b : Blocks} {at n : ℕ} {c : Cursor} → Running label before out t b at n → n ≤ length out →
    (c.state ≡ t) × (c.blocks ≡ b) × (c.at ≡ at) × (c.n ≡ n) → Noting label before out t b at n c
noted {before = before} {n = n} s h e = record {
  running = s;
  reached = record {
    rs = s.rs;
    sofar = rw (e.0, e.1, e.2, e.3) s.sofar;
    sound = rw (e.0, e.1) s.sound;
    going = rw e.0 s.going;
    fits = omega arith;
    bytes = rw e.3 (ap (take n) (s.bytes (omega (arith, s.long))) ∙ take_at (table s.rs) (drop n before) n (sym s.sofar.count));
  };
  behind = omega arith;
}

-- the place behind, noted in this turn or before
pub noted_here : {label before out : List ℕ} {t : State} {b : Blocks} {at n : ℕ} {c full : Cursor} (last : Bool) → Running label before out t b at n → (leb n (length out) && last) ≡ true →
    (c.state ≡ t) × (c.blocks ≡ b) × (c.at ≡ at) × (c.n ≡ n) → full ≡ c → Noting label before out t b at n full
noted_here last s h e q = rw q (noted s (leb-true _ _ (and_left _ _ h)) e)

pub noted_before : {label before out : List ℕ} {t : State} {b : Blocks} {at n : ℕ} {c full : Cursor} → Noting label before out t b at n c → full ≡ c → Noting label before out t b at n full
noted_before s q = rw q s

pub ahead : {label : List ℕ} {at to : ℕ} {e : Element} → ElementNext label at (e, to) → (at < to) × (to ≤ length label)
ahead x = (omega (arith, x.behind, x.onward), x.within)

abbrev upto_of : rule.Placed → ℕ
upto_of (rule.◌on◌ x p) = p.upto

-- a name lies within what two bytes can say
pub name_places : {label : List ℕ} {at to x y : ℕ} {e : Element} → ElementNext label at (e, to) → e ≡ Name x y → length label ≤ longest → (x < 65536) × (y < 65536)
name_places {label} {at} {to} {x} {y} n k s = go (subst (λ (v : Element). ElementNext label at (v, to)) k n)
  where
    go : ElementNext label at (Name x y, to) → (x < 65536) × (y < 65536)
    go n = (omega (arith, n.place, n.onward, n.within), omega (arith, n.behind, n.onward, n.within, ap upto_of n.placed, part_length label at n.at (omega (arith, n.onward, n.within)), part_length label n.at to n.within))

-- the room with what one element gives
stores : {label before out out' : List ℕ} {t : State} {b : Blocks} {at n n' : ℕ} (g : Given) (s : Running label before out t b at n) → Added (table (rows_of g)) n out out' n' →
    n' ≤ length before → out' ≡ table (s.rs ++ rows_of g) ++ drop n' before
stores {before = before} {out} {n = n} g s a z =
    a.bytes (omega (arith, a.next, s.long)) ∙
    rw (table_append s.rs (rows_of g), a.next) (behind (table s.rs) (table (rows_of g)) before out n s.sofar.count (s.bytes (omega (arith, a.next))))

-- rows are added behind what is there
pub still_reached : {label out out' w : List ℕ} {n n' : ℕ} {c : Cursor} → Reached label out c → c.n ≤ n → Added w n out out' n' → Reached label out' c
still_reached {out = out} {out'} {n = n} {c = c} s h a =
    elsewhere s (omega (arith, a.long, s.fits)) (sym (take-take c.n n out' h) ∙ ap (take c.n) a.front ∙ take-take c.n n out h)

module _ {label before out out' : List ℕ} {t : State} {b : Blocks} {at n n' to : ℕ} {e : Element} where
  -- one element more
  goes_on : (g : Given) {t' : State} {b' : Blocks} (s : Running label before out t b at n) → ElementNext label at (e, to) →
      machine.step base strict (state_of label t) (opens_of label (blocks_of b)) (placed_of label e) ≡ machine.goes (state_of label t') (opens_of label (blocks_of b')) (rows_of g) →
      Added (table (rows_of g)) n out out' n' → Sofar label (s.rs ++ rows_of g) t' b' to n'
  goes_on g s x m a =
      let f = s.sofar in
      let l = ahead x in
      record {
        on = λ z j. subst (λ (y : Outcome). Goes base machine.at_statement rule.outside 0 label y) (onto_onto s.rs (rows_of g) z) (f.on (behind_rows (rows_of g) z) (one_turn s.going x m j));
        within = l.1;
        count = a.next ∙ rw (table_append s.rs (rows_of g), length-append, f.count);
        small = omega (arith, a.next, a.small, f.small, l.0);
      }

  pub again : {g : Given} {t' : State} {b' : Blocks} {c : Cursor} → Noting label before out t b at n c → ElementNext label at (e, to) → Moves label t b e g t' b' →
      Added (table (rows_of g)) n out out' n' → Noting label before out' t' b' to n' c
  again {g} s x m a = record {
    running = record {
      rs = s.running.rs ++ rows_of g;
      sofar = goes_on g s.running x m.moves a;
      sound = m.sound;
      going = m.going;
      long = a.long ∙ s.running.long;
      bytes = stores g s.running a;
    };
    reached = still_reached s.reached s.behind a;
    behind = omega (arith, s.behind, a.next);
  }

-- ---- the ways out

judge : {label : List ℕ} {z : Outcome} → Goes base machine.at_statement rule.outside 0 label z → Judged base label z
judge g = judged base (gather base g)

refuses : {label : List ℕ} {c p : ℕ} {r : answers.Refusal} → Goes base machine.at_statement rule.outside 0 label (refused c p) → Refuses c p r → Refused label r
refuses g d = let j = judge g in let k = judged_code j in record { code = _; place = _; judged = j; from = k.0; is = d.is k.0 k.1 }

-- where no element comes, nothing is left but a gap
pub none_there : (label : List ℕ) (at : ℕ) (o : Option Found) → NextAt label at (Ok o) → ((f : Found) → o ≡ Some f → ⊥) → found.NextIs base (drop at label) found.none_left
none_there label at None x h = x
none_there label at (Some f) x h = absurd (h f refl)

module _ {label before out : List ℕ} {t : State} {b : Blocks} {at n : ℕ} where
  pub early : Running label before out t b at n → found.NextIs base (drop at label) found.none_left → Refused label (EndsEarly (length label))
  early s x = refuses (s.sofar.on (refused 10 (length label)) (end_turn label at s.going s.sofar.within x)) (record { is = λ y z. refl })

  pub faulty : {f : Broken} {r : answers.Refusal} → Running label before out t b at n → FaultNext label at f → Refuses (code_of f.0) f.1 r → Refused label r
  faulty {f} s x d = refuses (s.sofar.on (refused (code_of f.0) f.1) (fault_turn s.going x)) d

  pub refused_there : {e : Element} {to p : ℕ} {w : Result Stepped Misfit} {m : Misfit} {r : answers.Refusal} → Running label before out t b at n → ElementNext label at (e, to) →
      Does label t (state_of label t) e w → w ≡ Err m → p ≡ place_of e → Refuses (number_of m) p r → Refused label r
  refused_there {e} {m = m} s x y k i d = refuses (rw i (s.sofar.on (refused (number_of m) (place_of e)) (refuse_turn s.going x (turn_stop y s.sound k)))) d

  pub accepted_there : {e : Element} {to a n' : ℕ} {w : Stepped} {v : Row} {out' : List ℕ} → Running label before out t b at n → ElementNext label at (e, to) →
      Does label t (state_of label t) e (Ok w) → w.row ≡ Some v → v ≡ rows.Last a → Added (table (rows_of (row_given w.row))) n out out' n' → Passed label before out' (record { place = to; length = n' })
  accepted_there {e} {to} {n' = n'} {w = w} s x m g k d =
      let y : Sofar label (s.rs ++ rows_of (row_given w.row)) w.state b to n' = goes_on (row_given w.row) s x (turn_last m s.sound g k) d in
      record {
        rows = s.rs ++ rows_of (row_given w.row);
        judged = judge (rw (append-nil (s.rs ++ rows_of (row_given w.row))) at (y.on (accepted [] to) (now (at_the_end (last_state m g k)))));
        count = y.count;
        bytes = stores (row_given w.row) s d;
      }

-- what a pass hands back
pub hands_back : {label before out : List ℕ} {x : Result Accepted answers.Refusal} {c : Cursor} {r : Run} → (r.answer ≡ x) × (r.full ≡ c) → Concluded label before out x → Reached label out c →
    OnePass label before out r
hands_back e p s = record { concluded = rw e.0 p; full = rw e.1 s }
