-- Reassembly by the rules and `reassemble` are the same; what is reassembled is a text, and reassembling it again changes nothing.
use Prim.Native.Nat.{ℕ, zero, suc, ◌<◌}
use mathlib.Core.Bool.{Bool, true, false, cond, ◌&&◌, ◌||◌, false≢true}
use mathlib.Core.Logic.{◌↔◌}
use mathlib.Core.Path.{◌≡◌, refl, sym, ap, subst, ◌∙◌}
use mathlib.Core.List.{List, [], ◌∷◌, ◌++◌}
use native.Mathlib.Omega.{arith}
use borrow.Author.Tests.{eqb-true}
use lib.Dec.{eqb}
use lib.ListN.{length, length-append}
use Rattle.rules.specs.Bytes.{spacing, line_end, front, Run, stops, goes_on}
use Rattle.rules.specs.Elements.{is_blank}
use Rattle.rules.specs.Meaning.{keep, in_blanks, broken, Joined, no_more, vanish, one_space, run_stays, byte_stays, Reassembled, breaks, join, reassemble}
use Rattle.rules.specs.Proper.{TextBody}
use Rattle.rules.proofs.Tables.Contents.{text_body}
use Rattle.rules.proofs.Written.Texts.{reassemble_idempotent, reassemble_text}
use Rattle.rules.proofs.Tables.Tests.{and_left, and_right, or_left, or_right, or_second}

-- ---- runs, as the function passes them

run_blank : {b : ℕ} {g r : List ℕ} → Run in_blanks (b ∷ g) r → is_blank b ≡ true
run_blank (goes_on h t) = h

past_stop : (r : List ℕ) → in_blanks r ≡ false → join true r ≡ join false r
unfolding join
past_stop [] h = refl
past_stop (b ∷ r) h = rw h

-- a run that has been dealt with is passed over
join_past : {g r : List ℕ} → Run in_blanks g r → join true (g ++ r) ≡ join false r
unfolding join
join_past (stops {r = r} h) = past_stop r h
join_past (goes_on h t) = rw h (join_past t)

no_break : (r : List ℕ) → in_blanks r ≡ false → breaks r ≡ false
unfolding breaks
no_break [] h = refl
no_break (b ∷ r) h = rw (or_left (spacing b) (line_end b) h, or_right (spacing b) (line_end b) h)

either_way : (l s p q : Bool) → (s || l) ≡ true → p ≡ q → (l || (s && p)) ≡ (l || q)
either_way true s p q h e = refl
either_way false true p q h e = e
either_way false false p q h e = absurd (false≢true h)

-- whether the run at the front holds a line end
breaks_run : {g r : List ℕ} → Run in_blanks g r → breaks (g ++ r) ≡ broken g
unfolding breaks broken
breaks_run (stops {r = r} h) = no_break r h
breaks_run (goes_on {b} {a} {r} h t) = either_way (line_end b) (spacing b) (breaks (a ++ r)) (broken a) h (breaks_run t)

broken_rest : (b : ℕ) (g : List ℕ) → broken (b ∷ g) ≡ false → broken g ≡ false
unfolding broken
broken_rest b g h = or_right (line_end b) (broken g) h

-- a run without a line end stays
join_stays : {g r : List ℕ} → Run in_blanks g r → broken g ≡ false → join false (g ++ r) ≡ g ++ join false r
unfolding join
join_stays (stops h) k = refl
join_stays (goes_on {b} {a} {r} h t) k =
    rw (h, breaks_run (goes_on {b = b} {a = a} h t) ∙ k) (ap (λ (l : List ℕ). b ∷ l) (join_stays t (broken_rest b a k)))

-- ---- what the rules allow, the function gives

dealt : (b : ℕ) (g r : List ℕ) → Run in_blanks (b ∷ g) r → join true (g ++ r) ≡ join false r
dealt b g r (goes_on h t) = join_past t

joined_once : {s t : List ℕ} → Joined s t → join false s ≡ t
unfolding join
joined_once no_more = refl
joined_once (vanish {b} {run = g} {r = r} w h j) =
    ap (λ (c : Bool). cond c (join true (b ∷ (g ++ r))) (45 ∷ join false (b ∷ (g ++ r)))) h ∙ join_past w ∙ joined_once j
joined_once (one_space {b} {run = g} {r = r} w k j) = rw (run_blank w, breaks_run w ∙ k) (ap (λ (l : List ℕ). 32 ∷ l) (dealt b g r w ∙ joined_once j))
joined_once (run_stays {b} {run = g} w k j) = join_stays w k ∙ ap (λ (l : List ℕ). b ∷ (g ++ l)) (joined_once j)
joined_once (byte_stays {b} h k j) = rw (h, k) (ap (λ (l : List ℕ). b ∷ l) (joined_once j))

-- ---- and it always gives something

-- the run at the front of some bytes
record RunAt (l : List ℕ) : Type 0 where
  run : List ℕ
  rest : List ℕ
  split : l ≡ run ++ rest
  longest : Run in_blanks run rest

run_at : (l : List ℕ) → RunAt l
run_at [] = record { run = []; rest = []; split = refl; longest = stops refl }
run_at (b ∷ l) = go (run_at l) (is_blank b) refl
  where
    go : RunAt l → (c : Bool) → is_blank b ≡ c → RunAt (b ∷ l)
    go w true h = record { run = b ∷ w.run; rest = w.rest; split = ap (λ (s : List ℕ). b ∷ s) w.split; longest = goes_on h w.longest }
    go w false h = record { run = []; rest = b ∷ l; split = refl; longest = stops h }

abbrev Some : List ℕ → Type 0
Some s = (t : List ℕ) × Joined s t

shorter : {l : List ℕ} (w : RunAt l) → length w.rest < suc (length l)
shorter w = omega (arith, ap length w.split, length-append w.run w.rest)

blank_some : (b : ℕ) (l : List ℕ) → is_blank b ≡ true → (w : RunAt l) → Some w.rest → Some (b ∷ l)
blank_some b l h w j = subst (λ (s : List ℕ). Some (b ∷ s)) (sym w.split) (go (broken (b ∷ w.run)) refl)
  where
    go : (c : Bool) → broken (b ∷ w.run) ≡ c → Some (b ∷ (w.run ++ w.rest))
    go true k = (32 ∷ j.0, one_space (goes_on h w.longest) k j.1)
    go false k = (b ∷ (w.run ++ j.0), run_stays (goes_on h w.longest) k j.1)

hyphen_some : (c : ℕ) (l : List ℕ) → line_end c ≡ true → (w : RunAt l) → Some w.rest → Some (45 ∷ c ∷ l)
hyphen_some c l h w j =
    subst (λ (s : List ℕ). Some (45 ∷ c ∷ s)) (sym w.split) (j.0, vanish (goes_on (or_second (spacing c) (line_end c) h) w.longest) h j.1)

joined_some : (k : ℕ) (s : List ℕ) → length s < k → Some s
joined_some zero s h = absurd (omega arith)
joined_some (suc k) [] h = ([], no_more)
joined_some (suc k) (b ∷ s) h = go (λ u l. joined_some k u l) (is_blank b) refl
  where
    other : ((u : List ℕ) → length u < k → Some u) → is_blank b ≡ false → (l : List ℕ) → length l < k → (c : Bool) → (eqb b 45 && front line_end l) ≡ c → Some (b ∷ l)
    other ih e l m false f = let j = ih l m in (b ∷ j.0, byte_stays e f j.1)
    other ih e [] m true f = absurd (false≢true (and_right (eqb b 45) false f))
    other ih e (c ∷ l) m true f =
        let w = run_at l in
        subst (λ (x : ℕ). Some (x ∷ c ∷ l)) (sym (eqb-true b 45 (and_left (eqb b 45) (line_end c) f)))
        (hyphen_some c l (and_right (eqb b 45) (line_end c) f) w (ih w.rest (omega (arith, shorter w))))

    go : ((u : List ℕ) → length u < k → Some u) → (c : Bool) → is_blank b ≡ c → Some (b ∷ s)
    go ih true e = let w = run_at s in blank_some b s e w (ih w.rest (omega (arith, shorter w)))
    go ih false e = other ih e s (omega arith) (eqb b 45 && front line_end s) refl

joined : (s : List ℕ) → Joined s (join false s)
joined s = let j = joined_some (suc (length s)) s (omega arith) in subst (Joined s) (sym (joined_once j.1)) j.1

pub reassembled : (s t : List ℕ) → Reassembled s t ↔ (reassemble s ≡ t)
unfolding reassemble
reassembled s t = (joined_once, λ e. subst (Joined (keep s)) e (joined (keep s)))

pub reassembled_again : (s t : List ℕ) → Reassembled s t → Reassembled t t
reassembled_again s t h =
    let e = (reassembled s t).0 h in
    (reassembled t t).1 (ap reassemble (sym e) ∙ reassemble_idempotent s ∙ e)

pub reassembled_text : (s t : List ℕ) → TextBody s → Reassembled s t → TextBody t
reassembled_text s t h r = subst TextBody ((reassembled s t).0 r) ((text_body (reassemble s)).1 (reassemble_text s ((text_body s).0 h)))
