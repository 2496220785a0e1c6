-- Reassembly: it keeps what a text may hold, and does nothing to its own results.
use Prim.Native.Nat.{ℕ}
use mathlib.Core.Path.{◌≡◌, refl}
use mathlib.Core.Bool.{Bool, true, false, not, ◌&&◌, and-false}
use mathlib.Core.List.{List, [], ◌∷◌}
use lib.Dec.{ltb, eqb}
use Rattle.rules.specs.Bytes.{spacing, line_end, front}
use Rattle.rules.specs.Elements.{is_blank}
use Rattle.rules.specs.Values.{each}
use Rattle.rules.specs.Proper.{Each, none, one}
use Rattle.rules.specs.Meaning.{kept, keep, breaks, join, reassemble}
use Rattle.rules.proofs.Machine.Checks.{is_text}
use Rattle.rules.proofs.Tables.Tests.{cond-case, cond_same, and_true, and_left, and_right, or_left, or_right, not_as, as_not, passes_each, each_map}

-- what holds of every byte that is no line end, and of a space, holds of what is joined
pub join_all : (p : ℕ → Bool) → p 32 ≡ true → (d : Bool) (s : List ℕ) → Each (λ b. line_end b ≡ false → p b ≡ true) s → each p (join d s) ≡ true
unfolding join breaks
join_all p h d [] hs = refl
join_all p h d (b ∷ s) (one hb hs) =
    let G : List ℕ → Type 0 = λ l. each p l ≡ true in
    cond-case G (is_blank b) _ _
    (λ e. cond-case G d _ _ (λ f. join_all p h true s hs)
    (λ f. cond-case G (breaks (b ∷ s)) _ _ (λ g. and_true h (join_all p h true s hs))
    (λ g. and_true (hb (or_left (line_end b) (spacing b && breaks s) g)) (join_all p h false s hs))))
    (λ e. cond-case G (eqb b 45 && front line_end s) _ _ (λ f. join_all p h true s hs)
    (λ f. and_true (hb (or_right (spacing b) (line_end b) e)) (join_all p h false s hs)))

-- ---- a text without line ends stays

abbrev calm : ℕ → Bool
calm b = not (line_end b)

calm_breaks : (t : List ℕ) → each calm t ≡ true → breaks t ≡ false
unfolding breaks
calm_breaks [] h = refl
calm_breaks (b ∷ t) h = rw (as_not (line_end b) (and_left (calm b) (each calm t) h), calm_breaks t (and_right (calm b) (each calm t) h)) (and-false (spacing b))

calm_first : (t : List ℕ) → each calm t ≡ true → front line_end t ≡ false
calm_first [] h = refl
calm_first (b ∷ t) h = as_not (line_end b) (and_left (calm b) (each calm t) h)

join_calm : (t : List ℕ) → each calm t ≡ true → join false t ≡ t
unfolding join
join_calm [] h = refl
join_calm (b ∷ t) h =
    let k : each calm t ≡ true = and_right (calm b) (each calm t) h in
    rw (calm_breaks (b ∷ t) h, calm_first t k, and-false, join_calm t k) (cond_same (is_blank b) (b ∷ t))

keep_kept : (t : List ℕ) → each kept t ≡ true → keep t ≡ t
unfolding keep
keep_kept [] h = refl
keep_kept (b ∷ t) h = rw (and_left (kept b) (each kept t) h, keep_kept t (and_right (kept b) (each kept t) h))

keep_each : (P : ℕ → Type 0) (s : List ℕ) → Each P s → Each (λ b. P b × (kept b ≡ true)) (keep s)
unfolding keep
keep_each P [] h = none
keep_each P (b ∷ s) (one h hs) =
    cond-case (Each (λ b. P b × (kept b ≡ true))) (kept b) _ _ (λ e. one (h, e) (keep_each P s hs)) (λ e. keep_each P s hs)

each_trivial : (s : List ℕ) → Each (λ b. Unit {0}) s
each_trivial [] = none
each_trivial (b ∷ s) = one tt (each_trivial s)

-- ---- the two facts

pub reassemble_idempotent : (s : List ℕ) → reassemble (reassemble s) ≡ reassemble s
unfolding reassemble
reassemble_idempotent s =
    let k : Each (λ b. Unit {0} × (kept b ≡ true)) (keep s) = keep_each (λ b. Unit {0}) s (each_trivial s) in
    let t = join false (keep s) in
    let a : each kept t ≡ true = join_all kept refl false (keep s) (each_map (λ b h e. h.1) k) in
    let c : each calm t ≡ true = join_all calm refl false (keep s) (each_map (λ b h e. not_as (line_end b) e) k) in
    rw (keep_kept t a, join_calm t c)

pub reassemble_text : (s : List ℕ) → is_text s ≡ true → is_text (reassemble s) ≡ true
unfolding reassemble is_text
reassemble_text s h =
    join_all _ refl false (keep s) (each_map (λ b k e. k.0) (keep_each (λ b. (ltb b 128 && not (eqb b 34)) ≡ true) s (passes_each _ s h)))
