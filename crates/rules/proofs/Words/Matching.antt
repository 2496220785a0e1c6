-- The words that a pattern takes, and that the matcher finds exactly those: proved once, for every pattern.
use Prim.Native.Nat.{ℕ}
use mathlib.Core.Bool.{Bool, true, false, cond}
use mathlib.Core.Option.{Option, some}
use mathlib.Core.Path.{◌≡◌, refl, ap, ◌∙◌}
use mathlib.Core.List.{List, [], ◌∷◌, ◌++◌, append-nil}
use borrow.Author.Tests.{eqb-true, eq-eqb}
use lib.Dec.{eqb}
use lib.ListN.{length}
use Rattle.rules.specs.Bytes.{front, Run, All}
use Rattle.rules.specs.Values.{Written}
use Rattle.rules.proofs.Machine.Splits.{Split}
use Rattle.rules.proofs.Words.Runs.{run_split, SplitAt, split_at, split_is, all_run}
use Rattle.rules.proofs.Machine.Patterns.{G, stop, whole, byte, check, run, fork, provided, matches}
use Rattle.rules.proofs.Options.{none_some, some_same}

pub data Takes : G → List ℕ → Written → Type 0 where
  t_stop : {v : Written} → Takes (stop v) [] v
  t_whole : {t : List ℕ → Bool} {f : List ℕ → Written} {w : List ℕ} → t w ≡ true → Takes (whole t f) w (f w)
  t_byte : {b : ℕ} {g : G} {w : List ℕ} {v : Written} → Takes g w v → Takes (byte b g) (b ∷ w) v
  t_check : {b : Bool} {g : G} {w : List ℕ} {v : Written} → b ≡ true → Takes g w v → Takes (check b g) w v
  t_run : {c n : ℕ → Bool} {k : List ℕ → G} {a r : List ℕ} {v : Written} → Run (front c) a r → n (length a) ≡ true → Takes (k a) r v → Takes (run c n k) (a ++ r) v
  t_yes : {t : List ℕ → Bool} {g h : G} {w : List ℕ} {v : Written} → t w ≡ true → Takes g w v → Takes (fork t g h) w v
  t_no : {t : List ℕ → Bool} {g h : G} {w : List ℕ} {v : Written} → t w ≡ false → Takes h w v → Takes (fork t g h) w v

pub match_complete : {g : G} {w : List ℕ} {v : Written} → Takes g w v → matches g w ≡ some v
match_complete t_stop = refl
match_complete (t_whole h) = rw h
match_complete (t_byte {b} x) = rw (eq-eqb b b refl) (match_complete x)
match_complete (t_check h x) = rw h (match_complete x)
match_complete (t_run {c} {n} {k} {a} {r} t h x) =
    ap (λ (s : Split). provided (n (length s.0)) (matches (k s.0) s.1)) (run_split t) ∙ rw h (match_complete x)
match_complete (t_yes h x) = rw h (match_complete x)
match_complete (t_no h x) = rw h (match_complete x)

only_is : (b : Bool) (x : Option Written) {v : Written} → provided b x ≡ some v → (b ≡ true) × (x ≡ some v)
only_is true x e = (refl, e)
only_is false x e = absurd (none_some e)

pub match_sound : (g : G) (w : List ℕ) (v : Written) → matches g w ≡ some v → Takes g w v
match_sound (stop u) [] v e = rw (some_same e) t_stop
match_sound (stop u) (b ∷ w) v e = absurd (none_some e)
match_sound (whole t f) w v e = let o = only_is (t w) (some (f w)) e in rw (← some_same o.1) (t_whole o.0)
match_sound (byte b g) [] v e = absurd (none_some e)
match_sound (byte b g) (a ∷ w) v e = let o = only_is (eqb a b) (matches g w) e in rw (eqb-true a b o.0) (t_byte (match_sound g w v o.1))
match_sound (check b g) w v e = let o = only_is b (matches g w) e in t_check o.0 (match_sound g w v o.1)
match_sound (run c n k) w v e = go (λ a r. match_sound (k a) r v) (split_is (front c) refl w) e
  where
    go : ((a r : List ℕ) → matches (k a) r ≡ some v → Takes (k a) r v) → {w : List ℕ} {s : Split} → SplitAt (front c) w s →
        provided (n (length s.0)) (matches (k s.0) s.1) ≡ some v → Takes (run c n k) w v
    go ih (split_at {a} {r} t) e = let o = only_is (n (length a)) (matches (k a) r) e in t_run t o.0 (ih a r o.1)
match_sound (fork t g h) w v e = go (match_sound g w v) (match_sound h w v) (t w) refl e
  where
    go : (matches g w ≡ some v → Takes g w v) → (matches h w ≡ some v → Takes h w v) → (b : Bool) → t w ≡ b → cond b (matches g w) (matches h w) ≡ some v → Takes (fork t g h) w v
    go x y true k e = t_yes k (x e)
    go x y false k e = t_no k (y e)

-- a run that ends the word
pub run_last : {c n : ℕ → Bool} {k : List ℕ → G} {a : List ℕ} {v : Written} → All c a → n (length a) ≡ true → Takes (k a) [] v → Takes (run c n k) a v
run_last {c} {n} {k} {a} {v} h m x = let t : Takes (run c n k) (a ++ []) v = t_run (all_run h refl) m x in rw append-nil at t
