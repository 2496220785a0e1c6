-- A byte at a place and the end of a run are one: no second answer meets the promise.
use Prim.Native.Nat.{ℕ}
use mathlib.Core.Bool.{Bool}
use mathlib.Core.Path.{◌≡◌, sym, ap, ◌∙◌}
use mathlib.Core.List.{List}
use native.Mathlib.Omega.{arith}
use lib.ListN.{length, drop}
use Rattle.rules.proofs.Machine.Splits.{Split, split_run}
use Rattle.rules.proofs.Words.Runs.{run_split}
use Rattle.classes.specs.Places.{part, EndsAt, ByteAt}
use Rattle.classes.proofs.Runs.{joined}
use Rattle.classes.proofs.Parts.{part_length}

pub byte_once : {s : List ℕ} {i b b' : ℕ} → ByteAt s i b → ByteAt s i b' → b ≡ b'
byte_once x y = x.is ∙ sym y.is

module _ {p : List ℕ → Bool} {l : List ℕ} {at : ℕ} where
  split : {e : ℕ} → EndsAt p l at e → split_run p (drop at l) ≡ (part l at e, drop e l)
  split {e} x = ap (split_run p) (sym (joined l at e x.from)) ∙ run_split x.is

  pub ends_once : {e e' : ℕ} → EndsAt p l at e → EndsAt p l at e' → e ≡ e'
  ends_once {e} {e'} x y =
      let q = sym (part_length l at e x.within) ∙ ap (λ (s : Split). length s.0) (sym (split x) ∙ split y) ∙ part_length l at e' y.within in
      omega (arith, x.from, y.from)
