-- Indents, a step a turn.
use Prim.Native.Nat.{ℕ, zero, suc, ◌+◌, ◌-◌, ◌*◌, ◌≤◌, min}
use mathlib.Core.Path.{◌≡◌, refl, ap, sym, ◌∙◌}
use mathlib.Core.List.{List, [], ◌∷◌, ◌++◌}
use native.Mathlib.Numerals.{add-one}
use native.Mathlib.Omega.{arith}
use borrow.Rule.Slice.PartMut.{mid_of, put_mid}
use lib.ListN.{length}
use Rattle.rules.specs.Written.{indent}
use Rattle.rows.specs.Rows.{deepest}
use Rattle.output.specs.Puts.{Puts}
use Rattle.output.proofs.Laws.{nothing, same_part, long, onward}

deeper : (i : ℕ) → indent (i + 1) ≡ indent i ++ (32 ∷ 32 ∷ [])
unfolding indent
deeper i = ap indent (add-one i) ∙ go i
  where
    go : (i : ℕ) → 32 ∷ 32 ∷ indent i ≡ indent i ++ (32 ∷ 32 ∷ [])
    go zero = refl
    go (suc i) = ap (λ (l : List ℕ). 32 ∷ 32 ∷ l) (go i)

-- i steps stand in the room
pub record Indenting (room out : List ℕ) (n i : ℕ) : Type 0 where
  pub size : n ≡ 2 * i
  pub puts : Puts (indent i) room out n
  pub same : length out ≡ length room

pub indent_start : (room : List ℕ) → Indenting room room 0 0
unfolding indent
indent_start room = record { size = refl; puts = nothing room; same = refl }

pub indent_turn : (room out p : List ℕ) (n m k i : ℕ) → Indenting room out n i → k ≡ min n (length out) → Puts (32 ∷ 32 ∷ []) (mid_of k (length out - k) out) p m →
    Indenting room (put_mid k (length out - k) out p) (n + m) (i + 1)
indent_turn room out p n m k i v e f = record { size = omega (arith, v.size, f.count); puts = same_part (sym (deeper i)) (onward v.puts e f); same = long (onward v.puts e f) }

pub indent_end : (d : ℕ) (room out : List ℕ) (n i : ℕ) → Indenting room out n i → i ≡ d → d ≤ deepest → Puts (indent d) room out n × (n ≤ 160)
indent_end d room out n i v h b = (rw (← h) v.puts, omega (arith, v.size))
