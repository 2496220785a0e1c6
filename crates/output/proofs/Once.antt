-- No second outcome meets the contract of a writing into lent room: count and last bytes are decided, whether or not the part fits.
use Prim.Native.Nat.{ℕ}
use mathlib.Core.Path.{◌≡◌, sym, ◌∙◌}
use mathlib.Core.List.{List}
use Rattle.output.specs.Puts.{Puts}

pub puts_once : {part room a b : List ℕ} {n m : ℕ} → Puts part room a n → Puts part room b m → (n ≡ m) × (a ≡ b)
puts_once p q = (p.count ∙ sym q.count, p.bytes ∙ sym q.bytes)
