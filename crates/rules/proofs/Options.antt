-- Options: none is no some, and some of one thing is some of no other.
use mathlib.Core.Path.{◌≡◌}
use mathlib.Core.Option.{Option, none, some, none-ne-some, some-injective}

pub none_some : {A : Type 0} {a : A} → ◌≡◌ {A = Option A} none (some a) → ⊥
none_some {a = a} e = none-ne-some a e

pub some_same : {A : Type 0} {a b : A} → ◌≡◌ {A = Option A} (some a) (some b) → a ≡ b
some_same {a = a} {b = b} e = some-injective a b e
