-- The tests of spans: inside the label, and texts and symbols byte by byte.
use Prim.Native.Nat.{ℕ, ◌≤◌, ◌<◌}
use mathlib.Core.Bool.{Bool, false, ◌&&◌, and-false}
use mathlib.Core.Path.{◌≡◌, refl, sym, ap, ◌∙◌}
use mathlib.Core.List.{List, [], ◌∷◌}
use borrow.Author.Rules.{rules}
use borrow.Author.Tests.{le-leb, lt-leb}
use lib.Dec.{leb}
use lib.ListN.{length}
use Rattle.std.specs.List.{list_all}
use Rattle.rules.specs.Values.{each}
use Rattle.rules.proofs.Machine.Checks.{text_byte, symbol_byte, is_text, is_symbol, span_test}
use Rattle.rows.specs.Rows.{row_of}
use Rattle.rows.specs.declared.Row.{Row}

-- ---- a test of each byte

all_each : (c : ℕ → Bool) (w : List ℕ) → list_all c w ≡ each c w
all_each c [] = refl
all_each c (x ∷ w) = ap (λ (t : Bool). c x && t) (all_each c w)

pub text_is : (w : List ℕ) (t : Bool) → t ≡ list_all text_byte w → t ≡ is_text w
unfolding is_text
text_is w t e = e ∙ all_each text_byte w

pub symbol_is : (w : List ℕ) (t : Bool) → t ≡ list_all symbol_byte w → (t && (leb 1 (length w) && leb (length w) 255)) ≡ is_symbol w
unfolding is_symbol
symbol_is w t e = rw (e ∙ all_each symbol_byte w)

-- ---- inside the label

pub order_fails : (a b : ℕ) (x : Bool) → b < a → false ≡ (leb a b && x)
order_fails a b x h = rw (lt-leb a b h)

pub inside_fails : (a b n : ℕ) (x : Bool) → n < b → false ≡ (leb a b && (leb b n && x))
inside_fails a b n x h = rw (lt-leb b n h) (sym (and-false (leb a b)))

pub holds : (a b n : ℕ) (t x : Bool) → a ≤ b → b ≤ n → t ≡ x → t ≡ (leb a b && (leb b n && x))
holds a b n t x h l e = rw (le-leb a b h, le-leb b n l) e

pub span_is : (given : List ℕ) {row w : Row} {t : Bool} → row ≡ w → t ≡ span_test given (row_of w) → t ≡ span_test given (row_of row)
span_is given h e = rw h e

pub ruleset spans = (text_is, symbol_is, order_fails, inside_fails, holds, span_is, rules)
