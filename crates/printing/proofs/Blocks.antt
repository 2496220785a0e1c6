-- The words of blocks' lines.
use Prim.Native.Nat.{ℕ}
use mathlib.Core.Bool.{cond}
use mathlib.Core.Path.{◌≡◌, sym}
use mathlib.Core.List.{List, [], ◌++◌, append-nil, map}
use borrow.Author.Tests.{eq-eqb, ne_eqb}
use lib.Dec.{eqb}
use Rattle.rules.specs.Bytes.{ascii, fold}
use Rattle.rules.specs.Written.{open_word, close_word}
use Rattle.rows.specs.Rows.{kind_of}
use Rattle.rows.specs.declared.Kind.{Kind}
use Rattle.rows.specs.declared.Kind.TheVariants as kinds
use Rattle.output.specs.Puts.{Puts}
use Rattle.output.proofs.Laws.{same_part}

module _ {x y : List ℕ} {n : ℕ} where
  pub close_is : (k : Kind) → Puts (ascii "END_" ++ open_word (kind_of k)) x y n → Puts (close_word (kind_of k)) x y n
  close_is kinds.Object p = p
  close_is kinds.Group p = p

  pub close_bare : (k : Kind) (d : ℕ) (w : List ℕ) → d ≡ 0 → Puts (close_word (kind_of k)) x y n → Puts (close_word (kind_of k) ++ cond (eqb d 0) [] (ascii " = " ++ map fold w)) x y n
  close_bare k d w h p = rw (eq-eqb d 0 h) (same_part (sym (append-nil (close_word (kind_of k)))) p)

  pub close_named : (k : Kind) (d : ℕ) (w : List ℕ) → (d ≡ 0 → ⊥) → Puts (close_word (kind_of k) ++ (ascii " = " ++ map fold w)) x y n →
      Puts (close_word (kind_of k) ++ cond (eqb d 0) [] (ascii " = " ++ map fold w)) x y n
  close_named k d w h p = rw (ne_eqb d 0 h) p
