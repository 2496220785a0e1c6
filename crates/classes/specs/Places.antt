-- Places in a list of bytes: the bytes between two, the byte at one, and where a run from one ends.
use Rattle.std.specs.Prelude.{ℕ, ◌+◌, ◌≤◌, ◌<◌, min, max, Bool, ◌≡◌, List, map, length, get_or, drop}
use Rattle.rules.specs.Bytes.{fold, Run}
use Rattle.rules.specs.Data.{Name, Span}
use Rattle.rules.specs.Proper.{stretch}

-- two places of the code as the rules' span
abbrev pub as_span : ℕ → ℕ → Span
as_span a b = record { from = a; upto = b }

-- the bytes from a place to another
abbrev pub part : List ℕ → ℕ → ℕ → List ℕ
part l a e = stretch l (as_span a e)

-- those bytes as a name, case folded up
unfoldable pub name_at : List ℕ → ℕ → ℕ → Name
name_at label a b = map fold (part label a b)

-- the run from a place ends at e
pub record EndsAt (p : List ℕ → Bool) (l : List ℕ) (at e : ℕ) : Type 0 where
  pub is : Run p (part l at e) (drop e l)
  pub from : at ≤ e
  pub within : e ≤ length l

-- the byte b at a place of s, and 0 past the end; that a byte other than 0 stands inside is said as linear arithmetic reads it
pub record ByteAt (s : List ℕ) (i b : ℕ) : Type 0 where
  pub is : b ≡ get_or s i 0
  pub inside : i + min b 1 ≤ max i (length s)

-- a byte at a place
pub record HasByte (l : List ℕ) (at k : ℕ) : Type 0 where
  pub within : at < length l
  pub is : get_or l at 0 ≡ k
