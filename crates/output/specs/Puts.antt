-- What a writing into lent room leaves there, whether or not it fits.
use Rattle.std.specs.Prelude.{ℕ, ◌≡◌, List, ◌++◌, length, take, drop}

-- a part at a room's start, as far as the room reaches, and the rest of the room as it was
abbrev pub laid : List ℕ → List ℕ → List ℕ
laid part room = take (length room) part ++ drop (length part) room

-- n is the part's length, whether or not it fits
pub record Puts (part before after : List ℕ) (n : ℕ) : Type 0 where
  pub count : n ≡ length part
  pub bytes : after ≡ laid part before
