-- Names and reserved words as the writer prints them are words as the reader reads them.
use Prim.Native.Nat.{ℕ}
use mathlib.Core.Path.{refl, subst}
use mathlib.Core.Bool.{Bool, true}
use mathlib.Core.List.{List}
use Rattle.rules.specs.Bytes.{ascii}
use Rattle.rules.specs.Written.{open_word, close_word}
use Rattle.rules.specs.Data.{name, the, end, Kind, object, group, opener, closer}
use Rattle.rules.specs.Proper.{the_rules}
use Rattle.rules.specs.Words.{identifier_word, Form}
use Rattle.rules.specs.Values.{an_identifier}
use Rattle.rules.proofs.Tables.Contents.{name_word}
use Rattle.rules.proofs.Written.Clean.{Upper}

pub name_form : (off : Bool) (w : List ℕ) → Upper w → Form the_rules off w (name w)
name_form off w h = subst (λ (u : List ℕ). Form the_rules off w (name u)) h.1 (name_word off w h.0)

-- ---- reserved words

pub open_form : (off : Bool) (k : Kind) → Form the_rules off (open_word k) (the (opener k))
open_form off object = (an_identifier (ascii "OBJECT"), identifier_word refl, refl)
open_form off group = (an_identifier (ascii "GROUP"), identifier_word refl, refl)

pub close_form : (off : Bool) (k : Kind) → Form the_rules off (close_word k) (the (closer k))
close_form off object = (an_identifier (ascii "END_OBJECT"), identifier_word refl, refl)
close_form off group = (an_identifier (ascii "END_GROUP"), identifier_word refl, refl)

pub end_form : Form the_rules true (ascii "END") (end true)
end_form = (an_identifier (ascii "END"), identifier_word refl, refl)
