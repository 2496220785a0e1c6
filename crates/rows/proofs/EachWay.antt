-- Encoding and decoding undo each other.
use Prim.Native.Nat.{ℕ, ◌+◌, ◌-◌}
use native.Mathlib.Omega.{arith}
use Rattle.std.specs.Prelude.{Option, Some}
use mathlib.Core.Path.{◌≡◌, refl, sym, ap, ◌∙◌}
use mathlib.Core.List.{List, ◌++◌}
use lib.ListN.{length, drop, length-append, length-drop}
use lib.Seq.{take_at}
use Rattle.rules.specs.Data as rule
use Rattle.rules.specs.Table.{encode}
use Rattle.rules.proofs.Machine.Decoding.{decode}
use Rattle.rules.proofs.Machine.Limits.{Codes}
use Rattle.rules.proofs.Tables.DecodeComplete.{decode_encode, got_same, nothing_got}
use Rattle.rules.proofs.Tables.DecodeSound.{decode_sound}
use Rattle.classes.specs.Places.{part}
use Rattle.rows.specs.Rows.{row_of, Wrote}
use Rattle.rows.specs.Decoding.{Decodes, no_row, a_row}
use Rattle.rows.specs.declared.Row.{Row}
use Rattle.rows.proofs.Once.{row_once, same_row}

-- a row of the rules that stands at a place is found there, and the place after it is as many bytes on as it has
pub row_found : {lent : List ℕ} {at : ℕ} {g : Option (Row × ℕ)} (r : rule.Row) (s : List ℕ) → Codes r → drop at lent ≡ encode r ++ s → Decodes lent at g →
    (row : Row) × (g ≡ Some (row, at + length (encode r))) × (row_of row ≡ r)
row_found r s c e (no_row d) = absurd (nothing_got (sym d ∙ ap decode e ∙ decode_encode r s c))
row_found {lent} {at} r s c e (a_row {row} {next} d l m) =
    let q = got_same (sym d ∙ ap decode e ∙ decode_encode r s c) in
    let a : length (drop next lent) ≡ length s = ap length q.1 in
    let b : length (drop at lent) ≡ length (encode r) + length s = ap length e ∙ length-append (encode r) s in
    (row, same_row refl (omega (arith, length-drop next lent, length-drop at lent)), q.0)

-- what is encoded decodes to itself
pub encoded_decodes : {row : Row} {before after : List ℕ} {n : ℕ} {g : Option (Row × ℕ)} → Codes (row_of row) → Wrote (encode (row_of row)) before after n → Decodes after 0 g → g ≡ Some (row, n)
encoded_decodes {row} {before} c w d =
    let f = row_found (row_of row) (drop (length (encode (row_of row))) before) c w.bytes d in
    f.1 ∙ same_row (row_once f.2) (omega (arith, w.count))

-- what is decoded was encoded: the bytes up to the place after a row are the row's
pub decoded_encodes : {lent : List ℕ} {at next : ℕ} {row : Row} → Decodes lent at (Some (row, next)) → part lent at next ≡ encode (row_of row)
decoded_encodes {lent} {at} (a_row {row} {next} d l m) =
    let e = decode_sound (drop at lent) (row_of row) (drop next lent) d in
    let b : length (drop at lent) ≡ length (encode (row_of row)) + length (drop next lent) = ap length e ∙ length-append (encode (row_of row)) (drop next lent) in
    rw e (take_at (encode (row_of row)) (drop next lent) (next - at) (omega (arith, length-drop next lent, length-drop at lent)))
