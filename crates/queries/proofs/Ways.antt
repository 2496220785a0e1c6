-- Rows by what is done with them: the rules' way with a row, from the code's.
use Prim.Native.Nat.{ℕ}
use mathlib.Core.Path.{◌≡◌, refl, sym, ap, ◌∙◌}
use Rattle.rules.specs.Data as rule
use Rattle.rules.proofs.Machine.Lookup.{names, plain, opens, closes, ends, way}
use Rattle.rules.proofs.Machine.Lookup as seeking
use Rattle.classes.specs.Places.{as_span}
use Rattle.rows.specs.Rows.{row_of}
use Rattle.rows.specs.declared.Row.{Row}
use Rattle.rows.specs.declared.Row.TheVariants as rows
use Rattle.rows.specs.declared.Kind.{Kind}
use Rattle.queries.specs.declared.places.Way.{Way}
use Rattle.queries.specs.declared.places.Way.TheVariants.{Named, Plain, Opening, Closing, Ending}
use Rattle.queries.specs.Walking.{way_of}

pub way_is : {row x : Row} {w : Way} → row ≡ x → w ≡ way_of (way (row_of x)) → w ≡ way_of (way (row_of row))
way_is h e = rw h e

-- any other row is only passed
pub plain_way : (w : Row) → ((a b : ℕ) → w ≡ rows.Attribute a b → ⊥) → ((k : Kind) (a b : ℕ) → w ≡ rows.Open k a b → ⊥) → ((k : Kind) → w ≡ rows.Close k → ⊥) → ((n : ℕ) → w ≡ rows.Last n → ⊥) →
    Plain ≡ way_of (way (row_of w))
plain_way (rows.Attribute a b) f g h i = absurd (f a b refl)
plain_way (rows.Pointer a b) f g h i = refl
plain_way (rows.Open k a b) f g h i = absurd (g k a b refl)
plain_way (rows.Close k) f g h i = absurd (h k refl)
plain_way (rows.Integer m n) f g h i = refl
plain_way (rows.Float x) f g h i = refl
plain_way (rows.Time x) f g h i = refl
plain_way (rows.Text a b) f g h i = refl
plain_way (rows.Symbol a b) f g h i = refl
plain_way (rows.Unit o a b m n) f g h i = refl
plain_way rows.Sequence f g h i = refl
plain_way rows.SequenceEnd f g h i = refl
plain_way rows.Set f g h i = refl
plain_way rows.SetEnd f g h i = refl
plain_way (rows.Last n) f g h i = absurd (i n refl)

abbrev pub rule_way : Way → seeking.Way
rule_way (Named a b) = names (as_span a b)
rule_way Plain = plain
rule_way Opening = opens
rule_way Closing = closes
rule_way Ending = ends

way_back : (w : seeking.Way) → rule_way (way_of w) ≡ w
way_back (names p) = refl
way_back plain = refl
way_back opens = refl
way_back closes = refl
way_back ends = refl

-- the rules' way with a row, from the code's
pub way_told : (r : rule.Row) {w z : Way} → w ≡ way_of (way r) → w ≡ z → way r ≡ rule_way z
way_told r e f = sym (way_back (way r)) ∙ ap rule_way (sym e ∙ f)
