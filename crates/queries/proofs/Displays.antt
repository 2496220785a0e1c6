-- The text and the name of a row: what is shown of the row that stands there.
use Prim.Native.Nat.{ℕ, ◌≤◌, ◌<◌}
use mathlib.Core.Path.{◌≡◌, refl, sym, ap, subst, ◌∙◌}
use mathlib.Core.Bool.{Bool, true, false, true≢false}
use mathlib.Core.List.{List, [], ◌∷◌, ◌++◌}
use mathlib.Core.Option as maybe
use mathlib.Core.Option.{none, some, none-ne-some, some-injective}
use native.Mathlib.Omega.{arith}
use Rattle.std.specs.Prelude.{Option, Some, None, Result, Ok, Err}
use borrow.Author.Tests.{le-leb, lt-leb}
use lib.ListN.{length, drop}
use Rattle.rules.specs.Data as rule
use Rattle.rules.specs.Reading.{longest}
use Rattle.rules.specs.Proper.{Each, one, Held, Holds, Ruled, proper_rows, is_proper}
use Rattle.rules.specs.Meaning.{reassemble}
use Rattle.rules.specs.Asked.{From, here, later, Texted, says, long_label, no_table, text_refused, Viewed, nowhere}
use Rattle.rules.proofs.Tables.Judge.{verdict_complete}
use Rattle.rules.proofs.Machine.Lookup.{from_of}
use Rattle.rules.proofs.Tables.Seeking.{from_there}
use Rattle.rules.proofs.Machine.Queries.{span_of_text, span_of_name, fitted, from_row, from_span, text_row, texted_of, viewed_of}
use Rattle.rules.proofs.Machine.Returns.{Return, returns}
use Rattle.rules.proofs.Tables.Asked.{texted_there, viewed_there}
use Rattle.classes.specs.Places.{part, as_span}
use Rattle.rows.specs.Rows.{row_of}
use Rattle.rows.specs.declared.Row.{Row}
use Rattle.rows.specs.declared.Row.TheVariants as rows
use Rattle.rows.specs.declared.Kind.{Kind}
use Rattle.rows.specs.declared.Op.{Op}
use Rattle.table.specs.Judging.{Judges, proper, improper}
use Rattle.std.specs.Result.{is_err}
use Rattle.table.specs.declared.Improper.{Improper}
use Rattle.output.specs.Puts.{Puts}
use Rattle.output.proofs.Laws.{long, fits}
use Rattle.queries.specs.declared.names.Stretch.{Stretch}
use Rattle.queries.specs.declared.outcome.Given.{Given}
use Rattle.queries.specs.declared.outcome.NoText.{NoText}
use Rattle.queries.specs.declared.outcome.NoText.TheVariants.{NoRow}
use Rattle.queries.specs.Answers.{text_said, Views}
use Rattle.queries.specs.Walking.{TableFrom, First, RowFrom, shown_of, name_span, stretch_of, TextFrom, StretchFrom}
use Rattle.queries.proofs.RowsLeft.{first_found, first_none, left_proper}

-- ---- the text

pub text_is : {row x : Row} {s : Option (ℕ × ℕ)} → row ≡ x → s ≡ shown_of (span_of_text (row_of x)) → s ≡ shown_of (span_of_text (row_of row))
text_is h e = rw h e

-- a row that is no text shows none
pub no_text : (w : Row) → ((a b : ℕ) → w ≡ rows.Text a b → ⊥) → None ≡ shown_of (span_of_text (row_of w))
no_text (rows.Attribute a b) h = refl
no_text (rows.Pointer a b) h = refl
no_text (rows.Open k a b) h = refl
no_text (rows.Close k) h = refl
no_text (rows.Integer m n) h = refl
no_text (rows.Float x) h = refl
no_text (rows.Time x) h = refl
no_text (rows.Text a b) h = absurd (h a b refl)
no_text (rows.Symbol a b) h = refl
no_text (rows.Unit o a b m n) h = refl
no_text rows.Sequence h = refl
no_text rows.SequenceEnd h = refl
no_text rows.Set h = refl
no_text rows.SetEnd h = refl
no_text (rows.Last n) h = refl

-- measured into no room, then written
module _ (room p a : List ℕ) (n : ℕ) (h : Puts p [] a n) where
  untouched : a ++ room ≡ room
  untouched = go a (long h)
    where
      go : (a : List ℕ) → length a ≡ 0 → a ++ room ≡ room
      go [] e = refl
      go (x ∷ a) e = absurd (omega arith)

  pub room_short : length (a ++ room) < n → returns (says 11 0 n) (a ++ room) ≡ fitted room p
  room_short l =
      let k : length room < length p = omega (arith, h.count, ap length untouched) in
      rw (lt-leb (length p) (length room) k, untouched, h.count)

  pub room_fits : (r : List ℕ) (m : ℕ) → n ≤ length (a ++ room) → Puts p (a ++ room) r m → returns (says 0 0 m) r ≡ fitted room p
  room_fits r m l q =
      let k : length p ≤ length room = omega (arith, h.count, ap length untouched) in
      let e : r ≡ p ++ drop (length p) room = fits q (omega (arith, ap length untouched)) ∙ ap (λ (x : List ℕ). p ++ drop (length p) x) untouched in
      rw (le-leb (length p) (length room) k, q.count, e)

-- the rules' span of a text, from the code's
abbrev span_in : Option (ℕ × ℕ) → maybe.Option rule.Span
span_in (Some (a, b)) = some (as_span a b)
span_in None = none

span_back : (o : maybe.Option rule.Span) → span_in (shown_of o) ≡ o
span_back (some p) = refl
span_back none = refl

module _ (label lent : List ℕ) (row : ℕ) (room : List ℕ) (g : Option (Row × ℕ)) (st : RowFrom lent row g) where
  pub no_text_row : g ≡ None → TextFrom label lent row room (Err NoRow) room
  no_text_row f = record { is = λ rs l. sym (first_none (subst (λ (x : Option (Row × ℕ)). First x (from_of row rs)) f (st.is rs l)) (returns (says 15 0 0) room) (text_row label room)) }

  module _ (r : Row) (next : ℕ) (f : g ≡ Some (r, next)) (s : Option (ℕ × ℕ)) (e : s ≡ shown_of (span_of_text (row_of r))) where
    shown : {z : Option (ℕ × ℕ)} → s ≡ z → (rs : List rule.Row) → TableFrom lent 0 rs →
        from_row (from_of row rs) (returns (says 15 0 0) room) (text_row label room) ≡ from_span (span_in z) (returns (says 15 0 0) room) (λ p. fitted room (reassemble (part label p.from p.upto)))
    shown {z} h rs l =
        let k : span_of_text (row_of r) ≡ span_in z = sym (span_back (span_of_text (row_of r))) ∙ ap span_in (sym e ∙ h) in
        first_found (subst (λ (x : Option (Row × ℕ)). First x (from_of row rs)) f (st.is rs l)) (returns (says 15 0 0) room) (text_row label room)
        ∙ ap (λ (o : maybe.Option rule.Span). from_span o (returns (says 15 0 0) room) (λ p. fitted room (reassemble (part label p.from p.upto)))) k

    pub text_shown : (a b : ℕ) (w after : List ℕ) (z : Result Given NoText) → s ≡ Some (a, b) → w ≡ part label a b → returns (text_said z) after ≡ fitted room (reassemble w) → TextFrom label lent row room z after
    text_shown a b w after z h i j = record { is = λ rs l. j ∙ ap (λ (x : List ℕ). fitted room (reassemble x)) i ∙ sym (shown h rs l) }

    pub text_none : s ≡ None → TextFrom label lent row room (Err NoRow) room
    text_none h = record { is = λ rs l. sym (shown h rs l) }

module _ (label lent : List ℕ) (row : ℕ) (room : List ℕ) where
  pub text_long : longest < length label → Texted label lent row room (says 1 longest 0) room
  text_long h = text_refused (long_label h)

  pub text_improper : {p : Improper} → length label ≤ longest → Judges label lent (Err p) → Texted label lent row room (says 12 p.0 0) room
  text_improper h (improper v) = text_refused (no_table h v)

  pub text_proper : (r : Result Given NoText) (after : List ℕ) → length label ≤ longest → Judges label lent (Ok tt) → TextFrom label lent row room r after → Texted label lent row room (text_said r) after
  unfolding texted_of
  text_proper r after h (proper rs v) f =
      let q : texted_of label lent row room ≡ returns (text_said r) after = rw (le-leb (length label) longest h, verdict_complete label h lent v) (sym (f.is rs (left_proper label lent rs h v))) in
      subst (λ (o : Return). Texted label lent row room o.said o.room) q (texted_there label lent row room)

-- ---- the name

-- a row with no name shows the empty stretch
pub no_name : (w : Row) → ((a b : ℕ) → w ≡ rows.Attribute a b → ⊥) → ((a b : ℕ) → w ≡ rows.Pointer a b → ⊥) → ((k : Kind) (a b : ℕ) → w ≡ rows.Open k a b → ⊥) → ((a b : ℕ) → w ≡ rows.Symbol a b → ⊥) →
    ((o : Op) (a b : ℕ) (m : Bool) (n : ℕ) → w ≡ rows.Unit o a b m n → ⊥) → stretch_of nowhere ≡ stretch_of (name_span (row_of w))
no_name (rows.Attribute a b) f g h i j = absurd (f a b refl)
no_name (rows.Pointer a b) f g h i j = absurd (g a b refl)
no_name (rows.Open k a b) f g h i j = absurd (h k a b refl)
no_name (rows.Close k) f g h i j = refl
no_name (rows.Integer m n) f g h i j = refl
no_name (rows.Float x) f g h i j = refl
no_name (rows.Time x) f g h i j = refl
no_name (rows.Text a b) f g h i j = refl
no_name (rows.Symbol a b) f g h i j = absurd (i a b refl)
no_name (rows.Unit o a b m n) f g h i j = absurd (j o a b m n refl)
no_name rows.Sequence f g h i j = refl
no_name rows.SequenceEnd f g h i j = refl
no_name rows.Set f g h i j = refl
no_name rows.SetEnd f g h i j = refl
no_name (rows.Last n) f g h i j = refl

pub name_is : {row x : Row} {s : Stretch} → row ≡ x → s ≡ stretch_of (name_span (row_of x)) → s ≡ stretch_of (name_span (row_of row))
name_is h e = rw h e

module _ (lent : List ℕ) (row : ℕ) (g : Option (Row × ℕ)) (st : RowFrom lent row g) where
  pub no_name_row : g ≡ None → StretchFrom lent row (stretch_of nowhere)
  no_name_row f = record { is = λ rs l. ap stretch_of (sym (first_none (subst (λ (x : Option (Row × ℕ)). First x (from_of row rs)) f (st.is rs l)) nowhere name_span)) }

  pub name_row : (r : Row) (next : ℕ) (s : Stretch) → g ≡ Some (r, next) → s ≡ stretch_of (name_span (row_of r)) → StretchFrom lent row s
  name_row r next s f e = record { is = λ rs l. e ∙ ap stretch_of (sym (first_found (subst (λ (x : Option (Row × ℕ)). First x (from_of row rs)) f (st.is rs l)) nowhere name_span)) }

-- the span of a name lies inside the label
abbrev Inside : List ℕ → rule.Span → Type 0
Inside label p = (p.from ≤ p.upto) × (p.upto ≤ length label)

held_inside : {A : List ℕ → Type 0} (label : List ℕ) {p q : rule.Span} → Held A label p → some p ≡ some q → Inside label q
held_inside label {p} {q} h e = subst (Inside label) (some-injective p q e) (h.ordered, h.inside)

name_held : (label : List ℕ) (r : rule.Row) {p : rule.Span} → Holds label r → span_of_name r ≡ some p → Inside label p
name_held label (rule.attribute p) h e = held_inside label h e
name_held label (rule.pointer p) h e = held_inside label h e
name_held label (rule.opened k p) h e = held_inside label h e
name_held label (rule.closed k) h e = absurd (none-ne-some _ e)
name_held label (rule.an_integer w) h e = absurd (none-ne-some _ e)
name_held label (rule.a_real x) h e = absurd (none-ne-some _ e)
name_held label (rule.a_moment t) h e = absurd (none-ne-some _ e)
name_held label (rule.a_text p) h e = absurd (none-ne-some _ e)
name_held label (rule.a_symbol p) h e = held_inside label h e
name_held label (rule.a_unit op p w) h e = held_inside label h e
name_held label rule.sequence h e = absurd (none-ne-some _ e)
name_held label rule.sequence_end h e = absurd (none-ne-some _ e)
name_held label rule.set h e = absurd (none-ne-some _ e)
name_held label rule.set_end h e = absurd (none-ne-some _ e)
name_held label (rule.last n) h e = absurd (none-ne-some _ e)

each_from : {P : rule.Row → Type 0} {n : ℕ} {rs qs : List rule.Row} {r : rule.Row} → From n rs (r ∷ qs) → Each P rs → P r
each_from {rs = r ∷ rs} here (one p ps) = p
each_from (later f) (one p ps) = each_from f ps

module _ (label lent : List ℕ) (row : ℕ) where
  pub view_long : longest < length label → Views label lent row (stretch_of nowhere)
  unfolding viewed_of
  view_long h =
      let q : viewed_of label lent row ≡ nowhere = rw (lt-leb (length label) longest h) in
      record { viewed = subst (Viewed label lent row) q (viewed_there label lent row); ordered = omega arith; inside = omega arith }

  pub view_improper : {c : Result (Unit {0}) Improper} → length label ≤ longest → Judges label lent c → is_err c ≡ true → Views label lent row (stretch_of nowhere)
  unfolding viewed_of
  view_improper h (improper v) e =
      let q : viewed_of label lent row ≡ nowhere = rw (le-leb (length label) longest h, verdict_complete label h lent v) in
      record { viewed = subst (Viewed label lent row) q (viewed_there label lent row); ordered = omega arith; inside = omega arith }
  view_improper h (proper rs v) e = absurd (true≢false (sym e))

  spans_inside : (rs : List rule.Row) → Ruled label lent (proper_rows rs) → Inside label (from_row (from_of row rs) nowhere name_span)
  spans_inside rs (is_proper e p) = go (from_of row rs) refl
    where
      inner : (x : rule.Row) → Holds label x → (o : maybe.Option rule.Span) → span_of_name x ≡ o → Inside label (from_span o nowhere (λ q. q))
      inner x h none f = (omega arith, omega arith)
      inner x h (some q) f = name_held label x h f

      go : (qs : List rule.Row) → from_of row rs ≡ qs → Inside label (from_row qs nowhere name_span)
      go [] f = (omega arith, omega arith)
      go (x ∷ qs) f = inner x (each_from (from_there row rs f) p.spans) (span_of_name x) refl

  pub view_proper : {c : Result (Unit {0}) Improper} (s : Stretch) → length label ≤ longest → Judges label lent c → is_err c ≡ false → StretchFrom lent row s → Views label lent row s
  unfolding viewed_of
  view_proper s h (proper rs v) e f =
      let q : viewed_of label lent row ≡ from_row (from_of row rs) nowhere name_span = rw (le-leb (length label) longest h, verdict_complete label h lent v) in
      let i = spans_inside rs v in
      subst (Views label lent row) (sym (f.is rs (left_proper label lent rs h v))) (record { viewed = subst (Viewed label lent row) q (viewed_there label lent row); ordered = i.0; inside = i.1 })
  view_proper s h (improper v) e f = absurd (true≢false e)
