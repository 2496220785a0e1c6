-- Document 02 §2: Rows are now separated by one comma, and side by side is refused with 6 at the second row. The grammar has the comma (`Rows`).
-- Theorems here: side by side is refused so; and behind the comma anything but a row is refused with 6.
use Prim.Native.Nat.{ℕ, ◌+◌}
use Prim.Native.Char.{code as byte}
use mathlib.Core.Bool.{Bool, true, false}
use mathlib.Core.Path.{◌≡◌, refl, sym, ap, ◌∙◌, subst}
use mathlib.Core.List.{List, [], ◌∷◌, ◌++◌}
use lib.ListN.{length}
use Rattle.rules.specs.Data.{Span, comma, lpar, rpar, Elem, the, Placed, ◌on◌, Op, Row, Opens, outside}
use Rattle.rules.specs.Grammar.{strict}
use Rattle.rules.specs.Modes.{Mode}
use Rattle.rules.specs.Elements.{Gap, Spells, sign, placed, Cut}
use Rattle.rules.specs.Faults.{Viable}
use Rattle.rules.specs.Reading.{refused, Judged, misplaced}
use Rattle.rules.proofs.Machine.Statements.{Group, in_sequence, in_row, in_set, Place, alone, within, Else, no_else, any_value, a_row, a_set_end, State, at_statement, at_semicolon, at_equals, at_pointer, at_opener, at_opened, at_closer, at_closed, at_scalar, at_number, at_member, at_row, at_next_row, at_unit, at_power, at_exponent, at_factor, at_end, Next, never, go, past, refuses, goes, judge, find, row_begins, powers, member, members, rows, follows, offers, step, is_end}
use Rattle.rules.proofs.Grammar.Each.{each_only}
use Rattle.rules.proofs.Grammar.Run.{Reach, here, by_step, trace}
use Rattle.rules.proofs.Grammar.Complete.{refuses_goes, none_begins, none_follows, members_fixed, rows_comma_found, rows_end_found}
use Rattle.rules.proofs.Grammar.Theorems.{viable→taken, refused_at}
use Rattle.rules.proofs.Reading.Reader.{reach_early}

-- elements, the last of them a `)`
abbrev pub closed_by : List Placed → Span → List Placed
closed_by es p = es ++ (the rpar on p ∷ [])

-- a comma behind it
abbrev pub closed_by_comma : List Placed → Span → Span → List Placed
closed_by_comma es p p' = es ++ (the rpar on p ∷ the comma on p' ∷ [])

-- no row begins with the element
abbrev NotLpar : Placed → Type 0
NotLpar (e on p) = e ≡ the lpar → ⊥

-- ---- behind `)` a value is done, or a row is

data Done : State → Type 0 where
  a_value_done : Done at_semicolon
  a_row_done : Done at_row

abbrev Closes : Next → Type 0
Closes never = Unit {0}
Closes (go q o r) = Done q
Closes (past c q o r) = ⊥

-- none of `)`, `(` and `,` begins a statement
nowhere : {n : Next} → n ≡ never → Closes n
nowhere e = subst Closes (sym e) tt

member_closes : (g : Group) (o : Opens) → Closes (find (member g o) rpar)
member_closes in_sequence o = a_value_done
member_closes in_row o = a_row_done
member_closes in_set o = tt

members_closes : (v : Bool) (g : Group) (o : Opens) → Closes (find (members v g o).fixed rpar)
members_closes v g o = subst Closes (sym (members_fixed v g o rpar)) (member_closes g o)

else_closes : (a : Else) (m : Mode) (c : Place) (o : Opens) → Closes (find (offers m (at_scalar c a) o).fixed rpar)
else_closes no_else m c o = tt
else_closes any_value m c o = tt
else_closes a_row m c o = tt
else_closes a_set_end m c o = tt

powers_closes : (v : Bool) (c : Place) (op : Op) (p : Span) (o : Opens) → Closes (find (powers v c op p o) rpar)
powers_closes true c op p o = tt
powers_closes false c op p o = tt

module _ (m : Mode) where
  follows_closes : (c : Place) (o : Opens) → Closes (find (follows m c o).fixed rpar)
  follows_closes alone o = nowhere (none_follows m.pvl o).2
  follows_closes (within g) o = members_closes m.version_1 g o

  closes : (q : State) (o : Opens) → Closes (find (offers m q o).fixed rpar)
  closes at_statement o = nowhere (none_begins m.pvl o).2
  closes at_semicolon o = nowhere (none_follows m.pvl o).2
  closes at_equals o = tt
  closes at_pointer o = tt
  closes (at_opener k) o = tt
  closes (at_opened k) o = tt
  closes (at_closer n) o = nowhere (none_follows m.pvl o).2
  closes (at_closed n) o = tt
  closes (at_scalar c a) o = else_closes a m c o
  closes (at_number c) o = follows_closes c o
  closes (at_member g) o = members_closes m.version_1 g o
  closes at_row o = subst Closes (sym (rows_end_found m.version_1 o)) a_value_done
  closes at_next_row o = tt
  closes (at_unit c op) o = tt
  closes (at_power c op p) o = powers_closes m.version_1 c op p o
  closes (at_exponent c op p) o = tt
  closes (at_factor c) o = tt
  closes at_end o = tt

  leads : {q : State} {o : Opens} {r : List Row} (n : Next) → Closes n → judge strict n ≡ goes q o r → Done q
  leads never c e = absurd (refuses_goes e)
  leads {q} (go q' o r) c e = let z : q' ≡ q = cc in subst Done z c
  leads (past k q o r) c e = absurd c

  done : {q q' : State} {o o' : Opens} {rs : List Row} (es : List Placed) (p : Span) → Reach m strict q o (closed_by es p) q' o' rs → Done q'
  done [] p (by_step {q = q} {o = o} e here) = leads (find (offers m q o).fixed rpar) (closes q o) e
  done (x ∷ es) p (by_step e t) = done es p t

  goes_on : {q : State} → Done q → is_end q ≡ false
  goes_on a_value_done = refl
  goes_on a_row_done = refl

  -- ---- side by side

  beside : {q : State} → Done q → m.version_1 ≡ false → (o : Opens) (p : Span) → step m strict q o (the lpar on p) ≡ refuses 6
  beside a_value_done h o p = ap (judge strict) (none_follows m.pvl o).3
  beside a_row_done h o p = ap (λ (v : Bool). judge strict (find (rows v o) lpar)) h

  -- A `(` behind a `)` is refused with 6 at the `(`, if the elements up to the `)` begin a label: the second of two rows side by side, and whatever `(`
  -- stands behind a whole sequence. In version 1 alone the comma may be left out.
  pub side_by_side : {i : ℕ} {l g r : List ℕ} (es : List Placed) (p : Span) → m.version_1 ≡ false →
      Cut m 0 l (closed_by es p) i (g ++ (byte "(" ∷ r)) → Gap m g (byte "(" ∷ r) → Viable m strict (closed_by es p) → Judged m l (refused 6 (i + length g))
  side_by_side es p h c g v =
      let t = viable→taken m (trace m strict at_statement outside (closed_by es p)) v in
      let d = done es p t.3 in
      -- any span serves for that of the `(`: the step does not look at it
      misplaced {w = byte "(" ∷ []} c (reach_early m t.3 (goes_on d)) g (sign refl) (refused_at m _ t.3 (beside d h t.1 p))

  -- ---- behind the comma

  behind_comma : {q q' : State} {o' : Opens} {rs : List Row} (o : Opens) (p : Span) → Done q → step m strict q o (the comma on p) ≡ goes q' o' rs →
      q' ≡ at_next_row
  behind_comma o p a_value_done e = absurd (refuses_goes (sym (ap (judge strict) (none_follows m.pvl o).4) ∙ e))
  behind_comma {q' = q'} {o' = o'} {rs = rs} o p a_row_done e =
      let z : goes at_next_row o [] ≡ goes q' o' rs = sym (ap (judge strict) (rows_comma_found m.version_1 o)) ∙ e in cc

  comma_done : {q q' : State} {o o' : Opens} {rs : List Row} (es : List Placed) (p p' : Span) → Reach m strict q o (closed_by_comma es p p') q' o' rs →
      q' ≡ at_next_row
  comma_done [] p p' (by_step {q = q} {o = o} e (by_step {o = o'} f here)) =
      behind_comma o' p' (leads (find (offers m q o).fixed rpar) (closes q o) e) f
  comma_done (x ∷ es) p p' (by_step e t) = comma_done es p p' t

  not_a_row : (o : Opens) (x : Placed) → NotLpar x → step m strict at_next_row o x ≡ refuses 6
  not_a_row o x h =
      ap (judge strict) (each_only (λ x n. NotLpar x → n ≡ never) (λ x h. refl) (row_begins o ∷ []) (λ p h. absurd (h refl), tt) x h)

  -- Behind a `)` and a comma, an element that begins no row is refused with 6 at its start, if the elements up to the comma begin a label: `)`, a second
  -- comma, a scalar or a set where the next row should stand.
  pub no_row_behind : {i k : ℕ} {l g w r : List ℕ} {e : Elem} (es : List Placed) (p p' : Span) → (e ≡ the lpar → ⊥) →
      Cut m 0 l (closed_by_comma es p p') i (g ++ (w ++ r)) → Gap m g (w ++ r) → Spells m w e k r → Viable m strict (closed_by_comma es p p') →
      Judged m l (refused 6 (i + length g))
  no_row_behind {i} {k} {g = g} {w = w} {e = e} es p p' h c x s v =
      let t = viable→taken m (trace m strict at_statement outside (closed_by_comma es p p')) v in
      let d = comma_done es p p' t.3 in
      let y = placed i g w e k in
      misplaced c (reach_early m t.3 (ap is_end d)) x s
      (refused_at m y t.3 (ap (λ (q : State). step m strict q t.1 y) d ∙ not_a_row t.1 y h))
