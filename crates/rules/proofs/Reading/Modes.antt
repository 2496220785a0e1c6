-- A label that a mode accepts, a mode that allows more accepts too, with the same table, if no bare BEGIN_GROUP stands in it
-- where only the other reserves that.
use Prim.Native.Nat.{ℕ}
use mathlib.Core.Bool.{Bool, true, false, cond, ◌&&◌, ◌||◌, false≢true}
use mathlib.Core.Option.{Option, some}
use mathlib.Core.Path.{◌≡◌, refl, sym, ap, subst, ◌∙◌}
use mathlib.Core.List.{List, [], ◌∷◌}
use borrow.Author.Tests.{eqb-true}
use lib.Dec.{leb, eqb}
use lib.ListN.{length}
use Rattle.rules.specs.Bytes.{ascii}
use Rattle.rules.specs.Data.{Span, Fixed, semicolon, Name, Elem, name, the, end, integer, based, real, moment, range, text, symbol, Placed, ◌on◌, Row, BEGIN_GROUP, Opens, outside, inside}
use Rattle.rules.specs.Grammar.{strict, Label}
use Rattle.rules.specs.Modes.{Mode}
use Rattle.rules.specs.Values.{Written, an_identifier, a_whole, a_based, a_decimal, a_date, a_time, a_date_time, a_range, value, named, same, within}
use Rattle.rules.specs.Words.{Shape, identifier_word, integer_word, based_word, real_word, date_word, time_word, date_time_word, range_word}
use Rattle.rules.specs.Elements.{look, signs, sign_of, is_blank, sets_off, Gap, no_gap, blank, remark, Spells, word, sign, one_star, two_stars, one_slash, quoted_text, quoted_symbol, Cut, none_more, next}
use Rattle.rules.specs.Reading.{accepted, Judged, follows}
use Rattle.rules.proofs.Machine.Statements.{Group, Place, alone, within as member_of, State, at_statement, at_semicolon, at_equals, at_pointer, at_opener, at_opened, at_closer, at_closed, at_scalar, at_number, at_member, at_row, at_next_row, at_unit, at_power, at_exponent, at_factor, at_end, Answer, refuses, goes, judge, statements, after_statement, members, follows as offered, step}
use Rattle.rules.proofs.Grammar.Run.{Reach, here, by_step}
use Rattle.rules.proofs.Grammar.Complete.{refuses_goes, complete}
use Rattle.rules.proofs.Grammar.Wider.{Allows, label_too}
use Rattle.rules.proofs.Tables.Tests.{same_true}
use Rattle.rules.proofs.Options.{none_some, some_same}

-- ---- an END that is not set off is refused everywhere

abbrev Refusal : Answer → Type 0
Refusal a = (c : ℕ) × (a ≡ refuses c)

ends_statements : (v : Bool) (o : Opens) (p : Span) → Refusal (judge strict ((statements v o).ends false p))
ends_statements v outside p = (9, refl)
ends_statements v (inside k n o) p = (6, refl)

ends_after : (v : Bool) (o : Opens) (p : Span) → Refusal (judge strict ((after_statement v o).ends false p))
ends_after true o p = ends_statements true o p
ends_after false o p = ends_statements false o p

ends_members : (v : Bool) (g : Group) (o : Opens) (p : Span) → Refusal (judge strict ((members v g o).ends false p))
ends_members true g o p = (6, refl)
ends_members false g o p = (6, refl)

module _ (m : Mode) where
  ends_offered : (c : Place) (o : Opens) (p : Span) → Refusal (judge strict ((offered m c o).ends false p))
  ends_offered alone o p = ends_after m.pvl o p
  ends_offered (member_of g) o p = ends_members m.version_1 g o p

  pub ends_offers : (q : State) (o : Opens) (p : Span) → Refusal (step m strict q o (end false on p))
  ends_offers at_statement o p = ends_statements m.pvl o p
  ends_offers at_semicolon o p = ends_after m.pvl o p
  ends_offers at_equals o p = (6, refl)
  ends_offers at_pointer o p = (6, refl)
  ends_offers (at_opener k) o p = (6, refl)
  ends_offers (at_opened k) o p = (6, refl)
  ends_offers (at_closer n) o p = ends_after m.pvl o p
  ends_offers (at_closed n) o p = (6, refl)
  ends_offers (at_scalar c a) o p = (6, refl)
  ends_offers (at_number c) o p = ends_offered c o p
  ends_offers (at_member g) o p = ends_members m.version_1 g o p
  ends_offers at_row o p = (6, refl)
  ends_offers at_next_row o p = (6, refl)
  ends_offers (at_unit c op) o p = (6, refl)
  ends_offers (at_power c op s) o p = (6, refl)
  ends_offers (at_exponent c op s) o p = (6, refl)
  ends_offers (at_factor c) o p = (6, refl)
  ends_offers at_end o p = (6, refl)

-- an element that is read alike: no END that is not set off, and no BEGIN_GROUP
abbrev Settled : Elem → Type 0
Settled (name n) = Unit {0}
Settled (the k) = Unit {0}
Settled (end b) = b ≡ true
Settled (integer w) = Unit {0}
Settled (based w) = Unit {0}
Settled (real x) = Unit {0}
Settled (moment t) = Unit {0}
Settled (range a b) = Unit {0}
Settled text = Unit {0}
Settled symbol = Unit {0}

pub data EachElement (P : Elem → Type 0) : List Placed → Type 0 where
  none_more_of : EachElement P []
  each_of : {e : Elem} {p : Span} {es : List Placed} → P e → EachElement P es → EachElement P (e on p ∷ es)

-- no bare BEGIN_GROUP
abbrev pub NoBeginGroup : Elem → Type 0
NoBeginGroup e = e ≡ name (ascii "BEGIN_GROUP") → ⊥

settled : (m : Mode) (q : State) (o : Opens) (e : Elem) (p : Span) {q' : State} {o' : Opens} {rs : List Row} → step m strict q o (e on p) ≡ goes q' o' rs → Settled e
settled m q o (name n) p h = tt
settled m q o (the k) p h = tt
settled m q o (end true) p h = refl
settled m q o (end false) p h = absurd (refuses_goes (sym (ends_offers m q o p).1 ∙ h))
settled m q o (integer w) p h = tt
settled m q o (based w) p h = tt
settled m q o (real x) p h = tt
settled m q o (moment t) p h = tt
settled m q o (range a b) p h = tt
settled m q o text p h = tt
settled m q o symbol p h = tt

all_settled : {m : Mode} {q q' : State} {o o' : Opens} {es : List Placed} {rs : List Row} → Reach m strict q o es q' o' rs → EachElement Settled es
all_settled here = none_more_of
all_settled {m} (by_step {q = q} {o = o} {x = e on p} h t) = each_of (settled m q o e p h) (all_settled t)

-- ---- names

otherwise : (e : Elem) (t : Bool) (x y y' : Option Elem) → (y ≡ some e → y' ≡ some e) → cond t x y ≡ some e → cond t x y' ≡ some e
otherwise e true x y y' f h = h
otherwise e false x y y' f h = f h

set_off : (e : Elem) (off off' : Bool) → (off ≡ true → off' ≡ true) → Settled e → ◌≡◌ {A = Option Elem} (some (end off)) (some e) → ◌≡◌ {A = Option Elem} (some (end off')) (some e)
set_off e true off' f s h = ap (λ (b : Bool). some (end b)) (f refl) ∙ h
set_off e false off' f s h = absurd (false≢true (subst Settled (sym (some_same h)) s))

an_end : (e : Elem) (off off' t : Bool) (y y' : Option Elem) → (off ≡ true → off' ≡ true) → Settled e → (y ≡ some e → y' ≡ some e) →
    cond t (some (end off)) y ≡ some e → cond t (some (end off')) y' ≡ some e
an_end e off off' true y y' f s g h = set_off e off off' f s h
an_end e off off' false y y' f s g h = g h

begin_group : (e : Elem) (n : Name) (p p' t : Bool) → (p ≡ true → p' ≡ true) → NoBeginGroup e → same n (ascii "BEGIN_GROUP") ≡ t →
    cond (p && t) (some (the BEGIN_GROUP)) (within (leb (length n) 60) (name n)) ≡ some e → cond (p' && t) (some (the BEGIN_GROUP)) (within (leb (length n) 60) (name n)) ≡ some e
begin_group e n true p' true f b k h = rw (f refl) h
begin_group e n false p' true f b k h = absurd (go (leb (length n) 60) h)
  where
    go : (c : Bool) → within c (name n) ≡ some e → ⊥
    go true h = b (sym (some_same h) ∙ ap name (same_true n (ascii "BEGIN_GROUP") k))
    go false h = none_some h
begin_group e n true true false f b k h = h
begin_group e n true false false f b k h = h
begin_group e n false true false f b k h = h
begin_group e n false false false f b k h = h

named_too : (p p' off off' : Bool) (n : Name) (e : Elem) → (p ≡ true → p' ≡ true) → (off ≡ true → off' ≡ true) → Settled e → NoBeginGroup e →
    named p off n ≡ some e → named p' off' n ≡ some e
named_too p p' off off' n e f g s b =
    an_end e off off' (same n (ascii "END")) _ _ g s
    (otherwise e (same n (ascii "OBJECT")) _ _ _ (otherwise e (same n (ascii "END_OBJECT")) _ _ _ (otherwise e (same n (ascii "GROUP")) _ _ _
    (otherwise e (same n (ascii "END_GROUP")) _ _ _ (otherwise e (same n (ascii "BEGIN_OBJECT")) _ _ _
    (begin_group e n p p' (same n (ascii "BEGIN_GROUP")) f b refl))))))

-- ---- elements

module _ (m m' : Mode) (w : Allows m m') where
  value_too : (off off' : Bool) (v : Written) (e : Elem) → (off ≡ true → off' ≡ true) → Settled e → NoBeginGroup e → value m off v ≡ some e → value m' off' v ≡ some e
  value_too off off' (an_identifier n) e g s b h = named_too m.pvl m'.pvl off off' n e w.pvl g s b h
  value_too off off' (a_whole n) e g s b h = h
  value_too off off' (a_based r k ds) e g s b h = h
  value_too off off' (a_decimal k ds fs z) e g s b h = h
  value_too off off' (a_date d) e g s b h = h
  value_too off off' (a_time t) e g s b h = h
  value_too off off' (a_date_time d t) e g s b h = h
  value_too off off' (a_range lo hi) e g s b h = h

  shape_too : {x : List ℕ} {v : Written} → Shape m x v → Shape m' x v
  shape_too (identifier_word x) = identifier_word x
  shape_too (integer_word x) = integer_word x
  shape_too (based_word x) = based_word x
  shape_too (real_word x) = real_word x
  shape_too (date_word x) = date_word x
  shape_too (time_word x) = time_word x
  shape_too (date_time_word x) = date_time_word x
  shape_too (range_word h x) = range_word (w.version_1 h) x

  sign_too : (b : ℕ) {f : Fixed} → sign_of m b ≡ some f → sign_of m' b ≡ some f
  sign_too b {f} h = go (eqb b 59) refl m.pvl refl h
    where
      go : (t : Bool) → eqb b 59 ≡ t → (p : Bool) → m.pvl ≡ p →
          cond (t && p) (some semicolon) (look signs b) ≡ some f → cond (t && m'.pvl) (some semicolon) (look signs b) ≡ some f
      go true k true i h = rw (w.pvl i) h
      go true k false i h = absurd (none_some (ap (look signs) (sym (eqb-true b 59 k)) ∙ h))
      go false k p i h = h

  off_too : (r : List ℕ) → sets_off m r ≡ true → sets_off m' r ≡ true
  off_too [] h = refl
  off_too (b ∷ r) h = go (is_blank b) (eqb b 59) m.pvl refl h
    where
      go : (u v p : Bool) → m.pvl ≡ p → (u || (v && p)) ≡ true → (u || (v && m'.pvl)) ≡ true
      go true v p i h = refl
      go false true true i h = w.pvl i
      go false true false i h = absurd (false≢true h)
      go false false p i h = absurd (false≢true h)

  gap_too : {g r : List ℕ} → Gap m g r → Gap m' g r
  gap_too no_gap = no_gap
  gap_too (blank {b} h t) = blank h (gap_too t)
  gap_too (remark c t) = remark c (gap_too t)

  spells_too : {x r : List ℕ} {e : Elem} {q : ℕ} → Spells m x e q r → Settled e → NoBeginGroup e → Spells m' x e q r
  spells_too (word {r = r} {e = e} t f) s b =
      word t (f.0, shape_too f.1, value_too (sets_off m r) (sets_off m' r) f.0 e (off_too r) s b f.2)
  spells_too (sign {b} {f} h) s n = sign (sign_too b h)
  spells_too (one_star h) s b = one_star h
  spells_too two_stars s b = two_stars
  spells_too (one_slash h) s b = one_slash h
  spells_too (quoted_text t) s b = quoted_text t
  spells_too (quoted_symbol t k) s b = quoted_symbol t k

  cut_too : {i j : ℕ} {l r : List ℕ} {es : List Placed} → Cut m i l es j r → EachElement Settled es → EachElement NoBeginGroup es → Cut m' i l es j r
  cut_too none_more none_more_of none_more_of = none_more
  cut_too (next g x y s c) (each_of a h) (each_of b k) = next g x (gap_too y) (spells_too s a b) (cut_too c h k)

  -- accepted with the same rows and place
  pub accepted_too : {l r : List ℕ} {es : List Placed} {i : ℕ} {rows : List Row} → Cut m 0 l es i r → Label m strict es rows → EachElement NoBeginGroup es →
      Judged m l (accepted rows i) × Judged m' l (accepted rows i)
  accepted_too c L b = (follows c L, follows (cut_too c (all_settled (complete m strict L)) b) (label_too m m' strict w L))
