-- What is asked of a table has one answer, and every question has one.
use Prim.Native.Nat.{ℕ, ◌≤◌, ◌<◌}
use mathlib.Core.Path.{◌≡◌, refl, sym, ap, subst, ◌∙◌}
use mathlib.Core.Bool.{true, cond, false≢true, true≢false}
use mathlib.Core.List.{List, [], ◌∷◌, nil≢cons}
use mathlib.Core.Option.{Option, none, some}
use native.Mathlib.Omega.{arith}
use borrow.Author.Tests.{le-leb, lt-leb, leb-true, leb-false}
use lib.Dec.{leb}
use lib.ListN.{length}
use Rattle.rules.specs.Data.{Span, Row, attribute, pointer, opened, closed, an_integer, a_real, a_moment, a_text, a_symbol, a_unit, sequence, sequence_end, set, set_end, last}
use Rattle.rules.specs.Reading.{longest, Said}
use Rattle.rules.specs.Proper.{stretch, Proper, Verdict, proper_rows, improper_at, Ruled, is_proper}
use Rattle.rules.specs.Meaning.{reassemble}
use Rattle.rules.specs.Asked.{From, Starts, says, long_label, no_table, Rows, Texted, text_refused, no_text, short_room, given, Names, of_attribute, of_pointer, of_block, of_symbol, of_unit, Shows, Viewed, in_view, no_view, Line, an_attribute, a_pointer, an_opening, a_closing, the_last, Finding, stands, absent, Looks, Sought, search_refused, no_line, no_name, at_offset}
use Rattle.rules.proofs.Options.{none_some, some_same}
use Rattle.rules.proofs.Tables.Tests.{cond-case}
use Rattle.rules.proofs.Tables.Judge.{same_rows, not_both, verdict_sound, verdict_once, verdict_complete}
use Rattle.rules.proofs.Machine.Verdicts.{judge_table}
use Rattle.rules.proofs.Machine.Lookup.{from_of, seeks}
use Rattle.rules.proofs.Tables.Seeking.{from_is, from_there, looks_is, looks_there}
use Rattle.rules.proofs.Machine.Queries.{span_of_text, span_of_name, is_line, from_row, from_span, texted_of, finding, sought_of, viewed_of}
use Rattle.rules.proofs.Machine.Verdicts.{on_verdict}
use Rattle.rules.proofs.Machine.Returns.{Return, returns}

-- ---- what a row shows

text_there : (r : Row) {p : Span} → span_of_text r ≡ some p → r ≡ a_text p
text_there (attribute p) e = absurd (none_some e)
text_there (pointer p) e = absurd (none_some e)
text_there (opened k p) e = absurd (none_some e)
text_there (closed k) e = absurd (none_some e)
text_there (an_integer w) e = absurd (none_some e)
text_there (a_real x) e = absurd (none_some e)
text_there (a_moment t) e = absurd (none_some e)
text_there (a_text p) e = ap a_text (some_same e)
text_there (a_symbol p) e = absurd (none_some e)
text_there (a_unit op p w) e = absurd (none_some e)
text_there sequence e = absurd (none_some e)
text_there sequence_end e = absurd (none_some e)
text_there set e = absurd (none_some e)
text_there set_end e = absurd (none_some e)
text_there (last n) e = absurd (none_some e)

name_is : {r : Row} {p : Span} → Names r p → span_of_name r ≡ some p
name_is of_attribute = refl
name_is of_pointer = refl
name_is of_block = refl
name_is of_symbol = refl
name_is of_unit = refl

name_there : (r : Row) {p : Span} → span_of_name r ≡ some p → Names r p
name_there (attribute p) e = subst (Names (attribute p)) (some_same e) of_attribute
name_there (pointer p) e = subst (Names (pointer p)) (some_same e) of_pointer
name_there (opened k p) e = subst (Names (opened k p)) (some_same e) of_block
name_there (closed k) e = absurd (none_some e)
name_there (an_integer w) e = absurd (none_some e)
name_there (a_real x) e = absurd (none_some e)
name_there (a_moment t) e = absurd (none_some e)
name_there (a_text p) e = absurd (none_some e)
name_there (a_symbol p) e = subst (Names (a_symbol p)) (some_same e) of_symbol
name_there (a_unit op p w) e = subst (Names (a_unit op p w)) (some_same e) of_unit
name_there sequence e = absurd (none_some e)
name_there sequence_end e = absurd (none_some e)
name_there set e = absurd (none_some e)
name_there set_end e = absurd (none_some e)
name_there (last n) e = absurd (none_some e)

line_is : {r : Row} → Line r → is_line r ≡ true
line_is an_attribute = refl
line_is a_pointer = refl
line_is an_opening = refl
line_is a_closing = refl
line_is the_last = refl

line_there : (r : Row) → is_line r ≡ true → Line r
line_there (attribute p) e = an_attribute
line_there (pointer p) e = a_pointer
line_there (opened k p) e = an_opening
line_there (closed k) e = a_closing
line_there (an_integer w) e = absurd (false≢true e)
line_there (a_real x) e = absurd (false≢true e)
line_there (a_moment t) e = absurd (false≢true e)
line_there (a_text p) e = absurd (false≢true e)
line_there (a_symbol p) e = absurd (false≢true e)
line_there (a_unit op p w) e = absurd (false≢true e)
line_there sequence e = absurd (false≢true e)
line_there sequence_end e = absurd (false≢true e)
line_there set e = absurd (false≢true e)
line_there set_end e = absurd (false≢true e)
line_there (last n) e = the_last

first_same : {r r' : Row} {qs qs' : List Row} → r ∷ qs ≡ r' ∷ qs' → r ≡ r'
first_same e = cc

-- the rows of a proper table
pub is_rows : {given lent : List ℕ} {rows : List Row} → Ruled given lent (proper_rows rows) → Proper given rows
is_rows (is_proper e p) = p

-- ---- no second outcome, and one for every question

outcome_same : {s s' : Said} {r r' : List ℕ} → returns s r ≡ returns s' r' → (s ≡ s') × (r ≡ r')
outcome_same e = (ap (λ (o : Return). o.said) e, ap (λ (o : Return). o.room) e)

module _ (label lent : List ℕ) (row : ℕ) where
  -- of the rows of a proper table
  told : {A : Type 0} (rows : List Row) → Rows label lent rows → (a : A) (f : ℕ → A) (g : List Row → A) → cond (leb (length label) longest) (on_verdict (judge_table label lent) f g) a ≡ g rows
  told rows t a f g = rw (le-leb (length label) longest t.short, verdict_complete label t.short lent t.proper)

  -- of every label and table: too long, not proper, or these rows
  each : {A : Type 0} (G : A → Type 0) (a : A) (f : ℕ → A) (g : List Row → A) → (longest < length label → G a) → ((at : ℕ) → length label ≤ longest → Ruled label lent (improper_at at) → G (f at)) →
      ((rows : List Row) → Rows label lent rows → G (g rows)) → G (cond (leb (length label) longest) (on_verdict (judge_table label lent) f g) a)
  each G a f g x y z = cond-case G (leb (length label) longest) _ _ (λ h. go (leb-true (length label) longest h) (judge_table label lent) (verdict_sound label (leb-true (length label) longest h) lent)) (λ h. x (leb-false (length label) longest h))
    where
      go : length label ≤ longest → (v : Verdict) → Ruled label lent v → G (on_verdict v f g)
      go h (proper_rows rows) v = z rows (record { short = h; proper = v })
      go h (improper_at at) v = y at h v

  starts_is : {A : Type 0} {rows : List Row} {r : Row} (a : A) (f : Row → A) → Starts row rows r → from_row (from_of row rows) a f ≡ f r
  starts_is a f (qs, h) = rw (from_is h)

  -- the row that starts there, or none does
  each_row : {A : Type 0} (G : A → Type 0) (a : A) (f : Row → A) (rows : List Row) → (((r : Row) → Starts row rows r → ⊥) → G a) → ((r : Row) → Starts row rows r → G (f r)) → G (from_row (from_of row rows) a f)
  each_row G a f rows x y = go (from_of row rows) refl
    where
      go : (qs : List Row) → from_of row rows ≡ qs → G (from_row qs a f)
      go [] e = x (λ r h. nil≢cons (sym e ∙ from_is h.1))
      go (r ∷ qs) e = y r (qs, from_there row rows e)

  each_span : {A : Type 0} (G : A → Type 0) (a : A) (f : Span → A) (o : Option Span) → (o ≡ none → G a) → ((p : Span) → o ≡ some p → G (f p)) → G (from_span o a f)
  each_span G a f none x y = x refl
  each_span G a f (some p) x y = y p refl

  starts_once : {rows : List Row} {r r' : Row} → Starts row rows r → Starts row rows r' → r ≡ r'
  starts_once (qs, h) (qs', h') = first_same (sym (from_is h) ∙ from_is h')

  -- the text

  module _ (room : List ℕ) where
    abbrev Gives : Return → Type 0
    Gives o = Texted label lent row room o.said o.room

    abbrev NoText : List Row → Type 0
    NoText rows = (p : Span) → Starts row rows (a_text p) → ⊥

    pub texted_there : Gives (texted_of label lent row room)
    unfolding texted_of
    texted_there =
        each Gives _ _ _ (λ h. text_refused (long_label h)) (λ at h v. text_refused (no_table h v)) (λ rows t.
        each_row Gives _ _ rows (λ n. no_text t (λ p. n (a_text p))) (λ r st.
        each_span Gives _ _ (span_of_text r) (λ e. no_text t (λ p st'. none_some (sym e ∙ ap span_of_text (starts_once st st')))) (λ p e.
        let st' : Starts row rows (a_text p) = subst (Starts row rows) (text_there r e) st in
        let w : List ℕ = reassemble (stretch label p) in
        cond-case Gives (leb (length w) (length room)) _ _ (λ h. given t st' (leb-true (length w) (length room) h)) (λ h. short_room t st' (leb-false (length w) (length room) h)))))

    pub texted_is : {r : List ℕ} {s : Said} → Texted label lent row room s r → texted_of label lent row room ≡ returns s r
    unfolding texted_of
    texted_is (text_refused (long_label h)) = rw (lt-leb (length label) longest h)
    texted_is (text_refused (no_table h v)) = rw (le-leb (length label) longest h, verdict_complete label h lent v)
    texted_is (no_text {rows = rows} t n) =
        told rows t _ _ _ ∙ each_row (λ (o : Return). o ≡ returns (says 15 0 0) room) _ _ rows (λ m. refl) (λ r st.
        each_span (λ (o : Return). o ≡ returns (says 15 0 0) room) _ _ (span_of_text r) (λ e. refl) (λ p e. absurd (n p (subst (Starts row rows) (text_there r e) st))))
    texted_is (short_room {rows = rows} {p = p} t st l) = told rows t _ _ _ ∙ starts_is _ _ st ∙ rw (lt-leb (length (reassemble (stretch label p))) (length room) l)
    texted_is (given {rows = rows} {p = p} t st l) = told rows t _ _ _ ∙ starts_is _ _ st ∙ rw (le-leb (length (reassemble (stretch label p))) (length room) l)

    pub texted_once : {r r' : List ℕ} {s s' : Said} → Texted label lent row room s r → Texted label lent row room s' r' → (s ≡ s') × (r ≡ r')
    texted_once a b = outcome_same (sym (texted_is a) ∙ texted_is b)

  -- the name

  pub shows_once : {p p' : Span} → Shows label lent row p → Shows label lent row p' → p ≡ p'
  shows_once a b =
      let e : a.rows ≡ b.rows = same_rows (verdict_once label a.told.short lent a.told.proper b.told.proper) in
      let f : a.shown ≡ b.shown = starts_once (subst (λ (rs : List Row). Starts row rs a.shown) e a.starts) b.starts in
      some_same (sym (name_is a.name) ∙ ap span_of_name f ∙ name_is b.name)

  pub viewed_once : {p p' : Span} → Viewed label lent row p → Viewed label lent row p' → p ≡ p'
  viewed_once (in_view a) (in_view b) = shows_once a b
  viewed_once (in_view {p = p} a) (no_view n) = absurd (n p a)
  viewed_once (no_view n) (in_view {p = p} a) = absurd (n p a)
  viewed_once (no_view n) (no_view m) = refl

  pub viewed_there : Viewed label lent row (viewed_of label lent row)
  unfolding viewed_of
  viewed_there =
      each (Viewed label lent row) _ _ _ (λ h. no_view (λ p a. omega (arith, a.told.short))) (λ at h v. no_view (λ p a. not_both (sym (verdict_once label h lent v a.told.proper)))) (λ rows t.
      each_row (Viewed label lent row) _ _ rows (λ n. no_view (λ p a. n a.shown (move rows t a))) (λ r st.
      each_span (Viewed label lent row) _ _ (span_of_name r) (λ e. no_view (λ p a. none_some (sym e ∙ ap span_of_name (starts_once st (move rows t a)) ∙ name_is a.name))) (λ p e.
      in_view (record { rows = rows; told = t; shown = r; starts = st; name = name_there r e }))))
    where
      move : (rows : List Row) → Rows label lent rows → {p : Span} (a : Shows label lent row p) → Starts row rows a.shown
      move rows t a = subst (λ (rs : List Row). Starts row rs a.shown) (same_rows (verdict_once label t.short lent a.told.proper t.proper)) a.starts

  -- the lookup

  module _ (name : List ℕ) where
    found_there : (rows qs : List Row) (r : Row) → Rows label lent rows → From row rows (r ∷ qs) → Line r → (z : Finding) → Looks label name row (r ∷ qs) z → Sought label lent name row (finding z)
    found_there rows qs r t f l (stands k) h = at_offset t f l h
    found_there rows qs r t f l absent h = no_name t f l h

    pub sought_there : Sought label lent name row (sought_of label lent name row)
    unfolding sought_of
    sought_there =
        let G : Said → Type 0 = Sought label lent name row in
        each G _ _ _ (λ h. search_refused (long_label h)) (λ at h v. search_refused (no_table h v)) (λ rows t.
        each_row G _ _ rows (λ n. no_line t (λ r st l. n r st)) (λ r st.
        cond-case G (is_line r) _ _
        (λ h. subst (λ (qs : List Row). G (finding (seeks label name 0 row qs))) (sym (from_is st.1))
        (found_there rows st.0 r t st.1 (line_there r h) _ (looks_there label name (is_rows t.proper) st.1)))
        (λ h. no_line t (λ r' st' l. true≢false (sym (line_is l) ∙ ap is_line (starts_once st' st) ∙ h)))))

    pub sought_is : {s : Said} → Sought label lent name row s → sought_of label lent name row ≡ s
    unfolding sought_of
    sought_is (search_refused (long_label h)) = rw (lt-leb (length label) longest h)
    sought_is (search_refused (no_table h v)) = rw (le-leb (length label) longest h, verdict_complete label h lent v)
    sought_is (no_line {rows = rows} t n) =
        let G : Said → Type 0 = λ z. z ≡ says 15 0 0 in
        told rows t _ _ _ ∙ each_row G _ _ rows (λ m. refl) (λ r st. cond-case G (is_line r) _ _ (λ h. absurd (n r st (line_there r h))) (λ h. refl))
    sought_is (no_name {rows = rows} {r = r} t f l k) = told rows t _ _ _ ∙ rw (from_is f, line_is l, looks_is label name k)
    sought_is (at_offset {rows = rows} {r = r} t f l k) = told rows t _ _ _ ∙ rw (from_is f, line_is l, looks_is label name k)

    pub sought_once : {s s' : Said} → Sought label lent name row s → Sought label lent name row s' → s ≡ s'
    sought_once a b = sym (sought_is a) ∙ sought_is b
