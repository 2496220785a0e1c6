-- Rows out of their bodies, kind by kind, and the row at a place of the table.
use Prim.Native.Nat.{ℕ, zero, suc, ◌+◌, ◌-◌, ◌*◌, ◌^◌, ◌≤◌, ◌<◌}
use mathlib.Core.Bool.{Bool, true, false, cond}
use mathlib.Core.Path.{◌≡◌, refl, sym, ap, ap₂, subst, ◌∙◌}
use mathlib.Core.List.{List, [], ◌∷◌, ◌++◌}
use native.Mathlib.Omega.{arith}
use Rattle.std.specs.Prelude.{Option, Some, None, Result, Ok, Err}
use borrow.Author.Rules.{rules}
use borrow.Author.Tests.{eqb-true, ne_eqb, lt-leb}
use lib.Dec.{ltb, leb, eqb}
use lib.ListN.{length, get_or, drop, length-take, length-drop, drop_of_length-le}
use Rattle.rules.specs.Data as rule
use Rattle.rules.specs.Table.{op_number}
use Rattle.rules.proofs.Machine.Decoding as reader
use Rattle.rules.proofs.Machine.Decoding.{Decoded, nothing, got, decode, field, byte_then, span_then, moment_then, unit_then}
use Rattle.classes.specs.Places.{part, as_span}
use Rattle.classes.proofs.Runs.{unroll, joined}
use Rattle.rows.specs.Rows.{row_of, op_of, longest_row}
use Rattle.rows.specs.declared.UnknownOp.{UnknownOp}
use Rattle.rows.specs.declared.Row.{Row}
use Rattle.rows.specs.declared.Row.TheVariants as rows
use Rattle.rows.specs.declared.Kind.TheVariants as kinds
use Rattle.rows.specs.declared.Op as op
use Rattle.rows.specs.declared.Op.TheVariants as ops
use Rattle.rows.specs.Decoding.{fit, NumberAt, OctetAt, body_of, Body, UnitBody, Numbered, BodyGives, gives_none, gives_row, Decodes, no_row, a_row}
use Rattle.rows.proofs.Octets.{fit_size, fit_whole, signs}

-- ---- how long bodies are

pub length_is : (k j n : ℕ) → k ≡ j → n ≡ body_of j → n ≡ body_of k
length_is k j n e h = rw e h

pub no_length : (k : ℕ) → (k ≡ 1 → ⊥) → (k ≡ 2 → ⊥) → (k ≡ 3 → ⊥) → (k ≡ 5 → ⊥) → (k ≡ 10 → ⊥) → (k ≡ 11 → ⊥) → (k ≡ 12 → ⊥) → (k ≡ 13 → ⊥) → (k ≡ 14 → ⊥) →
    (k ≡ 15 → ⊥) → (k ≡ 99 → ⊥) → 0 ≡ body_of k
no_length k a b c d e f g h i j l =
    rw (ne_eqb k 1 a, ne_eqb k 2 b, ne_eqb k 3 c, ne_eqb k 5 d, ne_eqb k 10 e, ne_eqb k 11 f, ne_eqb k 12 g, ne_eqb k 13 h, ne_eqb k 14 i, ne_eqb k 15 j, ne_eqb k 99 l)

-- the kinds up to 23, and those beyond
pub not_near : (k j : ℕ) → 23 < k → j ≤ 23 → k ≡ j → ⊥
not_near k j h l e = omega arith

pub not_far : (k j : ℕ) → k ≤ 23 → 23 < j → k ≡ j → ⊥
not_far k j h l e = omega arith

pub ruleset lengths = (length_is, no_length, not_near, not_far, rules)

-- ---- spans

past : (n : ℕ) (b rest : List ℕ) → drop n (fit n b) ++ rest ≡ rest
past n b rest = ap (λ (l : List ℕ). l ++ rest) (drop_of_length-le (fit n b) {i = n} (omega (arith, fit_size n b)))

spans : (b : List ℕ) (x y : ℕ) (f : rule.Span → rule.Row) → NumberAt 2 0 b 0 x → NumberAt 2 0 b 2 y → (rest : List ℕ) → span_then (fit 4 b ++ rest) f ≡ got (f (as_span x y)) rest
spans b x y f p q rest = p.then 4 (omega arith) rest _ ∙ q.then 4 (omega arith) rest _ ∙ ap (λ (l : List ℕ). got (f (as_span x y)) l) (past 4 b rest)

pub of_body : (k : ℕ) (b : List ℕ) {j : ℕ} {r : Row} → k ≡ j → Body j b r → BodyGives k b (Some r)
of_body k b {j} {r} e h = subst (λ (i : ℕ). BodyGives i b (Some r)) (sym e) (gives_row h)

module _ (k : ℕ) (b : List ℕ) (x y : ℕ) where
  pub attribute_row : k ≡ 1 → NumberAt 2 0 b 0 x → NumberAt 2 0 b 2 y → BodyGives k b (Some (rows.Attribute x y))
  unfolding decode
  attribute_row e p q = of_body k b e (record { is = λ rest. spans b x y rule.attribute p q rest })

  pub pointer_row : k ≡ 2 → NumberAt 2 0 b 0 x → NumberAt 2 0 b 2 y → BodyGives k b (Some (rows.Pointer x y))
  unfolding decode
  pointer_row e p q = of_body k b e (record { is = λ rest. spans b x y rule.pointer p q rest })

  pub object_row : k ≡ 3 → NumberAt 2 0 b 0 x → NumberAt 2 0 b 2 y → BodyGives k b (Some (rows.Open kinds.Object x y))
  unfolding decode
  object_row e p q = of_body k b e (record { is = λ rest. spans b x y (rule.opened rule.object) p q rest })

  pub group_row : k ≡ 5 → NumberAt 2 0 b 0 x → NumberAt 2 0 b 2 y → BodyGives k b (Some (rows.Open kinds.Group x y))
  unfolding decode
  group_row e p q = of_body k b e (record { is = λ rest. spans b x y (rule.opened rule.group) p q rest })

  pub text_row_lem : k ≡ 13 → NumberAt 2 0 b 0 x → NumberAt 2 0 b 2 y → BodyGives k b (Some (rows.Text x y))
  unfolding decode
  text_row_lem e p q = of_body k b e (record { is = λ rest. spans b x y rule.a_text p q rest })

  pub symbol_row : k ≡ 14 → NumberAt 2 0 b 0 x → NumberAt 2 0 b 2 y → BodyGives k b (Some (rows.Symbol x y))
  unfolding decode
  symbol_row e p q = of_body k b e (record { is = λ rest. spans b x y rule.a_symbol p q rest })

-- ---- rows without a body

empty : (n : ℕ) (b rest : List ℕ) → n ≡ 0 → fit n b ++ rest ≡ rest
unfolding fit
empty n b rest e = rw e

bare : (j : ℕ) (b : List ℕ) (r : Row) → ((s : List ℕ) → decode (j ∷ s) ≡ got (row_of r) s) → body_of j ≡ 0 → Body j b r
bare j b r h e = record { is = λ rest. ap (λ (s : List ℕ). decode (j ∷ s)) (empty (body_of j) b rest e) ∙ h rest }

module _ (k : ℕ) (b : List ℕ) where
  pub object_end_row : k ≡ 4 → BodyGives k b (Some (rows.Close kinds.Object))
  unfolding decode
  object_end_row e = of_body k b e (bare 4 b _ (λ s. refl) refl)

  pub group_end_row : k ≡ 6 → BodyGives k b (Some (rows.Close kinds.Group))
  unfolding decode
  group_end_row e = of_body k b e (bare 6 b _ (λ s. refl) refl)

  pub sequence_row : k ≡ 20 → BodyGives k b (Some rows.Sequence)
  unfolding decode
  sequence_row e = of_body k b e (bare 20 b _ (λ s. refl) refl)

  pub sequence_end_row : k ≡ 21 → BodyGives k b (Some rows.SequenceEnd)
  unfolding decode
  sequence_end_row e = of_body k b e (bare 21 b _ (λ s. refl) refl)

  pub set_row : k ≡ 22 → BodyGives k b (Some rows.Set)
  unfolding decode
  set_row e = of_body k b e (bare 22 b _ (λ s. refl) refl)

  pub set_end_row : k ≡ 23 → BodyGives k b (Some rows.SetEnd)
  unfolding decode
  set_end_row e = of_body k b e (bare 23 b _ (λ s. refl) refl)

  pub last_row : (x : ℕ) → k ≡ 99 → NumberAt 2 0 b 0 x → BodyGives k b (Some (rows.Last x))
  unfolding decode
  last_row x e p = of_body k b e (record { is = λ rest. p.then 2 (omega arith) rest _ ∙ ap (λ (s : List ℕ). got (rule.last x) s) (past 2 b rest) })

  pub unit_row : (g : Option Row) → k ≡ 15 → BodyGives 15 b g → BodyGives k b g
  unit_row g e h = subst (λ (i : ℕ). BodyGives i b g) (sym e) h

-- ---- numbers

pub an_integer : (b : List ℕ) (v z : ℕ) (m : Bool) → NumberAt 8 0 b 0 v → m ≡ leb 9223372036854775808 v → z ≡ cond (leb 9223372036854775808 v) (9223372036854775808 + 9223372036854775808 - v) v → Body 10 b (rows.Integer m z)
unfolding decode
an_integer b v z m p f g = record {
  is = λ rest. p.then 8 (omega arith) rest _ ∙ ap₂ (λ (w : rule.Whole) (s : List ℕ). got (rule.an_integer w) s) (signs (256 ^ 8) 9223372036854775808 v m z refl f g) (past 8 b rest);
}

pub a_real : (b : List ℕ) (v z q y : ℕ) (m n : Bool) → NumberAt 8 0 b 0 v → NumberAt 2 0 b 8 q → m ≡ leb 9223372036854775808 v → z ≡ cond (leb 9223372036854775808 v) (9223372036854775808 + 9223372036854775808 - v) v →
    n ≡ leb 32768 q → y ≡ cond (leb 32768 q) (32768 + 32768 - q) q → Body 11 b (rows.Float (record { minus = m; number = z; below = n; power = y }))
unfolding decode
a_real b v z q y m n p p' f g f' g' = record {
  is = λ rest. p.then 10 (omega arith) rest _ ∙ p'.then 10 (omega arith) rest _
      ∙ ap₂ (λ (w w' : rule.Whole). got (rule.a_real (record { number = w; power = w' })) (drop 10 (fit 10 b) ++ rest)) (signs (256 ^ 8) 9223372036854775808 v m z refl f g) (signs (256 ^ 2) 32768 q n y refl f' g')
      ∙ ap (got _) (past 10 b rest);
}

pub a_moment : (b : List ℕ) (y n o p m d i j c z k : ℕ) (w : Bool) → NumberAt 2 0 b 1 y → NumberAt 4 0 b 8 n → NumberAt 2 0 b 12 o → OctetAt b 0 p → OctetAt b 3 m → OctetAt b 4 d → OctetAt b 5 i → OctetAt b 6 j → OctetAt b 7 c → OctetAt b 14 k →
    w ≡ leb 32768 o → z ≡ cond (leb 32768 o) (32768 + 32768 - o) o →
    Body 12 b (rows.Time (record { parts = p; year = y; month = m; day = d; hour = i; minute = j; second = c; nanoseconds = n; west = w; offset = z; mark = k }))
unfolding decode
a_moment b y n o p m d i j c z k w hy hn ho hp hm hd hi hj hc hk f g = record {
  is = λ rest. hp.then (longest_row - 1) (omega arith) rest _ ∙ hy.then (longest_row - 1) (omega arith) rest _ ∙ hm.then (longest_row - 1) (omega arith) rest _ ∙ hd.then (longest_row - 1) (omega arith) rest _ ∙ hi.then (longest_row - 1) (omega arith) rest _
      ∙ hj.then (longest_row - 1) (omega arith) rest _ ∙ hc.then (longest_row - 1) (omega arith) rest _ ∙ hn.then (longest_row - 1) (omega arith) rest _ ∙ ho.then (longest_row - 1) (omega arith) rest _
      ∙ hk.then (longest_row - 1) (omega arith) rest _
      ∙ ap₂ (λ (x : rule.Whole) (s : List ℕ). got (rule.a_moment (record { parts = p; year = y; month = m; day = d; hour = i; minute = j; second = c; nanoseconds = n; offset = x; mark = k })) s)
      (signs (256 ^ 2) 32768 o w z refl f g) (past (longest_row - 1) b rest);
}

-- ---- units

op_found : (p : op.Op) → reader.op_numbered (op_number (op_of p)) ≡ op_of p
op_found ops.First = refl
op_found ops.Times = refl
op_found ops.Divided = refl

pub unit_of : (p : op.Op) (b : List ℕ) (v x y z : ℕ) (m : Bool) → NumberAt 1 0 b 5 v → NumberAt 2 0 b 1 x → NumberAt 2 0 b 3 y → m ≡ leb 128 v → z ≡ cond (leb 128 v) (128 + 128 - v) v → UnitBody p b (rows.Unit p x y m z)
unit_of p b v x y z m hv hx hy f g = record {
  is = λ rest. hx.then 6 (omega arith) rest _ ∙ hy.then 6 (omega arith) rest _ ∙ hv.then 6 (omega arith) rest _
      ∙ ap₂ (λ (o : rule.Op) (w : rule.Whole). got (rule.a_unit o (as_span x y) w) (drop 6 (fit 6 b) ++ rest)) (op_found p) (signs (256 ^ 1) 128 v m z refl f g)
      ∙ ap (got _) (past 6 b rest);
}

module _ (b : List ℕ) (o : ℕ) (n : Result op.Op UnknownOp) (h : OctetAt b 0 o) (d : Numbered o n) where
  pub unit_some : (p : op.Op) (r : Row) → n ≡ Ok p → UnitBody p b r → BodyGives 15 b (Some r)
  unfolding decode
  unit_some p r e u = gives_row (record {
    is = λ rest. (subst (OctetAt b 0) (sym (subst (Numbered o) e d)) h).then 6 (omega arith) rest _ ∙ ap (λ (t : Bool). cond t (unit_then (op_number (op_of p)) (drop 1 (fit 6 b) ++ rest)) nothing) (small p) ∙ u.is rest;
  })
    where
      small : (p : op.Op) → leb (op_number (op_of p)) 2 ≡ true
      small ops.First = refl
      small ops.Times = refl
      small ops.Divided = refl

  pub unit_none : (x : UnknownOp) → n ≡ Err x → BodyGives 15 b None
  unfolding decode
  unit_none x e = gives_none (λ rest. h.then 6 (omega arith) rest _ ∙ ap (λ (t : Bool). cond t (unit_then o (drop 1 (fit 6 b) ++ rest)) nothing) (lt-leb o 2 (subst (Numbered o) e d)))

-- ---- no such kind

unknown : (k : ℕ) (s : List ℕ) → (k ≡ 1 → ⊥) → (k ≡ 2 → ⊥) → (k ≡ 3 → ⊥) → (k ≡ 4 → ⊥) → (k ≡ 5 → ⊥) → (k ≡ 6 → ⊥) → (k ≡ 10 → ⊥) → (k ≡ 11 → ⊥) → (k ≡ 12 → ⊥) → (k ≡ 13 → ⊥) →
    (k ≡ 14 → ⊥) → (k ≡ 15 → ⊥) → (k ≡ 20 → ⊥) → (k ≡ 21 → ⊥) → (k ≡ 22 → ⊥) → (k ≡ 23 → ⊥) → (k ≡ 99 → ⊥) → decode (k ∷ s) ≡ nothing
unfolding decode
unknown k s a b c d e f g h i j l m n o p q r =
    rw (
      ne_eqb k 1 a,
      ne_eqb k 2 b,
      ne_eqb k 3 c,
      ne_eqb k 4 d,
      ne_eqb k 5 e,
      ne_eqb k 6 f,
      ne_eqb k 10 g,
      ne_eqb k 11 h,
      ne_eqb k 12 i,
      ne_eqb k 13 j,
      ne_eqb k 14 l,
      ne_eqb k 15 m,
      ne_eqb k 20 n,
      ne_eqb k 21 o,
      ne_eqb k 22 p,
      ne_eqb k 23 q,
      ne_eqb k 99 r,
    )

pub no_kind : (k : ℕ) (t : List ℕ) → (k ≡ 1 → ⊥) → (k ≡ 2 → ⊥) → (k ≡ 3 → ⊥) → (k ≡ 4 → ⊥) → (k ≡ 5 → ⊥) → (k ≡ 6 → ⊥) → (k ≡ 10 → ⊥) → (k ≡ 11 → ⊥) → (k ≡ 12 → ⊥) → (k ≡ 13 → ⊥) →
    (k ≡ 14 → ⊥) → (k ≡ 15 → ⊥) → (k ≡ 20 → ⊥) → (k ≡ 21 → ⊥) → (k ≡ 22 → ⊥) → (k ≡ 23 → ⊥) → (k ≡ 99 → ⊥) → BodyGives k t None
no_kind k t a b c d e f g h i j l m n o p q r = gives_none (λ rest. unknown k (fit (body_of k) t ++ rest) a b c d e f g h i j l m n o p q r)

pub ruleset bodies = (attribute_row, pointer_row, object_row, group_row, text_row_lem, symbol_row, object_end_row, group_end_row, sequence_row, sequence_end_row, set_row, set_end_row, last_row, of_body, unit_row, an_integer, a_real, a_moment, unit_of, unit_some, unit_none, no_kind, not_near, not_far, rules)

-- ---- the row at a place

either : (c : Bool) (x y : Decoded) → (c ≡ true → x ≡ nothing) → (c ≡ false → y ≡ nothing) → cond c x y ≡ nothing
either true x y f g = f refl
either false x y f g = g refl

-- a reader that fails on whatever is left
field_none : (k a : ℕ) (s : List ℕ) (f : ℕ → List ℕ → Decoded) → ((v : ℕ) (t : List ℕ) → length t + k ≡ length s → f v t ≡ nothing) → field k a s f ≡ nothing
unfolding field
field_none zero a s f h = h a s (omega arith)
field_none (suc k) a [] f h = refl
field_none (suc k) a (x ∷ s) f h = either (ltb x 256) _ _ (λ e. field_none k (a * 256 + x) s f (λ v t q. h v t (omega arith))) (λ e. refl)

byte_none : (s : List ℕ) (f : ℕ → List ℕ → Decoded) → ((v : ℕ) (t : List ℕ) → length t + 1 ≡ length s → f v t ≡ nothing) → byte_then s f ≡ nothing
byte_none [] f h = refl
byte_none (x ∷ s) f h = h x s (omega arith)

module _ (s : List ℕ) where
  span_short : (f : rule.Span → rule.Row) → length s < 4 → span_then s f ≡ nothing
  span_short f h = field_none 2 0 s _ (λ v t e. field_none 2 0 t _ (λ w u q. absurd (omega arith)))

  real_short : (f : ℕ → ℕ → List ℕ → Decoded) → length s < 10 → field 8 0 s (λ v t. field 2 0 t (f v)) ≡ nothing
  real_short f h = field_none 8 0 s _ (λ v t e. field_none 2 0 t _ (λ w u q. absurd (omega arith)))

  moment_short : length s < longest_row - 1 → moment_then s ≡ nothing
  moment_short h =
      byte_none s _ (λ _ s₁ e₁. field_none 2 0 s₁ _ (λ _ s₂ e₂. byte_none s₂ _ (λ _ s₃ e₃. byte_none s₃ _ (λ _ s₄ e₄. byte_none s₄ _ (λ _ s₅ e₅. byte_none s₅ _ (λ _ s₆ e₆.
      byte_none s₆ _ (λ _ s₇ e₇. field_none 4 0 s₇ _ (λ _ s₈ e₈. field_none 2 0 s₈ _ (λ _ s₉ e₉. byte_none s₉ _ (λ _ s₁₀ e₁₀. absurd (omega arith)))))))))))

  unit_short : length s < 6 → byte_then s (λ op s. cond (leb op 2) (unit_then op s) nothing) ≡ nothing
  unit_short h =
      byte_none s _ (λ o s₁ e₁. either (leb o 2) _ _ (λ q. field_none 2 0 s₁ _ (λ _ s₂ e₂. field_none 2 0 s₂ _ (λ _ s₃ e₃. field_none 1 0 s₃ _ (λ _ s₄ e₄. absurd (omega arith))))) (λ q. refl))

  one_short : (k : ℕ) (f : ℕ → List ℕ → Decoded) → length s < k → field k 0 s f ≡ nothing
  one_short k f h = field_none k 0 s f (λ v t e. absurd (omega arith))

-- a body that is cut short
short : (k : ℕ) (s : List ℕ) → length s < body_of k → decode (k ∷ s) ≡ nothing
unfolding decode
short k s h =
    let l : (j : ℕ) → eqb k j ≡ true → length s < body_of j = λ j e. subst (λ (i : ℕ). length s < body_of i) (eqb-true k j e) h in
    either (eqb k 1) _ _ (λ e. span_short s rule.attribute (l 1 e)) (λ _.
    either (eqb k 2) _ _ (λ e. span_short s rule.pointer (l 2 e)) (λ _.
    either (eqb k 3) _ _ (λ e. span_short s (rule.opened rule.object) (l 3 e)) (λ _.
    either (eqb k 5) _ _ (λ e. span_short s (rule.opened rule.group) (l 5 e)) (λ _.
    either (eqb k 4) _ _ (λ e. let z : length s < 0 = l 4 e in absurd (omega arith)) (λ _.
    either (eqb k 6) _ _ (λ e. let z : length s < 0 = l 6 e in absurd (omega arith)) (λ _.
    either (eqb k 10) _ _ (λ e. one_short s 8 _ (l 10 e)) (λ _.
    either (eqb k 11) _ _ (λ e. real_short s _ (l 11 e)) (λ _.
    either (eqb k 12) _ _ (λ e. moment_short s (l 12 e)) (λ _.
    either (eqb k 13) _ _ (λ e. span_short s rule.a_text (l 13 e)) (λ _.
    either (eqb k 14) _ _ (λ e. span_short s rule.a_symbol (l 14 e)) (λ _.
    either (eqb k 15) _ _ (λ e. unit_short s (l 15 e)) (λ _.
    either (eqb k 20) _ _ (λ e. let z : length s < 0 = l 20 e in absurd (omega arith)) (λ _.
    either (eqb k 21) _ _ (λ e. let z : length s < 0 = l 21 e in absurd (omega arith)) (λ _.
    either (eqb k 22) _ _ (λ e. let z : length s < 0 = l 22 e in absurd (omega arith)) (λ _.
    either (eqb k 23) _ _ (λ e. let z : length s < 0 = l 23 e in absurd (omega arith)) (λ _.
    either (eqb k 99) _ _ (λ e. one_short s 2 _ (l 99 e)) (λ _. refl)))))))))))))))))

module _ (lent : List ℕ) (at : ℕ) where
  pub none_past : length lent ≤ at → Decodes lent at None
  unfolding decode
  none_past h = no_row (ap decode (drop_of_length-le lent h))

  pub cut_short : (k e : ℕ) → at < length lent → k ≡ get_or lent at 0 → e ≡ body_of k → length lent - at ≤ e → Decodes lent at None
  cut_short k e l q b h =
      no_row (ap decode (unroll lent at l) ∙ ap (λ (i : ℕ). decode (i ∷ drop (at + 1) lent)) (sym q) ∙ short k (drop (at + 1) lent) (omega (arith, length-drop (at + 1) lent)))

  module _ (k e : ℕ) (l : at < length lent) (q : k ≡ get_or lent at 0) (b : e ≡ body_of k) (h : e < length lent - at) where
    abbrev body : List ℕ
    body = part lent (at + 1) (at + 1 + e)

    split : decode (drop at lent) ≡ decode (k ∷ (fit (body_of k) body ++ drop (at + 1 + e) lent))
    split =
        let size : length body ≡ e = omega (arith, length-take (at + 1 + e - (at + 1)) (drop (at + 1) lent), length-drop (at + 1) lent) in
        ap decode (unroll lent at l) ∙ ap₂ (λ (i : ℕ) (s : List ℕ). decode (i ∷ s)) (sym q) (sym (joined lent (at + 1) (at + 1 + e) (omega arith)))
        ∙ ap (λ (s : List ℕ). decode (k ∷ (s ++ drop (at + 1 + e) lent))) (sym (fit_whole (body_of k) body (size ∙ b)))

    pub whole_row : (g : Option Row) (r : Row) → g ≡ Some r → BodyGives k (part lent (at + 1) (at + 1 + e)) g → Decodes lent at (Some (r, at + 1 + e))
    whole_row g r f w = go (subst (BodyGives k body) f w)
      where
        go : BodyGives k body (Some r) → Decodes lent at (Some (r, at + 1 + e))
        go (gives_row d) = a_row {next = at + 1 + e} (split ∙ d.is (drop (at + 1 + e) lent)) (omega arith) (omega arith)

    pub no_whole_row : (g : Option Row) → g ≡ None → BodyGives k (part lent (at + 1) (at + 1 + e)) g → Decodes lent at None
    no_whole_row g f w = go (subst (BodyGives k body) f w)
      where
        go : BodyGives k body None → Decodes lent at None
        go (gives_none d) = no_row (split ∙ d (drop (at + 1 + e) lent))

pub ruleset rowed = (none_past, cut_short, whole_row, no_whole_row, rules)

-- ---- what an answer tells

pub record RowAt (lent : List ℕ) (at : ℕ) (row : Row) (next : ℕ) : Type 0 where
  pub is : decode (drop at lent) ≡ got (row_of row) (drop next lent)
  pub further : at < next
  pub within : next ≤ length lent

module _ {lent : List ℕ} {at : ℕ} {g : Option (Row × ℕ)} (d : Decodes lent at g) where
  pub row_there : {row : Row} {next : ℕ} → g ≡ Some (row, next) → RowAt lent at row next
  row_there {row} {next} e = go (subst (Decodes lent at) e d)
    where
      go : Decodes lent at (Some (row, next)) → RowAt lent at row next
      go (a_row i l m) = record { is = i; further = l; within = m }

  pub none_there : g ≡ None → decode (drop at lent) ≡ nothing
  none_there e = go (subst (Decodes lent at) e d)
    where
      go : Decodes lent at None → decode (drop at lent) ≡ nothing
      go (no_row i) = i
