-- The ways out at the start of a statement, where the open blocks are looked at.
use Prim.Native.Nat.{ℕ, suc, ◌<◌}
use mathlib.Core.Path.{◌≡◌, refl, sym, ap, ◌∙◌}
use mathlib.Core.Bool.{Bool, true, false, false≢true}
use mathlib.Core.List.{List, [], ◌∷◌}
use Rattle.std.specs.Prelude.{Result, Err}
use Rattle.rules.specs.Modes.{base}
use Rattle.rules.specs.Grammar.{strict}
use Rattle.rules.proofs.Machine.Statements as machine
use Rattle.rules.specs.Data as rule
use Rattle.rules.specs.Data.{depth}
use Rattle.rules.proofs.Machine.Statements.{judge, dispatch, offers, a_statement, Entry, ◌⇒◌, Next, never, Offer}
use borrow.Author.Rules.{rules}
use native.Mathlib.Decide.{dec_lt}
use borrow.Author.Tests.{leb-true, leb-false}
use native.Mathlib.Omega.{arith}
use Rattle.steps.proofs.Ways.{known, numbered, halts_at, refused, halts_known, within_limit, past_limit}
use Rattle.steps.specs.Signs.{sign_of, open_code, Word, a_word}
use Rattle.elements.specs.Next.{placed_of}
use Rattle.steps.specs.States.{state_with, awaiting, is_full, Sees}
use Rattle.steps.specs.Steps.{nothing, one_row, giving, Does}
use Rattle.rows.specs.Rows.{deepest}
use Rattle.blocks.specs.Stack.{Block, block, many, opens_of}
use Rattle.elements.specs.declared.Element.{Element}
use Rattle.elements.specs.declared.Element.TheVariants.{Name, The, End, Integer, Based, Float, Time, Text, Symbol}
use Rattle.steps.specs.declared.Awaited.TheVariants as await
use Rattle.rows.specs.declared.Row.TheVariants as rows
use Rattle.rows.specs.declared.Kind as kind
use Rattle.words.specs.declared.Fixed as fixed
use Rattle.rows.specs.declared.Kind.TheVariants as kinds
use Rattle.std.specs.Prelude.{Option, None, Some}
use Rattle.steps.specs.declared.Misfit.TheVariants as misfits
use Rattle.steps.specs.declared.Misfit.{Misfit}
use Rattle.steps.specs.declared.State.{State}
use Rattle.steps.specs.declared.Stepped.{Stepped}
use Rattle.steps.proofs.Offers.{pass, keys, Isnt, is_it, is_not, Avoids, NoName, NoWord, NoEnd}

-- the cases of the open blocks
by_blocks : (P : List Block → Type 0) → P [] → ((a b : ℕ) (bs : List Block) → P (block kinds.Object a b ∷ bs)) → ((a b : ℕ) (bs : List Block) → P (block kinds.Group a b ∷ bs)) → (bs : List Block) → P bs
by_blocks P z f g [] = z
by_blocks P z f g (block kinds.Object a b ∷ bs) = f a b bs
by_blocks P z f g (block kinds.Group a b ∷ bs) = g a b bs

deep : (label : List ℕ) (bs : List Block) → depth (opens_of label bs) ≡ many bs
deep label [] = refl
deep label (block k a b ∷ bs) = ap suc (deep label bs)

-- ---- blocks and names

module _ {label : List ℕ} {t : State} {e : Element} {r : Result Stepped Misfit} where
  pub begins_name : {s : State} {a b : ℕ} → e ≡ Name a b → r ≡ giving s (one_row (rows.Attribute a b)) → s ≡ awaiting t await.Equals → Does label t machine.at_semicolon e r
  begins_name y z i = known y z i (record { room = λ x. tt; settles = (refl, refl, refl, refl) }) (by_blocks _ (λ v. refl) (λ a b bs v. refl) (λ a b bs v. refl))

  pub begins_pointer : {s : State} → sign_of e ≡ 94 → r ≡ giving s nothing → s ≡ awaiting t await.Pointer → Does label t machine.at_semicolon e r
  begins_pointer k z i = numbered k z i refl (record { room = λ x. tt; settles = (refl, refl, refl, refl) }) (by_blocks _ (λ v. refl) (λ a b bs v. refl) (λ a b bs v. refl))

  pub closes_object : {q : kind.Kind} {s : State} → sign_of e ≡ 2 → t.top ≡ Some q → q ≡ kinds.Object → r ≡ giving s (one_row (rows.Close kinds.Object)) → s ≡ awaiting t await.Closed → Does label t machine.at_semicolon e r
  closes_object k o p z i =
      let h : t.top ≡ Some kinds.Object = o ∙ ap Some p in
      numbered k z i refl (record { room = λ x. tt; settles = refl })
      (by_blocks _ (λ v. absurd (let z : ◌≡◌ {A = ℕ} 0 1 = cc (v.top, h) in omega arith)) (λ a b bs v. refl) (λ a b bs v. absurd (let z : ◌≡◌ {A = ℕ} 0 1 = cc (v.top, h) in omega arith)))

  pub closes_group : {q : kind.Kind} {s : State} → sign_of e ≡ 4 → t.top ≡ Some q → q ≡ kinds.Group → r ≡ giving s (one_row (rows.Close kinds.Group)) → s ≡ awaiting t await.Closed → Does label t machine.at_semicolon e r
  closes_group k o p z i =
      let h : t.top ≡ Some kinds.Group = o ∙ ap Some p in
      numbered k z i refl (record { room = λ x. tt; settles = refl })
      (by_blocks _ (λ v. absurd (let z : ◌≡◌ {A = ℕ} 0 1 = cc (v.top, h) in omega arith)) (λ a b bs v. absurd (let z : ◌≡◌ {A = ℕ} 0 1 = cc (v.top, h) in omega arith)) (λ a b bs v. refl))

-- ---- the depth

over : {t : State} (label : List ℕ) (bs : List Block) → is_full t ≡ true → Sees t bs → depth (opens_of label bs) < deepest → ⊥
over label bs f v h = omega (arith, leb-true deepest (many bs) (sym v.full ∙ f), deep label bs)

room : {t : State} (label : List ℕ) (bs : List Block) → is_full t ≡ false → Sees t bs → depth (opens_of label bs) < deepest
room label bs f v = omega (arith, leb-false deepest (many bs) (sym v.full ∙ f), deep label bs)

at_limit : (a b : Next) (d : ℕ) → (d < deepest → ⊥) → judge strict b ≡ judge strict (machine.chosen (dec_lt d deepest) a b)
at_limit a b d h = ap (judge strict) (sym (past_limit (dec_lt d deepest) a b h))

under : (a b : Next) (d : ℕ) → d < deepest → judge strict a ≡ judge strict (machine.chosen (dec_lt d deepest) a b)
under a b d h = ap (judge strict) (sym (within_limit (dec_lt d deepest) a b h))

module _ {label : List ℕ} {t : State} {e : Element} {r : Result Stepped Misfit} where
  pub opens_too_deep : (k : kind.Kind) {f : Bool} → sign_of e ≡ open_code k → f ≡ is_full t → f ≡ true → r ≡ Err misfits.TooDeep → Does label t machine.at_semicolon e r
  opens_too_deep kinds.Object s i h g =
      let f : is_full t ≡ true = sym i ∙ h in
      halts_at misfits.TooDeep s g refl
      (by_blocks _ (λ v. at_limit _ _ _ (over label [] f v)) (λ a b bs v. at_limit _ _ _ (over label (block kinds.Object a b ∷ bs) f v)) (λ a b bs v. at_limit _ _ _ (over label (block kinds.Group a b ∷ bs) f v)))
  opens_too_deep kinds.Group s i h g =
      let f : is_full t ≡ true = sym i ∙ h in
      halts_at misfits.TooDeep s g refl
      (by_blocks _ (λ v. at_limit _ _ _ (over label [] f v)) (λ a b bs v. at_limit _ _ _ (over label (block kinds.Object a b ∷ bs) f v)) (λ a b bs v. at_limit _ _ _ (over label (block kinds.Group a b ∷ bs) f v)))

  pub opens_block : {s : State} {k : kind.Kind} {f : Bool} → sign_of e ≡ open_code k → f ≡ is_full t → f ≡ false → r ≡ giving s nothing → s ≡ state_with t await.BlockEquals t.nest k t.op → Does label t machine.at_semicolon e r
  opens_block {k = kinds.Object} y j h z i =
      let f : is_full t ≡ false = sym j ∙ h in
      numbered y z i refl (record { room = λ x. f; settles = (refl, refl, refl, refl) })
      (by_blocks _ (λ v. under _ _ _ (room label [] f v)) (λ a b bs v. under _ _ _ (room label (block kinds.Object a b ∷ bs) f v)) (λ a b bs v. under _ _ _ (room label (block kinds.Group a b ∷ bs) f v)))
  opens_block {k = kinds.Group} y j h z i =
      let f : is_full t ≡ false = sym j ∙ h in
      numbered y z i refl (record { room = λ x. f; settles = (refl, refl, refl, refl) })
      (by_blocks _ (λ v. under _ _ _ (room label [] f v)) (λ a b bs v. under _ _ _ (room label (block kinds.Object a b ∷ bs) f v)) (λ a b bs v. under _ _ _ (room label (block kinds.Group a b ∷ bs) f v)))

-- ---- words that do not begin a statement there

-- what is taken there
abbrev taken : List ℕ → List Block → Offer
taken label bs = offers base machine.at_semicolon (opens_of label bs)

skips : (f : rule.Name → rule.Span → Next) (g : Bool → rule.Span → Next) (l : List Entry) (label : List ℕ) (e : Element) → Word e → Avoids e (keys l) → dispatch (a_statement f g l) (placed_of label e) ≡ never
skips f g [] label e a_word h = refl
skips f g (j ⇒ n ∷ l) label e w h = pass (a_statement f g l) label e j n h.0.isnt ∙ skips f g l label e w h.1

module _ {label : List ℕ} {t : State} {e : Element} {r : Result Stepped Misfit} where
  pub no_word_outside : Isnt e 94 → Isnt e 1 → Isnt e 3 → Word e → t.top ≡ None → r ≡ Err misfits.Misplaced → Does label t machine.at_semicolon e r
  no_word_outside i j k w h g =
      refused g (by_blocks _ (λ v. skips (taken label []).names (taken label []).ends (taken label []).fixed label e w (i, (j, (k, tt))))
      (λ a b bs v. absurd (let z : ◌≡◌ {A = ℕ} 0 1 = cc (v.top, h) in omega arith)) (λ a b bs v. absurd (let z : ◌≡◌ {A = ℕ} 0 1 = cc (v.top, h) in omega arith)))

  pub no_word_object : {q : kind.Kind} → Isnt e 94 → Isnt e 1 → Isnt e 3 → Isnt e 2 → Word e → t.top ≡ Some q → q ≡ kinds.Object → r ≡ Err misfits.Misplaced → Does label t machine.at_semicolon e r
  no_word_object i j k m w o p g =
      let h : t.top ≡ Some kinds.Object = o ∙ ap Some p in
      refused g (by_blocks _ (λ v. absurd (let z : ◌≡◌ {A = ℕ} 0 1 = cc (v.top, h) in omega arith))
      (λ a b bs v. skips (taken label (block kinds.Object a b ∷ bs)).names (taken label (block kinds.Object a b ∷ bs)).ends (taken label (block kinds.Object a b ∷ bs)).fixed label e w (m, (i, (j, (k, tt)))))
      (λ a b bs v. absurd (let z : ◌≡◌ {A = ℕ} 0 1 = cc (v.top, h) in omega arith)))

  pub no_word_group : {q : kind.Kind} → Isnt e 94 → Isnt e 1 → Isnt e 3 → Isnt e 4 → Word e → t.top ≡ Some q → q ≡ kinds.Group → r ≡ Err misfits.Misplaced → Does label t machine.at_semicolon e r
  no_word_group i j k m w o p g =
      let h : t.top ≡ Some kinds.Group = o ∙ ap Some p in
      refused g (by_blocks _ (λ v. absurd (let z : ◌≡◌ {A = ℕ} 0 1 = cc (v.top, h) in omega arith))
      (λ a b bs v. absurd (let z : ◌≡◌ {A = ℕ} 0 1 = cc (v.top, h) in omega arith))
      (λ a b bs v. skips (taken label (block kinds.Group a b ∷ bs)).names (taken label (block kinds.Group a b ∷ bs)).ends (taken label (block kinds.Group a b ∷ bs)).fixed label e w (m, (i, (j, (k, tt))))))

-- ---- END, and what cannot begin a statement

abbrev is_open : Option kind.Kind → Bool
is_open None = false
is_open (Some k) = true

not_statement : (f : rule.Name → rule.Span → Next) (g : Bool → rule.Span → Next) (l : List Entry) (label : List ℕ) (e : Element) → NoName e → NoWord e → NoEnd e → dispatch (a_statement f g l) (placed_of label e) ≡ never
not_statement f g l label (Name a b) h i j = absurd (h a b refl)
not_statement f g l label (The k a b) h i j = absurd (i k a b refl)
not_statement f g l label (End v a b) h i j = absurd (j v a b refl)
not_statement f g l label (Integer m v a b) h i j = refl
not_statement f g l label (Based m v a b) h i j = refl
not_statement f g l label (Float x a b) h i j = refl
not_statement f g l label (Time x a b) h i j = refl
not_statement f g l label (Text a b) h i j = refl
not_statement f g l label (Symbol a b) h i j = refl

pub the_word : {e : Element} {k : fixed.Fixed} {a b : ℕ} → e ≡ The k a b → Word e
the_word h = rw h a_word

module _ {label : List ℕ} {t : State} {e : Element} {r : Result Stepped Misfit} where
  pub no_statement : r ≡ Err misfits.Misplaced → NoName e → NoWord e → NoEnd e → Does label t machine.at_semicolon e r
  no_statement g h i j = refused g (by_blocks _ (λ v. not_statement (taken label []).names (taken label []).ends (taken label []).fixed label e h i j)
      (λ a b bs v. not_statement (taken label (block kinds.Object a b ∷ bs)).names (taken label (block kinds.Object a b ∷ bs)).ends (taken label (block kinds.Object a b ∷ bs)).fixed label e h i j)
      (λ a b bs v. not_statement (taken label (block kinds.Group a b ∷ bs)).names (taken label (block kinds.Group a b ∷ bs)).ends (taken label (block kinds.Group a b ∷ bs)).fixed label e h i j))

  pub ends_set_off : {s : State} {off : Bool} {a b : ℕ} → e ≡ End off a b → t.top ≡ None → off ≡ true → r ≡ giving s (one_row (rows.Last b)) → s ≡ awaiting t await.Ended → Does label t machine.at_semicolon e r
  ends_set_off y h o z i =
      known (rw o at y) z i (record { room = λ x. tt; settles = (refl, h) })
      (by_blocks _ (λ v. refl) (λ a b bs v. absurd (let z : ◌≡◌ {A = ℕ} 0 1 = cc (v.top, h) in omega arith)) (λ a b bs v. absurd (let z : ◌≡◌ {A = ℕ} 0 1 = cc (v.top, h) in omega arith)))

  pub ends_loose : {off : Bool} {a b : ℕ} → e ≡ End off a b → t.top ≡ None → off ≡ false → r ≡ Err misfits.EndNotSetOff → Does label t machine.at_semicolon e r
  ends_loose s h o g =
      halts_known misfits.EndNotSetOff (rw o at s) g
      (by_blocks _ (λ v. refl) (λ a b bs v. absurd (let z : ◌≡◌ {A = ℕ} 0 1 = cc (v.top, h) in omega arith)) (λ a b bs v. absurd (let z : ◌≡◌ {A = ℕ} 0 1 = cc (v.top, h) in omega arith)))

  pub ends_inside : {off : Bool} {a b : ℕ} {q : kind.Kind} → e ≡ End off a b → t.top ≡ Some q → r ≡ Err misfits.Misplaced → Does label t machine.at_semicolon e r
  ends_inside s h g =
      halts_known misfits.Misplaced s g (by_blocks _ (λ v. absurd (false≢true (ap is_open (sym v.top ∙ h)))) (λ a b bs v. refl) (λ a b bs v. refl))

pub ruleset begins = (is_it, is_not, begins_name, begins_pointer, closes_object, closes_group, opens_too_deep, opens_block, no_word_outside, no_word_object, no_word_group, no_statement, ends_set_off, ends_loose, ends_inside, the_word, rules)
