-- The ways out of the steps: from the facts that led there to what the step does.
use Prim.Native.Nat.{ℕ, ◌≤◌, ◌<◌}
use mathlib.Core.Path.{◌≡◌, refl, sym, ap, ◌∙◌, subst}
use mathlib.Core.Bool.{Bool, true, false}
use mathlib.Core.List.{List, [], ◌∷◌}
use lib.Dec.{eqb, ltb}
use Rattle.std.specs.Prelude.{Result, Err}
use Rattle.rules.specs.Modes.{base}
use Rattle.rules.specs.Grammar.{strict}
use Rattle.rules.proofs.Machine.Statements as machine
use Rattle.rules.proofs.Machine.Statements.{is_end, judge, dispatch, offers, step, only, also, a_name, a_whole, Offer, Entry, ◌⇒◌, Next, never}
use Rattle.rules.specs.Data as rule
use borrow.Author.Rules.{rules}
use types.Run.{OneOf, miss}
use native.Mathlib.Decide.{dec_le}
use native.Mathlib.Omega.{arith}
use denote.Enum.Declared.{tag_of, declared}
use Rattle.elements.specs.contracts.Element.{enum}
use Rattle.steps.specs.Signs.{sign_of, code_of}
use Rattle.elements.specs.Next.{placed_of}
use Rattle.classes.specs.Places.{as_span}
use Rattle.rows.specs.Rows.{kind_of, op_of, place_in}
use Rattle.steps.specs.States.{state_in, following_in, awaiting, led_to, is_full, Sees, room_in, Room}
use Rattle.steps.specs.Steps.{Given, nothing, one_row, stop, number_of, giving, rows_of, stays, effect, answer_of, Leaves, Does}
use Rattle.blocks.specs.Stack.{Block, opens_of}
use Rattle.elements.specs.declared.Element.{Element}
use Rattle.elements.specs.declared.Element.TheVariants.{Name, The, End, Integer, Based, Float, Time, Text, Symbol}
use Rattle.steps.specs.declared.Awaited.TheVariants as await
use Rattle.rows.specs.declared.Row.TheVariants as rows
use Rattle.rows.specs.declared.Nest as nest
use Rattle.rows.specs.declared.Nest.TheVariants as nests
use Rattle.steps.specs.declared.Awaited.{Awaited}
use Rattle.steps.specs.declared.Misfit.{Misfit}
use Rattle.steps.specs.declared.Misfit.TheVariants as misfits
use Rattle.steps.specs.declared.State.{State}
use Rattle.steps.specs.declared.Stepped.{Stepped}
use Rattle.steps.proofs.Offers.{look, hit, pass, none_taken, keys, Isnt, is_it, is_not, Avoids, pass_all, not_name, not_whole, NoName, NoWhole}

module _ {label : List ℕ} {t : State} {q : machine.State} {e : Element} where
  made : (s : State) (g : Given) → Leaves label t e s g →
      ((bs : List Block) → Sees t bs → answer_of label bs s g ≡ judge strict (dispatch (offers base q (opens_of label bs)) (placed_of label e))) → Does label t q e (giving s g)
  unfolding giving
  made s nothing k h = record { leaves = k; does = h }
  made s (one_row row) k h = record { leaves = k; does = h }
  made s (stop m) k h = record { leaves = record { room = λ x. x; settles = refl }; does = h }

  refusing : (m : Misfit) → ((bs : List Block) → Sees t bs → machine.refuses (number_of m) ≡ judge strict (dispatch (offers base q (opens_of label bs)) (placed_of label e))) →
      Does label t q e (Err m)
  refusing m h = record { leaves = record { room = λ x. x; settles = refl }; does = h }

module _ {label : List ℕ} {t : State} {q : machine.State} {e : Element} {r : Result Stepped Misfit} where
  -- the general way: the machine's answer, for each list of open blocks
  pub shown : {s w : State} {g : Given} → r ≡ giving s g → s ≡ w → Leaves label t e w g →
      ((bs : List Block) → Sees t bs → answer_of label bs w g ≡ judge strict (dispatch (offers base q (opens_of label bs)) (placed_of label e))) →
      Does label t q e r
  shown {w = w} {g = g} z i k h = rw (z, i) (made w g k h)

  -- an element that is known
  pub known : {v : Element} {s w : State} {g : Given} → e ≡ v → r ≡ giving s g → s ≡ w → Leaves label t e w g →
      ((bs : List Block) → Sees t bs → answer_of label bs w g ≡ step base strict q (opens_of label bs) (placed_of label v)) →
      Does label t q e r
  known s z i k h = shown z i k (λ bs v. rw s (h bs v))

  -- an element of the number n
  pub numbered : {s w : State} {g : Given} {n : ℕ} → sign_of e ≡ n → r ≡ giving s g → s ≡ w → ltb 0 n ≡ true → Leaves label t e w g →
      ((bs : List Block) → Sees t bs → answer_of label bs w g ≡ judge strict (look (offers base q (opens_of label bs)).fixed n)) →
      Does label t q e r
  numbered {n = n} k z i p l h = shown z i l (λ bs v. rw (hit (offers base q (opens_of label bs)) label e n k p) (h bs v))

  pub halts_at : {n : ℕ} (m : Misfit) → sign_of e ≡ n → r ≡ Err m → ltb 0 n ≡ true →
      ((bs : List Block) → Sees t bs → machine.refuses (number_of m) ≡ judge strict (look (offers base q (opens_of label bs)).fixed n)) →
      Does label t q e r
  halts_at {n = n} m k g p h = rw g (refusing m (λ bs v. rw (hit (offers base q (opens_of label bs)) label e n k p) (h bs v)))

  -- a word or sign that it is tested for
  pub hits : {s w : State} {g : Given} {f : Bool} (n : ℕ) → f ≡ eqb (sign_of e) n → f ≡ true → r ≡ giving s g → s ≡ w → ltb 0 n ≡ true → Leaves label t e w g →
      ((bs : List Block) → Sees t bs → answer_of label bs w g ≡ judge strict (look (offers base q (opens_of label bs)).fixed n)) →
      Does label t q e r
  hits n y k = numbered (is_it e y k)

  pub refused : r ≡ Err misfits.Misplaced → ((bs : List Block) → Sees t bs → dispatch (offers base q (opens_of label bs)) (placed_of label e) ≡ never) → Does label t q e r
  refused g h = rw g (refusing misfits.Misplaced (λ bs v. rw (h bs v)))

  -- none of the entries, where only they are taken
  pub misses : r ≡ Err misfits.Misplaced → Avoids e (keys (offers base q rule.outside).fixed) →
      ((bs : List Block) → offers base q (opens_of label bs) ≡ only (offers base q (opens_of label bs)).fixed) →
      ((bs : List Block) → keys (offers base q rule.outside).fixed ≡ keys (offers base q (opens_of label bs)).fixed) →
      Does label t q e r
  misses g a f k =
      refused g (λ bs v. ap (λ (o : Offer). dispatch o (placed_of label e)) (f bs)
      ∙ pass_all (offers base q (opens_of label bs)).fixed label e (subst (λ (l : List ℕ). Avoids e l) (k bs) a))

  pub no_name : r ≡ Err misfits.Misplaced → NoName e →
      ((bs : List Block) → offers base q (opens_of label bs) ≡ a_name (offers base q (opens_of label bs)).names) →
      Does label t q e r
  no_name g h f = refused g (λ bs v. ap (λ (o : Offer). dispatch o (placed_of label e)) (f bs) ∙ not_name (offers base q (opens_of label bs)).names label e h)

  pub no_whole : r ≡ Err misfits.Misplaced → NoWhole e →
      ((bs : List Block) → offers base q (opens_of label bs) ≡ a_whole (offers base q (opens_of label bs)).integers) →
      Does label t q e r
  no_whole g h f = refused g (λ bs v. ap (λ (o : Offer). dispatch o (placed_of label e)) (f bs) ∙ not_whole (offers base q (opens_of label bs)).integers label e h)

-- the first entry of an offer
abbrev pub first : List Entry → Entry
first [] = rule.equals ⇒ never
first (e ∷ l) = e

abbrev pub key : Entry → ℕ
key (j ⇒ n) = code_of j

skip : (f : Offer) (label : List ℕ) (e : Element) (x : Entry) → (sign_of e ≡ key x → ⊥) → dispatch (also x f) (placed_of label e) ≡ dispatch f (placed_of label e)
skip f label e (j ⇒ n) h = pass f label e j n h

abbrev pub rest : List Entry → List Entry
rest [] = []
rest (e ∷ l) = l

-- what an offer has besides that of q' is passed over
module _ {label : List ℕ} {t : State} {q q' : machine.State} {e : Element} {r : Result Stepped Misfit} where
  pub passes : Does label t q' e r → Isnt e (key (first (offers base q rule.outside).fixed)) →
      ((bs : List Block) → offers base q (opens_of label bs) ≡ also (first (offers base q (opens_of label bs)).fixed) (offers base q' (opens_of label bs))) →
      ((bs : List Block) → key (first (offers base q (opens_of label bs)).fixed) ≡ key (first (offers base q rule.outside).fixed)) →
      Does label t q e r
  passes d h f k =
      record {
        leaves = d.leaves;
        does = λ bs v. d.does bs v ∙ ap (judge strict) (sym (ap (λ (o : Offer). dispatch o (placed_of label e)) (f bs)
            ∙ skip (offers base q' (opens_of label bs)) label e (first (offers base q (opens_of label bs)).fixed) (λ z. h.isnt (z ∙ k bs))));
      }

  pub passes2 : Does label t q' e r → Isnt e (key (first (offers base q rule.outside).fixed)) → Isnt e (key (first (rest (offers base q rule.outside).fixed))) →
      ((bs : List Block) → offers base q (opens_of label bs) ≡ also (first (offers base q (opens_of label bs)).fixed) (also (first (rest (offers base q (opens_of label bs)).fixed)) (offers base q' (opens_of label bs)))) →
      ((bs : List Block) → key (first (offers base q (opens_of label bs)).fixed) ≡ key (first (offers base q rule.outside).fixed)) →
      ((bs : List Block) → key (first (rest (offers base q (opens_of label bs)).fixed)) ≡ key (first (rest (offers base q rule.outside).fixed))) →
      Does label t q e r
  passes2 d h h' f k k' =
      record {
        leaves = d.leaves;
        does = λ bs v. d.does bs v ∙ ap (judge strict) (sym (ap (λ (o : Offer). dispatch o (placed_of label e)) (f bs)
            ∙ skip (also (first (rest (offers base q (opens_of label bs)).fixed)) (offers base q' (opens_of label bs))) label e (first (offers base q (opens_of label bs)).fixed) (λ z. h.isnt (z ∙ k bs))
            ∙ skip (offers base q' (opens_of label bs)) label e (first (rest (offers base q (opens_of label bs)).fixed)) (λ z. h'.isnt (z ∙ k' bs))));
      }

-- ---- the scalar is done

-- what follows it is the machine's own, asks no room, is not the end, and leaves the rest as it was
follows : (label : List ℕ) (t : State) (n : nest.Nest) → state_in label (following_in n) t ≡ machine.after (place_in n)
follows label t nests.Alone = refl
follows label t nests.Sequence = refl
follows label t nests.Row = refl
follows label t nests.Set = refl

follows_room : (n : nest.Nest) (full : Bool) → room_in (following_in n) full
follows_room nests.Alone full = tt
follows_room nests.Sequence full = tt
follows_room nests.Row full = tt
follows_room nests.Set full = tt

follows_going : (label : List ℕ) (t : State) (n : nest.Nest) → is_end (state_in label (following_in n) t) ≡ false
follows_going label t nests.Alone = refl
follows_going label t nests.Sequence = refl
follows_going label t nests.Row = refl
follows_going label t nests.Set = refl

follows_set : (label : List ℕ) (t s : State) (n : nest.Nest) → awaiting t (following_in n) ≡ led_to t (state_in label (following_in n) s)
follows_set label t s nests.Alone = refl
follows_set label t s nests.Sequence = refl
follows_set label t s nests.Row = refl
follows_set label t s nests.Set = refl

module _ {label : List ℕ} {t : State} {q : machine.State} {e : Element} {r : Result Stepped Misfit} {s : State} (g : Given) where
  -- the general way: nothing, or a row that leaves the blocks alone
  done : r ≡ giving s g → s ≡ awaiting t (following_in t.nest) → effect g ≡ stays →
      ((bs : List Block) → machine.goes (machine.after (place_in t.nest)) (opens_of label bs) (rows_of g) ≡ judge strict (dispatch (offers base q (opens_of label bs)) (placed_of label e))) →
      Does label t q e r
  done z i k h =
      let w : State = awaiting t (following_in t.nest) in
      shown z i (record { room = λ x. follows_room t.nest (is_full t); settles = rw k (follows_going label w t.nest, refl, refl, follows_set label t w t.nest) })
      (λ bs v. rw (k, follows label w t.nest) (h bs))

  -- by an element that is known
  pub scalar_known : {v : Element} {m : Awaited} → e ≡ v → m ≡ following_in t.nest → r ≡ giving s g → s ≡ awaiting t m → effect g ≡ stays →
      ((bs : List Block) → machine.goes (machine.after (place_in t.nest)) (opens_of label bs) (rows_of g) ≡ step base strict q (opens_of label bs) (placed_of label v)) →
      Does label t q e r
  scalar_known y f z i k h = done z (rw f at i) k (λ bs. rw y (h bs))

  -- by a sign that it is tested for
  pub scalar_signed : {f : Bool} (n : ℕ) → f ≡ eqb (sign_of e) n → f ≡ true → r ≡ giving s g → s ≡ awaiting t (following_in t.nest) → ltb 0 n ≡ true → effect g ≡ stays →
      ((bs : List Block) → machine.goes (machine.after (place_in t.nest)) (opens_of label bs) (rows_of g) ≡ judge strict (look (offers base q (opens_of label bs)).fixed n)) →
      Does label t q e r
  scalar_signed n y j z i p k h = done z i k (λ bs. rw (hit (offers base q (opens_of label bs)) label e n (is_it e y j) p) (h bs))

-- ---- limits

pub within_limit : {P : Type 0} (d : Dec P) (a b : Next) → P → machine.chosen d a b ≡ a
within_limit (yes h) a b p = refl
within_limit (no h) a b p = absurd (h p)

pub past_limit : {P : Type 0} (d : Dec P) (a b : Next) → (P → ⊥) → machine.chosen d a b ≡ b
past_limit (yes h) a b n = absurd (n h)
past_limit (no h) a b n = refl

-- ---- scalars and exponents

not_scalar : (c : machine.Place) (o : rule.Opens) (label : List ℕ) (e : Element) → OneOf (1 ∷ 2 ∷ []) (tag_of (declared enum) e) → dispatch (offers base (machine.at_scalar c machine.no_else) o) (placed_of label e) ≡ never
not_scalar c o label (The k a b) h = refl
not_scalar c o label (End f a b) h = refl
not_scalar c o label (Name a b) h = absurd (miss (1 ∷ 2 ∷ []) 0 tt h)
not_scalar c o label (Integer m v a b) h = absurd (miss (1 ∷ 2 ∷ []) 3 tt h)
not_scalar c o label (Based m v a b) h = absurd (miss (1 ∷ 2 ∷ []) 4 tt h)
not_scalar c o label (Float x a b) h = absurd (miss (1 ∷ 2 ∷ []) 5 tt h)
not_scalar c o label (Time x a b) h = absurd (miss (1 ∷ 2 ∷ []) 6 tt h)
not_scalar c o label (Text a b) h = absurd (miss (1 ∷ 2 ∷ []) 7 tt h)
not_scalar c o label (Symbol a b) h = absurd (miss (1 ∷ 2 ∷ []) 8 tt h)

pub no_scalar : {label : List ℕ} {t : State} {c : machine.Place} {e : Element} {r : Result Stepped Misfit} → r ≡ Err misfits.Misplaced → OneOf (1 ∷ 2 ∷ []) (tag_of (declared enum) e) → Does label t (machine.at_scalar c machine.no_else) e r
no_scalar {label} {c = c} {e = e} g h = refused g (λ bs v. not_scalar c (opens_of label bs) label e h)

pub after_end : {label : List ℕ} {t : State} {e : Element} {r : Result Stepped Misfit} → r ≡ Err misfits.Misplaced → Does label t machine.at_end e r
after_end {label} {e = e} g = refused g (λ bs v. none_taken label e)

-- a refusal at a known element
pub halts_known : {label : List ℕ} {t : State} {q : machine.State} {e v : Element} {r : Result Stepped Misfit} (m : Misfit) → e ≡ v → r ≡ Err m →
    ((bs : List Block) → Sees t bs → machine.refuses (number_of m) ≡ step base strict q (opens_of label bs) (placed_of label v)) → Does label t q e r
halts_known m s g h = rw g (refusing m (λ bs v. rw s (h bs v)))

pub too_large : {label : List ℕ} {t : State} {c : machine.Place} {p : rule.Op} {x : rule.Span} {e : Element} {r : Result Stepped Misfit} {m : Bool} {n a b : ℕ} →
    e ≡ Integer m n a b → 99 < n → r ≡ Err misfits.PastLimit → Does label t (machine.at_exponent c p x) e r
too_large {n = n} s h g = halts_known misfits.PastLimit s g (λ bs v. ap (judge strict) (sym (past_limit (dec_le n 99) _ _ (λ i. omega arith))))

pub in_limit : {label : List ℕ} {t : State} {e : Element} {r : Result Stepped Misfit} {s : State} {m : Bool} {n a b : ℕ} →
    e ≡ Integer m n a b → n ≤ 99 → r ≡ giving s (one_row (rows.Unit t.op t.from t.upto m n)) → s ≡ awaiting t await.AfterExponent →
    Does label t (machine.at_exponent (place_in t.nest) (op_of t.op) (as_span t.from t.upto)) e r
in_limit {n = n} y h z i = known y z i (record { room = λ x. tt; settles = (refl, refl, refl, refl) }) (λ bs v. ap (judge strict) (sym (within_limit (dec_le n 99) _ _ h)))

-- ---- a block is being opened, and there is room for it

in_room : (t : State) {m : Awaited} → t.awaited ≡ m → Room t → room_in m (is_full t)
in_room t h x = subst (λ (m : Awaited). room_in m (is_full t)) h x

pub opener_equals : {label : List ℕ} {t : State} {e : Element} {r : Result Stepped Misfit} {s : State} → t.awaited ≡ await.BlockEquals → sign_of e ≡ 61 → r ≡ giving s nothing → s ≡ awaiting t await.BlockName →
    Does label t (machine.at_opener (kind_of t.kind)) e r
opener_equals {t = t} h k z i = numbered k z i refl (record { room = in_room t h; settles = (refl, refl, refl, refl) }) (λ bs v. refl)

pub opened_name : {label : List ℕ} {t : State} {e : Element} {r : Result Stepped Misfit} {s : State} {a b : ℕ} → t.awaited ≡ await.BlockName → e ≡ Name a b → r ≡ giving s (one_row (rows.Open t.kind a b)) → s ≡ awaiting t await.Statement →
    Does label t (machine.at_opened (kind_of t.kind)) e r
opened_name {t = t} h y z i = known y z i (record { room = λ x. tt; settles = (y, in_room t h, refl) }) (λ bs v. refl)

pub ruleset ways = (is_it, is_not, known, hits, misses, no_name, no_whole, passes, passes2, scalar_known, scalar_signed, no_scalar, after_end, too_large, in_limit, rules)

pub ruleset openings = (is_it, is_not, opener_equals, opened_name, misses, no_name, rules)

pub ruleset unmet = (is_not, misses, rules)
