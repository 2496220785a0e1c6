-- Histories of calls: after any list of takings from an empty book the eight counters sum to the labels taken, and each counter to those of its weekday.
use Prim.Native.Nat.{ℕ, suc, ◌+◌, ◌-◌}
use mathlib.Core.Path.{◌≡◌, refl, sym, ap, ap₂, subst, ◌∙◌}
use mathlib.Core.Bool.{Bool, true, false}
use mathlib.Core.List.{List, [], ◌∷◌, map, nil≢cons}
use native.Mathlib.Omega.{arith}
use borrow.Author.Tests.{eqb-true, eqb-false, ne_eqb}
use lib.Dec.{eqb}
use lib.ListN.{length}
use Rattle.rules.specs.Data.{Row}
use Rattle.rules.specs.Modes.{base}
use Rattle.rules.specs.Reading.{Said}
use Rattle.rules.specs.Book.{Book, empty, sum, count, Under, Takes, counted, reader_refuses, book_full}
use Rattle.rules.specs.Book.{Taking, History, no_call, and-call, taken, Session, TakenUnder, none_taken, not_taken, under_other, under_this}
use Rattle.rules.proofs.Reading.Outcomes.{accepted_same}
use Rattle.rules.proofs.Reading.Reader.{reading_unique}
use Rattle.rules.proofs.Book.Counters.{Counter, below, more_length, sum_more, this_more, rest-equal}
use Rattle.rules.proofs.Book.Counting.{under_once, under_counter}
use Rattle.rules.proofs.Book.Takings.{taken_there, taken_once}

-- ---- a list of labels and rooms, whatever they are, has a history

-- the label and the room of a taking
abbrev pub lent : Taking → List ℕ × List ℕ
lent c = (c.label, c.room)

pub history_there : (b : Book) (ls : List (List ℕ × List ℕ)) → (cs : List Taking) × (b' : Book) × History b cs b' × (map lent cs ≡ ls)
history_there b [] = ([], b, no_call, refl)
history_there b ((l, room) ∷ ls) =
    let t = taken_there b l room in
    let h = history_there t.1 ls in
    (record { label = l; room = room; said = t.0; after = t.2 } ∷ h.0, h.1, and-call t.3 h.2, ap (λ (x : List (List ℕ × List ℕ)). (l, room) ∷ x) h.3)

-- and only one
same_cons : {x y : List ℕ × List ℕ} {xs ys : List (List ℕ × List ℕ)} → x ∷ xs ≡ y ∷ ys → (x ≡ y) × (xs ≡ ys)
same_cons e = (cc, cc)

pub history_once : {b b₁ b₂ : Book} {cs cs' : List Taking} → History b cs b₁ → History b cs' b₂ → map lent cs ≡ map lent cs' → (cs ≡ cs') × (b₁ ≡ b₂)
history_once no_call no_call e = (refl, refl)
history_once no_call (and-call u g) e = absurd (nil≢cons e)
history_once (and-call t h) no_call e = absurd (nil≢cons (sym e))
history_once {b} {b₁} {b₂} (and-call {c = c} {cs = cs} t h) (and-call {b₁ = d} {c = c'} {cs = cs'} u g) e =
    let q = same_cons e in
    let l : c.label ≡ c'.label = ap (λ (x : List ℕ × List ℕ). x.0) q.0 in
    let m : c.room ≡ c'.room = ap (λ (x : List ℕ × List ℕ). x.1) q.0 in
    let u' : Takes b c.label c.room c'.said d c'.after = subst (λ (x : List ℕ). Takes b x c.room c'.said d c'.after) (sym l) (subst (λ (x : List ℕ). Takes b c'.label x c'.said d c'.after) (sym m) u) in
    let o = taken_once b c.label c.room t u' in
    let r = history_once h (subst (λ (x : Book). History x cs' b₂) (sym o.1) g) q.1 in
    let k : c ≡ c' = same_taking c c' l m o.0 o.2 in
    (ap₂ (λ (x : Taking) (xs : List Taking). x ∷ xs) k r.0, r.1)
  where
    same_taking : (c c' : Taking) → c.label ≡ c'.label → c.room ≡ c'.room → c.said ≡ c'.said → c.after ≡ c'.after → c ≡ c'
    same_taking c c' e f g h = rw (e, f, g, h)

-- ---- the counters after it

-- a label's session has one counter, and so there is one number of them
pub session_once : {label : List ℕ} {n m : ℕ} → Session label n → Session label m → n ≡ m
session_once {label} {n} {m} a b =
    let e : a.rows ≡ b.rows = accepted_same (reading_unique base a.reads b.reads) in
    under_once (subst (λ (rs : List Row). Under label rs n) e a.under) b.under

pub taken_under_once : {n k j : ℕ} {cs : List Taking} → TakenUnder n cs k → TakenUnder n cs j → k ≡ j
taken_under_once none_taken none_taken = refl
taken_under_once (not_taken h t) (not_taken g u) = taken_under_once t u
taken_under_once (not_taken h t) (under_other e s d u) = absurd (h e)
taken_under_once (not_taken h t) (under_this e s u) = absurd (h e)
taken_under_once (under_other e s d t) (not_taken g u) = absurd (g e)
taken_under_once (under_other e s d t) (under_other f r h u) = taken_under_once t u
taken_under_once (under_other e s d t) (under_this f r u) = absurd (d (session_once s r))
taken_under_once (under_this e s t) (not_taken g u) = absurd (g e)
taken_under_once (under_this e s t) (under_other f r h u) = absurd (h (session_once r s))
taken_under_once (under_this e s t) (under_this f r u) = ap suc (taken_under_once t u)

-- what one taking does to the book
pub data Effect (b : Book) (label : List ℕ) (s : Said) (b' : Book) : Type 0 where
  nothing : (s.code ≡ 0 → ⊥) → b' ≡ b → Effect b label s b'
  one_session : {n : ℕ} → s.code ≡ 0 → Session label n → Counter n → length b'.counts ≡ length b.counts → sum b'.counts ≡ sum b.counts + 1 →
      count b'.counts n ≡ count b.counts n + 1 → ((m : ℕ) → Counter m → (m ≡ n → ⊥) → count b'.counts m ≡ count b.counts m) → Effect b label s b'

-- nothing on a refusal; on 0 exactly one counter is one more, and the rest equal
pub effect : {b b' : Book} {l room after : List ℕ} {s : Said} → length b.counts ≡ 8 → Takes b l room s b' after → Effect b l s b'
effect {b} e (counted {rows} {i} {n} r h f u) =
    let k = under_counter u in
    one_session refl (record { rows = rows; past = i; reads = r; under = u }) k (more_length b.counts n) (sum_more b.counts n e k) (this_more b.counts n e k) (rest-equal b.counts n e k)
effect e (reader_refuses a n) = nothing n refl
effect e (book_full r h f) = nothing (λ q. omega arith) refl

-- what a history adds to a book of eight counters
pub record Added (b : Book) (cs : List Taking) (b' : Book) : Type 0 where
  pub eight : length b'.counts ≡ 8
  pub sum_is : sum b'.counts ≡ sum b.counts + taken cs
  pub counter_is : (n : ℕ) → Counter n → (k : ℕ) × TakenUnder n cs k × (count b'.counts n ≡ count b.counts n + k)

no_more : (c : Taking) (cs : List Taking) → (c.said.code ≡ 0 → ⊥) → taken (c ∷ cs) ≡ taken cs
unfolding taken
no_more c cs n = rw (ne_eqb c.said.code 0 n)

one_more : (c : Taking) (cs : List Taking) → c.said.code ≡ 0 → taken (c ∷ cs) ≡ suc (taken cs)
unfolding taken
one_more c cs e = rw e

module _ {b b₁ b₂ : Book} (c : Taking) (cs : List Taking) (a : Added b₁ cs b₂) where
  after_nothing : (c.said.code ≡ 0 → ⊥) → b₁ ≡ b → Added b (c ∷ cs) b₂
  after_nothing n e =
      let a' : Added b cs b₂ = subst (λ (x : Book). Added x cs b₂) e a in
      record {
        eight = a'.eight;
        sum_is = omega (arith, a'.sum_is, no_more c cs n);
        counter_is = λ m k. let x = a'.counter_is m k in (x.0, not_taken n x.1, x.2);
      }

  after_session : {n : ℕ} → c.said.code ≡ 0 → Session c.label n → sum b₁.counts ≡ sum b.counts + 1 → count b₁.counts n ≡ count b.counts n + 1 →
      ((m : ℕ) → Counter m → (m ≡ n → ⊥) → count b₁.counts m ≡ count b.counts m) → Added b (c ∷ cs) b₂
  after_session {n} z s e f g = record {
    eight = a.eight;
    sum_is = omega (arith, a.sum_is, one_more c cs z);
    counter_is = λ m k. go m k (eqb m n) refl (a.counter_is m k);
  }
    where
      Goal : ℕ → Type 0
      Goal m = (k : ℕ) × TakenUnder m (c ∷ cs) k × (count b₂.counts m ≡ count b.counts m + k)

      go : (m : ℕ) → Counter m → (t : Bool) → eqb m n ≡ t → (k : ℕ) × TakenUnder m cs k × (count b₂.counts m ≡ count b₁.counts m + k) → Goal m
      go m k true q (i, u, x) =
          let w : m ≡ n = eqb-true m n q in
          let y : count b₁.counts m ≡ count b.counts m + 1 = subst (λ (v : ℕ). count b₁.counts v ≡ count b.counts v + 1) (sym w) f in
          (suc i, under_this z (subst (Session c.label) (sym w) s) u, omega arith)
      go m k false q (i, u, x) =
          let w : m ≡ n → ⊥ = eqb-false m n q in
          (i, under_other z s (λ v. w (sym v)) u, x ∙ sym (same-plus (g m k w) i))
        where
          same-plus : {p q : ℕ} → p ≡ q → (i : ℕ) → q + i ≡ p + i
          same-plus e i = rw e

pub added : {b b' : Book} {cs : List Taking} → length b.counts ≡ 8 → History b cs b' → Added b cs b'
unfolding taken
added {b} e no_call = record { eight = e; sum_is = omega arith; counter_is = λ n k. (0, none_taken, omega arith) }
added {b} {b'} e (and-call {b₁ = b₁} {c = c} {cs = cs} t h) = go (effect e t) (λ q. added q h)
  where
    go : Effect b c.label c.said b₁ → (length b₁.counts ≡ 8 → Added b₁ cs b') → Added b (c ∷ cs) b'
    go (nothing n q) f = after_nothing c cs (f (subst (λ (x : Book). length x.counts ≡ 8) (sym q) e)) n q
    go (one_session z s k l x y w) f = after_session c cs (f (l ∙ e)) z s x y w

-- From an empty book the eight counters sum to the labels taken, counted from the history of calls; each counter to those of its weekday.
pub from_empty : {b : Book} {cs : List Taking} → History empty cs b → (sum b.counts ≡ taken cs) × ((n : ℕ) → Counter n → TakenUnder n cs (count b.counts n))
from_empty {b} {cs} h = let a = added refl h in (omega (arith, a.sum_is), λ n k. go n (a.counter_is n k))
  where
    go : (n : ℕ) → (k : ℕ) × TakenUnder n cs k × (count b.counts n ≡ count empty.counts n + k) → TakenUnder n cs (count b.counts n)
    go n (k, u, e) = let q : k ≡ count b.counts n = omega (arith, below empty.counts (n - 1)) in subst (TakenUnder n cs) q u
