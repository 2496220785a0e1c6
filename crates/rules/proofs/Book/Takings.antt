-- Taking a label: every call has an outcome, and only one; what it does to the book and the room.
use Prim.Native.Nat.{ℕ, ◌≤◌, ◌<◌}
use mathlib.Core.Path.{◌≡◌, refl, sym, ap, subst, ◌∙◌}
use mathlib.Core.Bool.{cond}
use mathlib.Core.List.{List}
use native.Mathlib.Omega.{arith}
use borrow.Author.Tests.{ltb-true, ltb-false, lt-ltb, le-ltb, leb-true, leb-false, le-leb, lt-leb}
use lib.Dec.{leb, ltb}
use lib.ListN.{length}
use Rattle.rules.specs.Data.{Row}
use Rattle.rules.specs.Modes.{base}
use Rattle.rules.specs.Table.{table}
use Rattle.rules.specs.Reading.{Said, says, filled, Outcome, accepted, refused, Reads, Answered, stored, no_room, not_read}
use Rattle.rules.specs.Book.{Book, book, sum, with_one_more, full, Takes, counted, reader_refuses, book_full}
use Rattle.rules.proofs.Tables.Tests.{cond-case}
use Rattle.rules.proofs.Machine.Labels.{reader}
use Rattle.rules.proofs.Reading.Reader.{reads_sound, reads_complete}
use Rattle.rules.proofs.Rooms.{refusal_some, refusal_most, refused_reading}
use Rattle.rules.proofs.Book.Counting.{under_of, under_there, under_is}

-- what a taking says, and what it leaves
pub record Left : Type 0 where
  pub said : Said
  pub kept : Book
  pub room : List ℕ

abbrev pub leaves : Said → Book → List ℕ → Left
leaves s b r = record { said = s; kept = b; room = r }

-- of a label that is accepted, its table fitting
abbrev fitting : Book → List ℕ → List ℕ → List Row → ℕ → Left
fitting b l room rows i =
    cond (ltb (sum b.counts) full) (leaves (says 0 i (length (table rows))) (book (with_one_more b.counts (under_of l rows))) (filled (table rows) room))
    (leaves (says 16 0 0) b room)

abbrev on_reading : Book → List ℕ → List ℕ → Outcome → Left
on_reading b l room (accepted rows i) = cond (leb (length (table rows)) (length room)) (fitting b l room rows i) (leaves (says 11 i (length (table rows))) b room)
on_reading b l room (refused c i) = leaves (says c i 0) b room

unfoldable pub taken_of : Book → List ℕ → List ℕ → Left
taken_of b l room = on_reading b l room (reader base l)

-- no code of the reader is 16 or more
no_late : {l room : List ℕ} {s : Said} {r : List ℕ} → Answered base l room s r → 16 ≤ s.code → ⊥
no_late (stored r h) g = omega arith
no_late (no_room r h) g = omega arith
no_late (not_read r) g = omega (arith, refusal_most r)

module _ (b : Book) (l room : List ℕ) where
  abbrev Gives : Left → Type 0
  Gives o = Takes b l room o.said o.kept o.room

  pub taken_by : Gives (taken_of b l room)
  unfolding taken_of
  taken_by = go (reader base l) (reads_sound base l)
    where
      go : (z : Outcome) → Reads base l z → Gives (on_reading b l room z)
      go (accepted rows i) r =
          cond-case Gives (leb (length (table rows)) (length room)) _ _ (λ h. let k = leb-true (length (table rows)) (length room) h in
          cond-case Gives (ltb (sum b.counts) full) _ _ (λ g. counted r k (ltb-true (sum b.counts) full g) (under_there r)) (λ g. book_full r k (ltb-false (sum b.counts) full g)))
          (λ h. reader_refuses (no_room r (leb-false (length (table rows)) (length room) h)) (λ e. omega arith))
      go (refused c i) r = reader_refuses (not_read r) (λ e. omega (arith, refusal_some r))

  is : {s : Said} {b' : Book} {after : List ℕ} → Takes b l room s b' after → taken_of b l room ≡ leaves s b' after
  unfolding taken_of
  is (counted {rows} {i} {n} r h f u) = rw (reads_complete base r, le-leb (length (table rows)) (length room) h, lt-ltb (sum b.counts) full f, under_is u)
  is (book_full {rows} {i} r h f) = rw (reads_complete base r, le-leb (length (table rows)) (length room) h, le-ltb (sum b.counts) full f)
  is (reader_refuses a n) = go a n
    where
      go : {s : Said} {r : List ℕ} → Answered base l room s r → (s.code ≡ 0 → ⊥) → on_reading b l room (reader base l) ≡ leaves s b room
      go (stored r h) n = absurd (n refl)
      go (no_room {rows} {i} r h) n = rw (reads_complete base r, lt-leb (length (table rows)) (length room) h)
      go (not_read r) n = rw (reads_complete base r)

  -- every taking has an outcome
  pub taken_there : (s : Said) × (b' : Book) × (after : List ℕ) × Takes b l room s b' after
  taken_there = ((taken_of b l room).said, (taken_of b l room).kept, (taken_of b l room).room, taken_by)

  -- and no second one
  pub taken_once : {s s' : Said} {b₁ b₂ : Book} {r r' : List ℕ} → Takes b l room s b₁ r → Takes b l room s' b₂ r' → (s ≡ s') × (b₁ ≡ b₂) × (r ≡ r')
  taken_once x y =
      let e = sym (is x) ∙ is y in
      (ap (λ (o : Left). o.said) e, ap (λ (o : Left). o.kept) e, ap (λ (o : Left). o.room) e)

  -- book and room unchanged on every refusal
  pub refused_taking : {s : Said} {b' : Book} {after : List ℕ} → Takes b l room s b' after → (s.code ≡ 0 → ⊥) → (b' ≡ b) × (after ≡ room)
  refused_taking (counted r h f u) n = absurd (n refl)
  refused_taking (reader_refuses a m) n = (refl, refl)
  refused_taking (book_full r h f) n = (refl, refl)

  -- where the book is not full, it says what the reader says, and leaves in the room what the reader leaves there
  pub as_reading : {s : Said} {b' : Book} {after : List ℕ} → Takes b l room s b' after → sum b.counts < full → Answered base l room s after
  as_reading (counted r h f u) g = stored r h
  as_reading (reader_refuses a m) g = a
  as_reading (book_full r h f) g = absurd (omega arith)

  -- where it is full, it says what the reader says of a label that it refuses, and 16 of any other
  pub full_refuses : {s s' : Said} {b' : Book} {after after' : List ℕ} → Takes b l room s b' after → full ≤ sum b.counts → Answered base l room s' after' → (s'.code ≡ 0 → ⊥) → s ≡ s'
  full_refuses t f a n = (taken_once t (reader_refuses (subst (Answered base l room _) (refused_reading a n) a) n)).0

  pub full_sixteen : {s s' : Said} {b' : Book} {after after' : List ℕ} → Takes b l room s b' after → full ≤ sum b.counts → Answered base l room s' after' → s'.code ≡ 0 → s ≡ says 16 0 0
  full_sixteen t f (stored r h) e = (taken_once t (book_full r h f)).0
  full_sixteen t f (no_room r h) e = absurd (omega arith)
  full_sixteen t f (not_read r) e = absurd (omega (arith, refusal_some r))

  -- and 16 is said of no other book
  pub sixteen_full : {s : Said} {b' : Book} {after : List ℕ} → Takes b l room s b' after → s.code ≡ 16 → full ≤ sum b.counts
  sixteen_full (counted r h f u) e = absurd (omega arith)
  sixteen_full (book_full r h f) e = f
  sixteen_full (reader_refuses a n) e = absurd (no_late a (omega arith))

  -- every code from 16 on has place 0
  pub late_codes : {s : Said} {b' : Book} {after : List ℕ} → Takes b l room s b' after → 16 ≤ s.code → s.place ≡ 0
  late_codes (counted r h f u) g = absurd (omega arith)
  late_codes (book_full r h f) g = refl
  late_codes (reader_refuses a m) g = absurd (no_late a g)
