-- What a taking answers, from what the reader promises.
use Prim.Native.Nat.{ℕ, ◌-◌, ◌≤◌, ◌<◌}
use mathlib.Core.Path.{◌≡◌, refl, sym, ap, subst, ◌∙◌}
use mathlib.Core.List.{List}
use native.Mathlib.Omega.{arith}
use lib.ListN.{length, drop}
use lib.Seq.{take_at}
use Rattle.rules.specs.Data.{Row}
use Rattle.rules.specs.Modes.{base}
use Rattle.rules.specs.Table.{table}
use Rattle.rules.specs.Reading.{Said, says, filled, accepted, Reads, Answered, stored, no_room, not_read}
use Rattle.rules.specs.Book as rule
use Rattle.rules.specs.Book.{book, sum, with_one_more, full, Under, Takes, counted, reader_refuses, book_full}
use Rattle.rules.proofs.Rooms.{refusal_some, refusal_most, refused_reading}
use Rattle.classes.specs.Places.{part}
use Rattle.statements.specs.Answer.{accepted_said, refusal_said}
use Rattle.statements.specs.declared.outcome.Accepted.{Accepted}
use Rattle.statements.specs.declared.outcome.Refusal.{Refusal}
use Rattle.statements.specs.declared.outcome.Refusal.TheVariants.{TooLong, ForeignByte, LeftOpen, NoForm, PastLimit, Misplaced, OtherName, TooDeep, EndNotSetOff, EndsEarly, NoRoom}
use Rattle.book.specs.Answers.{untaken_said, MayAdd, TakenFull}
use Rattle.book.specs.Sessions.{Counts}
use Rattle.book.specs.declared.outcome.Untaken.TheVariants.{Unread, BookFull}

-- the reader's refusals are 1 to 11
codes : (r : Refusal) → (1 ≤ (refusal_said r).code) × ((refusal_said r).code ≤ 11)
codes TooLong = (omega arith, omega arith)
codes (ForeignByte p) = (omega arith, omega arith)
codes (LeftOpen p) = (omega arith, omega arith)
codes (NoForm p) = (omega arith, omega arith)
codes (PastLimit p) = (omega arith, omega arith)
codes (Misplaced p) = (omega arith, omega arith)
codes (OtherName p) = (omega arith, omega arith)
codes (TooDeep p) = (omega arith, omega arith)
codes (EndNotSetOff p) = (omega arith, omega arith)
codes (EndsEarly p) = (omega arith, omega arith)
codes (NoRoom a) = (omega arith, omega arith)

-- and 11 is want of room
lacks_room : (r : Refusal) → ((a : Accepted) → r ≡ NoRoom a → ⊥) → (refusal_said r).code ≡ 11 → ⊥
lacks_room TooLong h e = omega (arith, e)
lacks_room (ForeignByte p) h e = omega (arith, e)
lacks_room (LeftOpen p) h e = omega (arith, e)
lacks_room (NoForm p) h e = omega (arith, e)
lacks_room (PastLimit p) h e = omega (arith, e)
lacks_room (Misplaced p) h e = omega (arith, e)
lacks_room (OtherName p) h e = omega (arith, e)
lacks_room (TooDeep p) h e = omega (arith, e)
lacks_room (EndNotSetOff p) h e = omega (arith, e)
lacks_room (EndsEarly p) h e = omega (arith, e)
lacks_room (NoRoom a) h e = h a refl

-- ---- a full book, its label read into no room

-- every table is too long, but for an empty one
pub full_fits : {l own after : List ℕ} {t : Accepted} (n : ℕ) → length own ≡ 0 → Answered base l own (accepted_said t) after → TakenFull l n BookFull
full_fits {l} n z a = record { is = λ b room k f. go z a refl b room f }
  where
    go : {own after : List ℕ} {s : Said} → length own ≡ 0 → Answered base l own s after → s.code ≡ 0 → (b : rule.Book) (room : List ℕ) → full ≤ sum b.counts → Takes b l room (says 16 0 0) b room
    go z (stored r h) q b room f = book_full r (omega arith) f
    go z (no_room r h) q b room f = absurd (omega arith)
    go z (not_read r) q b room f = absurd (omega (arith, refusal_some r))

module _ {l own after : List ℕ} {t : Refusal} (n : ℕ) (a : Answered base l own (refusal_said t) after) where
  pub full_refused : ((x : Accepted) → t ≡ NoRoom x → ⊥) → TakenFull l n (Unread t)
  full_refused h = record { is = λ b room k f. go a (λ q. omega (arith, (codes t).0)) (lacks_room t h) b room }
    where
      go : {s : Said} {after : List ℕ} → Answered base l own s after → (s.code ≡ 0 → ⊥) → (s.code ≡ 11 → ⊥) → (b : rule.Book) (room : List ℕ) → Takes b l room s b room
      go (stored r h) i j b room = absurd (i refl)
      go (no_room r h) i j b room = absurd (j refl)
      go (not_read r) i j b room = reader_refuses (not_read r) i

  module _ {x : Accepted} (e : t ≡ NoRoom x) where
    lacks : Answered base l own (refusal_said (NoRoom x)) after
    lacks = subst (λ (y : Refusal). Answered base l own (refusal_said y) after) e a

    pub full_short : n < x.length → TakenFull l n (Unread (NoRoom x))
    full_short h = record { is = λ b room k f. go lacks refl b room (omega arith) }
      where
        go : {s : Said} {after : List ℕ} → Answered base l own s after → s.code ≡ 11 → (b : rule.Book) (room : List ℕ) → length room < s.size → Takes b l room s b room
        go (stored r h) q b room k = absurd (omega arith)
        go (no_room r h) q b room k = reader_refuses (no_room r k) (λ x. omega arith)
        go (not_read r) q b room k = absurd (omega (arith, refusal_most r))

    pub full_full : x.length ≤ n → TakenFull l n BookFull
    full_full h = record { is = λ b room k f. go lacks refl b room (omega arith) f }
      where
        go : {s : Said} {after : List ℕ} → Answered base l own s after → s.code ≡ 11 → (b : rule.Book) (room : List ℕ) → s.size ≤ length room → full ≤ sum b.counts → Takes b l room (says 16 0 0) b room
        go (stored r h) q b room k f = absurd (omega arith)
        go (no_room r h) q b room k f = book_full r k f
        go (not_read r) q b room k f = absurd (omega (arith, refusal_most r))

-- ---- any book

module _ (c : List ℕ) {l room after : List ℕ} where
  pub take_refused : (r : Refusal) → Answered base l room (refusal_said r) after → Takes (book c) l room (untaken_said (Unread r)) (book c) after
  take_refused r a =
      let i : (refusal_said r).code ≡ 0 → ⊥ = λ q. omega (arith, (codes r).0) in
      let e : after ≡ room = refused_reading a i in
      subst (Takes (book c) l room (refusal_said r) (book c)) (sym e) (reader_refuses (subst (Answered base l room (refusal_said r)) e a) i)

  module _ {t : Accepted} (a : Answered base l room (accepted_said t) after) {m k : ℕ} {lent : List ℕ} (e : m ≡ sum c) (i : m < full) (j : (lent ≡ part after 0 t.length) × (length lent ≤ length after)) (v : Counts l lent k) where
    -- the label was read, and its table stands in the room
    record Stored : Type 0 where
      rows : List Row
      past : ℕ
      reads : Reads base l (accepted rows past)
      fits : length (table rows) ≤ length room
      under : Under l rows k
      said_is : accepted_said t ≡ says 0 past (length (table rows))
      after_is : after ≡ filled (table rows) room

    is_stored : Stored
    is_stored = go a refl refl refl
      where
        go : {s' : Said} {after' : List ℕ} → Answered base l room s' after' → s'.code ≡ 0 → accepted_said t ≡ s' → after ≡ after' → Stored
        go (stored {rows} {i = p} r h) q x w =
            let n = t.length in
            let z : n ≡ length (table rows) = ap (λ (o : Said). o.size) x in
            let front : lent ≡ table rows = j.0 ∙ ap (λ (l : List ℕ). part l 0 n) w ∙ take_at (table rows) (drop (length (table rows)) room) (n - 0) (omega arith) in
            record { rows = rows; past = p; reads = r; fits = h; under = v.is rows (record { past = p; reads = r; bytes = front }); said_is = x; after_is = w }
        go (no_room r h) q x w = absurd (omega arith)
        go (not_read r) q x w = absurd (omega (arith, refusal_some r))

    pub may_add : MayAdd c k
    may_add = record { from = v.from; upto = v.upto; room = omega arith }

    pub take_counted : {c' : List ℕ} → c' ≡ with_one_more c k → Takes (book c) l room (accepted_said t) (book c') after
    take_counted w =
        let o = is_stored in
        subst (λ (y : List ℕ). Takes (book c) l room (accepted_said t) (book y) after) (sym w)
        (subst (λ (y : Said). Takes (book c) l room y (book (with_one_more c k)) after) (sym o.said_is)
        (subst (Takes (book c) l room (says 0 o.past (length (table o.rows))) (book (with_one_more c k))) (sym o.after_is) (counted o.reads o.fits (omega arith) o.under)))
