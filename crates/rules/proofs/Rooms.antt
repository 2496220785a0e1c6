-- What every call leaves in the room that it is lent; and that what follows the rules is taken, wherever there is room for it.
use Prim.Native.Nat.{ℕ, ◌≤◌, ◌<◌}
use native.Mathlib.Omega.{arith}
use mathlib.Core.Logic.{◌⊎◌, inl, inr}
use mathlib.Core.Bool.{Bool, true, false}
use mathlib.Core.Path.{◌≡◌, refl, subst}
use mathlib.Core.List.{List}
use borrow.Author.Tests.{leb-true, leb-false}
use lib.Dec.{leb}
use lib.ListN.{length, take, drop}
use lib.Seq.{take-append_seam, drop-append_seam}
use Rattle.rules.specs.Data.{Row}
use Rattle.rules.specs.Modes.{Mode}
use Rattle.rules.specs.Table.{table}
use Rattle.rules.specs.Reading.{longest, Outcome, accepted, refused, Judged, Reads, too_long, read, Said, Answered, stored, no_room, not_read}
use Rattle.rules.specs.Proper.{stretch, Proper, is_proper}
use Rattle.rules.specs.Meaning.{reassemble, meaning}
use Rattle.rules.specs.Written.{canonical}
use Rattle.rules.specs.Writing as writing
use Rattle.rules.specs.Writing.{Writes}
use Rattle.rules.specs.SameElements.{Ample}
use Rattle.rules.specs.Asked as asked
use Rattle.rules.specs.Asked.{Texted}
use Rattle.rules.proofs.Reading.Outcomes.{accepted_same, accepted_refused, refusal_given}
use Rattle.rules.proofs.Machine.Labels.{reader}
use Rattle.rules.proofs.Reading.Reader.{reads_sound, reading_unique, answered_unique}
use Rattle.rules.proofs.Written.Outcome.{writes_once}

-- ---- a reading

-- a refusal's code is not 0
pub refusal_some : {m : Mode} {l : List ℕ} {c i : ℕ} → Reads m l (refused c i) → 1 ≤ c
refusal_some (too_long h) = omega arith
refusal_some {m} (read h j) = omega (arith, (refusal_given m j).0.from)

-- and at most 10
pub refusal_most : {m : Mode} {l : List ℕ} {c i : ℕ} → Reads m l (refused c i) → c ≤ 10
refusal_most (too_long h) = omega arith
refusal_most {m} (read h j) = (refusal_given m j).0.upto

module _ {m : Mode} {l room : List ℕ} where
  -- on refusal all of the room is as it was
  pub refused_reading : {s : Said} {r : List ℕ} → Answered m l room s r → (s.code ≡ 0 → ⊥) → r ≡ room
  refused_reading (stored a h) n = absurd (n refl)
  refused_reading (no_room a h) n = refl
  refused_reading (not_read a) n = refl

  -- and so it is beyond the reported length, whatever the answer
  pub beyond_reading : {s : Said} {r : List ℕ} → Answered m l room s r → drop s.size r ≡ drop s.size room
  beyond_reading (stored {rows} a h) = drop-append_seam (table rows) (drop (length (table rows)) room)
  beyond_reading (no_room a h) = refl
  beyond_reading (not_read a) = refl

  -- the table that a reading makes is the one of the rows that the rules give
  pub table_made : {s : Said} {r : List ℕ} → Answered m l room s r → s.code ≡ 0 →
      (rows : List Row) × Reads m l (accepted rows s.place) × (take s.size r ≡ table rows)
  table_made (stored {rows} a h) e = (rows, a, take-append_seam (table rows) (drop (length (table rows)) room))
  table_made (no_room a h) e = absurd (omega arith)
  table_made (not_read a) e = absurd (omega (arith, refusal_some a))

  -- a label that follows the rules is accepted, or answered "no room" where its table is longer than the room
  pub follows_taken : {rows : List Row} {i : ℕ} {s : Said} {r : List ℕ} → length l ≤ longest → Judged m l (accepted rows i) → Answered m l room s r →
      ((length (table rows) ≤ length room) × (s.code ≡ 0) × (s.place ≡ i) × (s.size ≡ length (table rows)))
      ⊎ ((length room < length (table rows)) × (s.code ≡ 11) × (s.place ≡ i) × (s.size ≡ length (table rows)))
  follows_taken {rows} {i} {s} {r} short j a = go (leb (length (table rows)) (length room)) refl
    where
      go : (t : Bool) → leb (length (table rows)) (length room) ≡ t →
          ((length (table rows) ≤ length room) × (s.code ≡ 0) × (s.place ≡ i) × (s.size ≡ length (table rows)))
          ⊎ ((length room < length (table rows)) × (s.code ≡ 11) × (s.place ≡ i) × (s.size ≡ length (table rows)))
      go true e =
          let h = leb-true (length (table rows)) (length room) e in
          let u = (answered_unique m l room a (stored (read short j) h)).0 in
          inl (h, rw u refl, rw u refl, rw u refl)
      go false e =
          let h = leb-false (length (table rows)) (length room) e in
          let u = (answered_unique m l room a (no_room (read short j) h)).0 in
          inr (h, rw u refl, rw u refl, rw u refl)

-- some room is ample for a label, in every mode
pub some_ample : (m : Mode) (l : List ℕ) → (n : ℕ) × ((room : List ℕ) → n ≤ length room → Ample m l room)
some_ample m l = go (reader m l) (reads_sound m l)
  where
    go : (z : Outcome) → Reads m l z → (n : ℕ) × ((room : List ℕ) → n ≤ length room → Ample m l room)
    go (accepted rows i) r =
        (length (table rows), λ room h rows' i' r'. subst (λ (rs : List Row). length (table rs) ≤ length room) (accepted_same (reading_unique m r r')) h)
    go (refused c i) r = (0, λ room h rows' i' r'. absurd (accepted_refused (reading_unique m r' r)))

-- ---- a writing

module _ {label lent room : List ℕ} where
  pub refused_writing : {s : Said} {r : List ℕ} → Writes label lent room s r → (s.code ≡ 0 → ⊥) → r ≡ room
  refused_writing (writing.long_label h) n = refl
  refused_writing (writing.no_table h v) n = refl
  refused_writing (writing.long_written h v a) n = refl
  refused_writing (writing.short_room h v a b) n = refl
  refused_writing (writing.stored h v a b) n = absurd (n refl)

  pub beyond_writing : {s : Said} {r : List ℕ} → Writes label lent room s r → drop s.size r ≡ drop s.size room
  beyond_writing (writing.long_label h) = refl
  beyond_writing (writing.no_table h v) = refl
  beyond_writing (writing.long_written h v a) = refl
  beyond_writing (writing.short_room h v a b) = refl
  beyond_writing (writing.stored {rows} h v a b) = drop-append_seam (canonical (meaning label rows)) (drop (length (canonical (meaning label rows))) room)

  -- each table that meets the rules becomes a label, if that fits 65,535 bytes and the lent room
  pub becomes_label : {rows : List Row} {s : Said} {r : List ℕ} → length label ≤ longest → lent ≡ table rows → Proper label rows →
      length (canonical (meaning label rows)) ≤ longest → length (canonical (meaning label rows)) ≤ length room → Writes label lent room s r →
      (s.code ≡ 0) × (s.size ≡ length (canonical (meaning label rows))) × (take s.size r ≡ canonical (meaning label rows))
  becomes_label {rows} h e p a b w =
      let u = writes_once label lent room w (writing.stored h (is_proper e p) a b) in
      (rw u.0 refl, rw u.0 refl, rw (u.0, u.1) (take-append_seam (canonical (meaning label rows)) (drop (length (canonical (meaning label rows))) room)))

-- ---- the text of a row

module _ {label lent : List ℕ} {row : ℕ} {room : List ℕ} where
  pub refused_text : {s : Said} {r : List ℕ} → Texted label lent row room s r → (s.code ≡ 0 → ⊥) → r ≡ room
  refused_text (asked.text_refused h) n = refl
  refused_text (asked.no_text t h) n = refl
  refused_text (asked.short_room t p h) n = refl
  refused_text (asked.given t p h) n = absurd (n refl)

  pub beyond_text : {s : Said} {r : List ℕ} → Texted label lent row room s r → drop s.size r ≡ drop s.size room
  beyond_text (asked.text_refused h) = refl
  beyond_text (asked.no_text t h) = refl
  beyond_text (asked.short_room t p h) = refl
  beyond_text (asked.given {p = p} t q h) = drop-append_seam (reassemble (stretch label p)) (drop (length (reassemble (stretch label p))) room)
