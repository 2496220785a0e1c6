-- Rooms: a row added behind what is there, and a table copied.
use mathlib.Core.Path.{◌≡◌, refl, sym, ap, ◌∙◌}
use mathlib.Core.List.{List, [], ◌++◌, append_assoc, append-nil}
use Prim.Native.Nat.{ℕ, ◌+◌, ◌-◌, ◌<◌, ◌≤◌}
use native.Mathlib.Nat.{le_refl}
use native.Mathlib.Omega.{arith}
use borrow.Rule.Slice.PartMut.{mid_of, put_mid}
use lib.ListN.{length, take, drop, length-append, length-take, length-drop, drop_of_length-le}
use lib.Seq.{take_all, take_at, drop_at, drop-drop, length-take-le}
use Rattle.rows.specs.Rows.{longest_row, Wrote}
use Rattle.output.specs.Puts.{Puts}
use Rattle.output.proofs.Laws.{fits}
use Rattle.statements.specs.Passes.{Added}

module _ (w room out : List ℕ) (n m : ℕ) (h : n ≤ length room) (i : length w ≤ length room - n) (x : Wrote w (mid_of n (length room - n) room) out m) where
  in_room : put_mid n (length room - n) room out ≡ take n room ++ (w ++ drop (n + length w) room)
  in_room =
      let none : drop (length room - n) (drop n room) ≡ [] = drop_of_length-le (drop n room) {i = length room - n} (simp length-drop (le_refl _)) in
      let all : take (length room - n) (drop n room) ≡ drop n room = take_all (length room - n) (drop n room) (simp length-drop (le_refl _)) in
      rw (none, append-nil, x.bytes, all, drop-drop)

  pub added : length w ≤ longest_row → Added w n room (put_mid n (length room - n) room out) (n + m)
  added j = record {
    next = ap (λ (k : ℕ). n + k) x.count;
    small = j;
    long = ap length in_room ∙ simp (length-append, length-take, length-drop) (omega arith);
    front = ap (take n) in_room ∙ take_at (take n room) (w ++ drop (n + length w) room) n (length-take-le n room h);
    bytes = λ z. in_room;
  }

pub not_added : (w room : List ℕ) (n k r : ℕ) → k ≡ length w → length w ≤ longest_row → length room < n + length w → r ≡ n + k → Added w n room room r
not_added w room n k r e j h q = record { next = q ∙ ap (λ (z : ℕ). n + z) e; small = j; long = refl; front = refl; bytes = λ z. absurd (omega arith) }

-- w behind what is already there
pub behind : (t w room out : List ℕ) (n : ℕ) → n ≡ length t → out ≡ t ++ drop n room → take n out ++ (w ++ drop (n + length w) out) ≡ (t ++ w) ++ drop (n + length w) room
behind t w room out n c h =
    let front : take n out ≡ t = rw (h, c) (take_at t (drop (length t) room) (length t) refl) in
    let back : drop n out ≡ drop n room = rw (h, c) (drop_at t (drop (length t) room) (length t) refl) in
    let late : drop (n + length w) out ≡ drop (n + length w) room = sym (drop-drop (length w) n out) ∙ ap (drop (length w)) back ∙ drop-drop (length w) n room in
    rw (front, late, append_assoc)

-- a room that begins with the first n bytes of w
pub copied_front : (w room : List ℕ) (n : ℕ) {out : List ℕ} {m : ℕ} → Puts (take (n - 0) w) room out m → n ≤ length w → n ≤ length room → out ≡ take n w ++ drop n room
copied_front w room n p h k =
    let i : n - 0 ≡ n = omega arith in
    let j : length (take n w) ≡ n = length-take-le n w h in
    rw j at (fits (rw i at p) (omega (arith, j)))

-- what lies beyond a copy is as it was
beyond : (w d : List ℕ) (k j : ℕ) → k ≤ length w → drop (k + j) (take k w ++ drop k d) ≡ drop (k + j) d
beyond w d k j h = sym (drop-drop j k (take k w ++ drop k d)) ∙ ap (drop j) (drop_at (take k w) (drop k d) k (length-take-le k w h)) ∙ drop-drop j k d

pub past : (w d : List ℕ) (k m : ℕ) → k ≤ length w → k ≤ m → drop m (take k w ++ drop k d) ≡ drop m d
past w d k m h g = let e : k + (m - k) ≡ m = omega arith in rw e at (beyond w d k (m - k) h)
