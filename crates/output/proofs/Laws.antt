-- The laws of parts: a part that fits, a part after a part, parts that are equal.
use Prim.Native.Nat.{ℕ, zero, suc, ◌+◌, ◌-◌, ◌≤◌, min}
use mathlib.Core.Path.{◌≡◌, refl, sym, ap, ◌∙◌, subst}
use mathlib.Core.List.{List, [], ◌∷◌, ◌++◌, append_assoc, append-nil}
use native.Mathlib.Nat.{le_refl}
use native.Mathlib.Omega.{arith}
use lib.ListN.{length, take, drop, length-append, length-drop, length-take, drop_of_length-le}
use lib.Seq.{take_all, take-nil, take_at, drop_at, drop-drop}
use borrow.Rule.Slice.PartMut.{mid_of, put_mid}
use Rattle.output.specs.Puts.{laid, Puts}

pub laid_length : (part room : List ℕ) → length (laid part room) ≡ length room
laid_length part room = rw (length-append, length-take, length-drop) (omega arith)

-- the room keeps its length
pub long : {part room out : List ℕ} {n : ℕ} → Puts part room out n → length out ≡ length room
long {part} {room} p = ap length p.bytes ∙ laid_length part room

-- a part that fits stands whole
pub fits : {part room out : List ℕ} {n : ℕ} → Puts part room out n → length part ≤ length room → out ≡ part ++ drop (length part) room
fits {part} {room} p h = p.bytes ∙ ap (λ (l : List ℕ). l ++ drop (length part) room) (take_all (length room) part h)

pub nothing : (room : List ℕ) → Puts [] room room 0
nothing room = record { count = refl; bytes = ap (λ (l : List ℕ). l ++ room) (sym (take-nil (length room))) }

pub same_part : {a b room out : List ℕ} {n : ℕ} → a ≡ b → Puts a room out n → Puts b room out n
same_part {room = room} {out = out} {n = n} e p = subst (λ (w : List ℕ). Puts w room out n) e p

take_append : (m : ℕ) (a b : List ℕ) → take m (a ++ b) ≡ take m a ++ take (m - length a) b
take_append zero a b = let e : 0 - length a ≡ 0 = omega arith in rw e
take_append (suc m) [] b = let e : suc m - 0 ≡ suc m = omega arith in rw e
take_append (suc m) (x ∷ a) b = let e : suc m - suc (length a) ≡ m - length a = omega arith in rw e (ap (λ (l : List ℕ). x ∷ l) (take_append m a b))

-- what a second writer puts into the room that the first leaves, or into none of it: both, one after the other
pub onward : {a b room out p : List ℕ} {n m k : ℕ} → Puts a room out n → k ≡ min n (length out) → Puts b (mid_of k (length out - k) out) p m →
    Puts (a ++ b) room (put_mid k (length out - k) out p) (n + m)
onward {a} {b} {room} {out} {p} {n} {m} {k} f e g = record { count = rw (f.count, g.count) (sym (length-append a b)); bytes = both }
  where
    both : put_mid k (length out - k) out p ≡ laid (a ++ b) room
    both =
        let l : length out ≡ length room = long f in
        let i : length (take (length room) a) ≡ k = length-take (length room) a ∙ omega (arith, e, f.count) in
        let front : take k out ≡ take (length room) a = ap (take k) f.bytes ∙ take_at (take (length room) a) (drop (length a) room) k i in
        let back : drop k out ≡ drop (length a) room = ap (drop k) f.bytes ∙ drop_at (take (length room) a) (drop (length a) room) k i in
        let none : drop (length out - k) (drop k out) ≡ [] = drop_of_length-le (drop k out) {i = length out - k} (simp length-drop (le_refl _)) in
        let all : take (length out - k) (drop k out) ≡ drop (length a) room = take_all (length out - k) (drop k out) (simp length-drop (le_refl _)) ∙ back in
        let part : p ≡ take (length room - length a) b ++ drop (length a + length b) room = g.bytes ∙ rw (all, length-drop, drop-drop) in
        rw (front, none, append-nil, part, take_append (length room) a b, length-append, append_assoc)

-- and a third after the two
module _ {a b c room out p q : List ℕ} {n m l k j : ℕ} where
  pub onward_three : Puts a room out n → k ≡ min n (length out) → Puts b (mid_of k (length out - k) out) p m →
      j ≡ min (n + m) (length (put_mid k (length out - k) out p)) → Puts c (mid_of j (length (put_mid k (length out - k) out p) - j) (put_mid k (length out - k) out p)) q l →
      Puts (a ++ (b ++ c)) room (put_mid j (length (put_mid k (length out - k) out p) - j) (put_mid k (length out - k) out p) q) (n + m + l)
  onward_three f e g d h = same_part (append_assoc a b c) (onward (onward f e g) d h)
