-- Bytes written at the start of lent room, and a second writing into the room that the first leaves.
use mathlib.Core.Path.{◌≡◌, refl, ap, ap₂, sym, ◌∙◌}
use mathlib.Core.Bool.{Bool, true, false}
use mathlib.Core.List.{List, [], ◌∷◌, ◌++◌, append_assoc, append-nil}
use Prim.Native.Nat.{ℕ, zero, suc, ◌+◌, ◌-◌, ◌/◌, ◌%◌, ◌^◌, ◌≤◌, ◌<◌}
use native.Mathlib.Nat.{le_refl, pow-suc, div-div-eq-div-mul}
use native.Mathlib.Omega.{arith}
use borrow.Author.Rules.{rules}
use lib.ListN.{length, set, take, drop, length-append, length-drop, length-set, drop_of_length-le}
use borrow.Rule.Slice.PartMut.{mid_of, put_mid}
use Rattle.std.proofs.lemmas.List.{drop-set}
use lib.Seq.{take_all, take_at, drop_at, drop-drop}
use Rattle.rules.specs.Table.{bytes, complement}
use Rattle.words.specs.Says.{whole}
use Rattle.rows.specs.Rows.{Wrote}

pub onward : {w₁ w₂ room out p : List ℕ} {n m : ℕ} → Wrote w₁ room out n → Wrote w₂ (mid_of n (length out - n) out) p m
    → Wrote (w₁ ++ w₂) room (put_mid n (length out - n) out p) (n + m)
onward {w₁} {w₂} {room} {out} {p} {n} {m} f g =
    let front : take n out ≡ w₁ = rw (f.bytes, f.count) (take_at w₁ (drop (length w₁) room) (length w₁) refl) in
    let back : drop n out ≡ drop (length w₁) room = rw (f.bytes, f.count) (drop_at w₁ (drop (length w₁) room) (length w₁) refl) in
    let none : drop (length out - n) (drop n out) ≡ [] = drop_of_length-le (drop n out) {i = length out - n} (simp length-drop (le_refl _)) in
    let all : take (length out - n) (drop n out) ≡ drop n out = take_all (length out - n) (drop n out) (simp length-drop (le_refl _)) in
    let part : p ≡ w₂ ++ drop (length w₁ + length w₂) room = g.bytes ∙ rw (all, back, drop-drop) in
    record { count = rw (f.count, g.count) (sym (length-append w₁ w₂)); bytes = rw (front, none, append-nil, part, length-append, append_assoc) }

pub one_byte : (v : ℕ) (l : List ℕ) → 1 ≤ length l → Wrote (v ∷ []) l (set l 0 v) 1
one_byte v [] h = absurd (omega arith)
one_byte v (a ∷ l) h = record { count = refl; bytes = refl }

-- ---- a number's bytes, from the last on

bytes_size : (n v : ℕ) → length (bytes n v) ≡ n
bytes_size zero v = refl
bytes_size (suc n) v = ap suc (bytes_size n v)

-- the last of n bytes are laid, from the place i on
pub record Laid (n v : ℕ) (before : List ℕ) (i : ℕ) (out : List ℕ) (left : ℕ) : Type 0 where
  pub size : length out ≡ length before
  pub rest : drop i out ≡ bytes (n - i) v ++ drop n before
  pub over : left ≡ v / 256 ^ (n - i)

pub none_laid : (n v : ℕ) (before : List ℕ) → Laid n v before n before v
none_laid n v before =
    let e : 0 ≡ n - n = omega arith in
    record { size = refl; rest = ap (λ (k : ℕ). bytes k v ++ drop n before) e; over = (let d : v ≡ v / 256 ^ 0 = omega arith in d) ∙ ap (λ (k : ℕ). v / 256 ^ k) e }

pub one_laid : (n v : ℕ) (before : List ℕ) (i j : ℕ) (out : List ℕ) (left x : ℕ) → j ≡ i + 1 → i < n → n ≤ length before → Laid n v before j out left → x ≡ left % 256 → Laid n v before i (set out i x) (left / 256)
one_laid n v before i j out left x q h m w e =
    let k : suc (n - j) ≡ n - i = omega arith in
    let l : drop (i + 1) out ≡ bytes (n - j) v ++ drop n before = ap (λ (p : ℕ). drop p out) (sym q) ∙ w.rest in
    record {
      size = length-set out i x ∙ w.size;
      rest = drop-set out i x (omega (arith, w.size)) ∙ ap₂ (λ (y : ℕ) (s : List ℕ). y ∷ s) (e ∙ ap (λ (y : ℕ). y % 256) w.over) l ∙ ap (λ (p : ℕ). bytes p v ++ drop n before) k;
      over = ap (λ (y : ℕ). y / 256) w.over ∙ div-div-eq-div-mul v (256 ^ (n - j)) 256 ∙ ap (λ (y : ℕ). v / y) (sym (pow-suc 256 (n - j))) ∙ ap (λ (p : ℕ). v / 256 ^ p) k;
    }

pub all_laid : (n v : ℕ) (before : List ℕ) (i : ℕ) (out : List ℕ) (left : ℕ) → i ≡ 0 → Laid n v before i out left → Wrote (bytes n v) before out n
all_laid n v before i out left z w =
    let e : n - i ≡ n = omega arith in
    let s : length (bytes n v) ≡ n = bytes_size n v in
    record { count = sym s; bytes = ap (λ (p : ℕ). drop p out) (sym z) ∙ w.rest ∙ ap₂ (λ (k m : ℕ). bytes k v ++ drop m before) e (sym s) }

whole_of : (v : ℕ) → v % 256 ≡ v / 1 % 256
whole_of v = omega arith

-- ---- two's complement

pub not_minus : (k v : ℕ) {m : Bool} → m ≡ false → bytes k v ≡ complement k (whole m v)
not_minus k v h = rw h

-- what is missing to 2 to the 64, around it
pub minus_around : (v r : ℕ) {m : Bool} → m ≡ true → v < 18446744073709551616 → r < 18446744073709551616 → (r + v) % 18446744073709551616 ≡ 0 → bytes 8 r ≡ complement 8 (whole m v)
minus_around zero r h a b e = let z : r ≡ 0 = omega arith in rw (h, z)
minus_around (suc v) r h a b e = let z : r ≡ 256 ^ 8 - suc v = omega arith in rw (h, z)

one : (t u : ℕ) → t ≡ u % 256 → t ∷ [] ≡ bytes 1 u
one t u e = ap (λ (x : ℕ). x ∷ []) (e ∙ whole_of u)

pub byte : (v t : ℕ) {m : Bool} → m ≡ false → t ≡ v % 256 → t ∷ [] ≡ complement 1 (whole m v)
byte v t h e = rw h (one t v e)

pub byte_minus : (v t : ℕ) {m : Bool} → m ≡ true → t ≡ (256 - v) % 256 → t ∷ [] ≡ complement 1 (whole m v)
byte_minus v t h e = rw h (one t (256 - v) e)

pub ruleset writes = (one_byte, none_laid, one_laid, all_laid, rules)
