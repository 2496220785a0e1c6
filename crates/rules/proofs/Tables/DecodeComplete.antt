-- Decoding undoes `encode`: bytes are a row in one way only.
use Prim.Native.Nat.{ℕ, zero, suc, ◌+◌, ◌-◌, ◌*◌, ◌/◌, ◌%◌, ◌^◌, ◌≤◌, ◌<◌}
use mathlib.Core.Path.{◌≡◌, refl, sym, ap, ap₂, ◌∙◌}
use mathlib.Core.Bool.{Bool, true, false, cond, true≢false}
use mathlib.Core.List.{List, [], ◌∷◌, ◌++◌, append_assoc}
use native.Mathlib.Nat.{mod-lt}
use native.Mathlib.Omega.{arith}
use borrow.Author.Tests.{lt-ltb, le-leb, lt-leb}
use lib.Dec.{leb}
use Rattle.rules.specs.Data.{Span, Whole, Moment, object, group, Op, first, times, divided, Row, attribute, pointer, opened, closed, an_integer, a_real, a_moment, a_text, a_symbol, a_unit, sequence, sequence_end, set, set_end, last}
use Rattle.rules.specs.Table.{bytes, complement, span, op_number, encode}
use Rattle.rules.proofs.Tables.Numbers.{value_onto, bytes_back}
use Rattle.rules.proofs.Machine.Limits.{Within}
use Rattle.rules.proofs.Machine.Decoding.{Decoded, nothing, got, field, from_twos, span_then, op_numbered, moment_then, unit_then, decode}
use Rattle.rules.proofs.Machine.Limits.{Short, Codes}

-- ---- it undoes `encode`

field_bytes : (k m a : ℕ) (s : List ℕ) (f : ℕ → List ℕ → Decoded) → field k a (bytes k m ++ s) f ≡ f (value_onto 256 a (bytes k m)) s
unfolding field value_onto
field_bytes zero m a s f = refl
field_bytes (suc k) m a s f = rw (lt-ltb (m / 256 ^ k % 256) 256 (mod-lt (m / 256 ^ k) (omega arith))) (field_bytes k m (a * 256 + m / 256 ^ k % 256) s f)

field_big : (k m : ℕ) (s : List ℕ) (f : ℕ → List ℕ → Decoded) → m < 256 ^ k → field k 0 (bytes k m ++ s) f ≡ f m s
field_big k m s f h = field_bytes k m 0 s f ∙ ap (λ (i : ℕ). f i s) (bytes_back k m h)

-- a number's place in two's complement
abbrev twos_of : ℕ → Whole → ℕ
twos_of k w = cond w.minus (256 ^ k - w.size) w.size

abbrev whole : ℕ → ℕ → Whole
whole K v = cond (leb K (2 * v)) (record { minus = true; size = K - v }) (record { minus = false; size = v })

whole_minus : (K v : ℕ) → K ≤ 2 * v → whole K v ≡ record { minus = true; size = K - v }
whole_minus K v h = rw (le-leb K (2 * v) h)

whole_plus : (K v : ℕ) → 2 * v < K → whole K v ≡ record { minus = false; size = v }
whole_plus K v h = rw (lt-leb K (2 * v) h)

abbrev put_in : ℕ → Bool → ℕ → ℕ
put_in K b n = cond b (K - n) n

positive : (n : ℕ) → (n ≡ 0 → true ≡ false) → 0 < n
positive zero h = absurd (true≢false (h refl))
positive (suc n) h = omega arith

put_below : (K m n : ℕ) (b : Bool) → n < m → m + m ≤ K → (n ≡ 0 → b ≡ false) → put_in K b n < K
put_below K m n true h k z = omega (arith, positive n z)
put_below K m n false h k z = omega arith

put_back : (K m n : ℕ) (b : Bool) → n < m → m + m ≤ K → (n ≡ 0 → b ≡ false) → whole K (put_in K b n) ≡ record { minus = b; size = n }
put_back K m n true h k z =
    let e : K - (K - n) ≡ n = omega (arith, positive n z) in
    whole_minus K (K - n) (omega (arith, positive n z)) ∙ ap (λ (i : ℕ). record { minus = true; size = i }) e
put_back K m n false h k z = whole_plus K n (omega arith)

-- `k` bytes of two's complement
field_twos : (k m : ℕ) (w : Whole) (s : List ℕ) (f : ℕ → List ℕ → Decoded) → Within m w → m + m ≤ 256 ^ k → field k 0 (complement k w ++ s) f ≡ f (twos_of k w) s
field_twos k m w s f h l = field_big k (twos_of k w) s f (put_below (256 ^ k) m w.size w.minus h.below l h.zero_plain)

signed_twos : (k m : ℕ) (w : Whole) → Within m w → m + m ≤ 256 ^ k → from_twos k (twos_of k w) ≡ w
signed_twos k m w h l = put_back (256 ^ k) m w.size w.minus h.below l h.zero_plain

span_back : (p : Span) (s : List ℕ) (f : Span → Row) → Short p → span_then (span p ++ s) f ≡ got (f p) s
span_back p s f h =
    rw append_assoc (field_big 2 p.from (bytes 2 p.upto ++ s) _ h.from_short ∙ field_big 2 p.upto s _ h.upto_short)

op_small : (op : Op) → leb (op_number op) 2 ≡ true
op_small first = refl
op_small times = refl
op_small divided = refl

op_back_lem : (op : Op) → op_numbered (op_number op) ≡ op
op_back_lem first = refl
op_back_lem times = refl
op_back_lem divided = refl

moment_back : (t : Moment) (s : List ℕ) → Codes (a_moment t) → moment_then (t.parts ∷ ((bytes 2 t.year ++ (t.month ∷ t.day ∷ t.hour ∷ t.minute ∷ t.second ∷ (bytes 4 t.nanoseconds ++ (complement 2 t.offset ++ (t.mark ∷ []))))) ++ s)) ≡ got (a_moment t) s
moment_back t s h =
    let u : List ℕ = complement 2 t.offset ++ (t.mark ∷ s) in
    let v : List ℕ = t.month ∷ t.day ∷ t.hour ∷ t.minute ∷ t.second ∷ (bytes 4 t.nanoseconds ++ u) in
    simp append_assoc
    (field_big 2 t.year v _ h.0 ∙ field_big 4 t.nanoseconds u _ (omega (arith, h.1)) ∙ field_twos 2 (2 ^ 15) t.offset (t.mark ∷ s) _ h.2 (omega arith)
    ∙ ap (λ (i : Whole). got (a_moment (record { parts = t.parts; year = t.year; month = t.month; day = t.day; hour = t.hour; minute = t.minute; second = t.second; nanoseconds = t.nanoseconds; offset = i; mark = t.mark })) s)
    (signed_twos 2 (2 ^ 15) t.offset h.2 (omega arith)))

pub decode_encode : (r : Row) (s : List ℕ) → Codes r → decode (encode r ++ s) ≡ got r s
unfolding decode
decode_encode (attribute p) s h = span_back p s attribute h
decode_encode (pointer p) s h = span_back p s pointer h
decode_encode (opened object p) s h = span_back p s (opened object) h
decode_encode (opened group p) s h = span_back p s (opened group) h
decode_encode (closed object) s h = refl
decode_encode (closed group) s h = refl
decode_encode (an_integer w) s h = field_twos 8 (2 ^ 63) w s _ h (omega arith) ∙ ap (λ (i : Whole). got (an_integer i) s) (signed_twos 8 (2 ^ 63) w h (omega arith))
decode_encode (a_real x) s h =
    rw append_assoc
    (field_twos 8 (2 ^ 63) x.number (complement 2 x.power ++ s) _ h.0 (omega arith) ∙ field_twos 2 (2 ^ 15) x.power s _ h.1 (omega arith)
    ∙ ap₂ (λ (i j : Whole). got (a_real (record { number = i; power = j })) s) (signed_twos 8 (2 ^ 63) x.number h.0 (omega arith)) (signed_twos 2 (2 ^ 15) x.power h.1 (omega arith)))
decode_encode (a_moment t) s h = moment_back t s h
decode_encode (a_text p) s h = span_back p s a_text h
decode_encode (a_symbol p) s h = span_back p s a_symbol h
decode_encode (a_unit op p w) s h =
    ap (λ (t : Bool). cond t (unit_then (op_number op) ((span p ++ complement 1 w) ++ s)) nothing) (op_small op) ∙ simp append_assoc
    (field_big 2 p.from (bytes 2 p.upto ++ (complement 1 w ++ s)) _ h.0.from_short ∙ field_big 2 p.upto (complement 1 w ++ s) _ h.0.upto_short ∙ field_twos 1 (2 ^ 7) w s _ h.1 (omega arith)
    ∙ ap₂ (λ (o : Op) (i : Whole). got (a_unit o p i) s) (op_back_lem op) (signed_twos 1 (2 ^ 7) w h.1 (omega arith)))
decode_encode sequence s h = refl
decode_encode sequence_end s h = refl
decode_encode set s h = refl
decode_encode set_end s h = refl
decode_encode (last n) s h = field_big 2 n s _ h

-- ---- one way only

pub got_same : {r r' : Row} {s s' : List ℕ} → got r s ≡ got r' s' → (r ≡ r') × (s ≡ s')
got_same e = (cc, cc)

pub encode_one : (r r' : Row) (s s' : List ℕ) → Codes r → Codes r' → encode r ++ s ≡ encode r' ++ s' → (r ≡ r') × (s ≡ s')
encode_one r r' s s' h h' e = got_same (sym (decode_encode r s h) ∙ ap decode e ∙ decode_encode r' s' h')

pub nothing_got : {r : Row} {s : List ℕ} → nothing ≡ got r s → ⊥
nothing_got {r} {s} e = let w : ◌≡◌ {A = ℕ} 0 1 = cc in omega arith

pub encode_some : (r : Row) (s : List ℕ) → Codes r → [] ≡ encode r ++ s → ⊥
unfolding decode
encode_some r s h e = nothing_got (ap decode e ∙ decode_encode r s h)
