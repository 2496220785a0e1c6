-- A row that is decoded is what the bytes begin with.
use Prim.Native.Nat.{ℕ, zero, suc, ◌+◌, ◌*◌, ◌^◌, ◌<◌}
use mathlib.Core.Path.{◌≡◌, refl, sym, ap, ap₂, ◌∙◌, subst}
use mathlib.Core.Bool.{Bool, true, false, cond}
use mathlib.Core.List.{List, [], ◌∷◌, ◌++◌, append_assoc}
use native.Mathlib.Omega.{arith}
use borrow.Author.Tests.{ltb-true, leb-true, eqb-true}
use lib.Dec.{ltb, leb, eqb}
use lib.ListN.{length}
use Rattle.rules.specs.Proper.{Each, none, one}
use Rattle.rules.specs.Data.{Span, Whole, object, group, Row, attribute, pointer, opened, closed, an_integer, a_real, a_moment, a_text, a_symbol, a_unit, sequence, sequence_end, set, set_end, last}
use Rattle.rules.specs.Table.{bytes, complement, span, op_number, encode}
use Rattle.rules.proofs.Tables.Numbers.{value_onto, value_bound, bytes_of}
use Rattle.rules.proofs.Tables.Tests.{cond-case}
use Rattle.rules.proofs.Machine.Decoding.{Decoded, nothing, got, field, byte_then, from_twos, span_then, op_numbered, moment_then, unit_then, decode}
use Rattle.rules.proofs.Tables.DecodeComplete.{got_same, nothing_got}

-- ---- a field that was read

either : (c : Bool) (x y : Decoded) {r : Row} {t : List ℕ} (P : Type 0) → cond c x y ≡ got r t → (c ≡ true → x ≡ got r t → P) → (c ≡ false → y ≡ got r t → P) → P
either true x y P h f g = f refl h
either false x y P h f g = g refl h

record Taken (k : ℕ) (s : List ℕ) (f : ℕ → List ℕ → Decoded) (r : Row) (t : List ℕ) : Type 0 where
  value : ℕ
  rest : List ℕ
  split : s ≡ bytes k value ++ rest
  small : value < 256 ^ k
  then : f value rest ≡ got r t

record TakenOnto (k a : ℕ) (s : List ℕ) (f : ℕ → List ℕ → Decoded) (r : Row) (t : List ℕ) : Type 0 where
  taken : List ℕ
  rest : List ℕ
  split : s ≡ taken ++ rest
  count : length taken ≡ k
  small_bytes : Each (λ b. b < 256) taken
  then : f (value_onto 256 a taken) rest ≡ got r t

field_onto : (k a : ℕ) (s : List ℕ) (f : ℕ → List ℕ → Decoded) {r : Row} {t : List ℕ} → field k a s f ≡ got r t → TakenOnto k a s f r t
unfolding field value_onto
field_onto zero a s f e = record { taken = []; rest = s; split = refl; count = refl; small_bytes = none; then = e }
field_onto (suc k) a [] f e = absurd (nothing_got e)
field_onto (suc k) a (x ∷ s) f {r} {t} e =
    either (ltb x 256) _ _ (TakenOnto (suc k) a (x ∷ s) f r t) e
    (λ h e. let g = field_onto k (a * 256 + x) s f e in
    record { taken = x ∷ g.taken; rest = g.rest; split = ap (λ (l : List ℕ). x ∷ l) g.split; count = ap suc g.count; small_bytes = one (ltb-true x 256 h) g.small_bytes; then = g.then })
    (λ h e. absurd (nothing_got e))

field_taken : (k : ℕ) (s : List ℕ) (f : ℕ → List ℕ → Decoded) {r : Row} {t : List ℕ} → field k 0 s f ≡ got r t → Taken k s f r t
field_taken k s f e =
    let g = field_onto k 0 s f e in
    record {
      value = value_onto 256 0 g.taken;
      rest = g.rest;
      split = g.split ∙ ap (λ (l : List ℕ). l ++ g.rest) (sym (bytes_of k g.count g.small_bytes));
      small = subst (λ (i : ℕ). value_onto 256 0 g.taken < 256 ^ i) g.count (value_bound 256 g.small_bytes);
      then = g.then;
    }

-- two's complement, the other way
twos_signed : (k v : ℕ) → v < 256 ^ k → complement k (from_twos k v) ≡ bytes k v
twos_signed k v h = cond-case (λ (w : Whole). complement k w ≡ bytes k v) (leb (256 ^ k) (2 * v)) _ _ (λ e. ap (bytes k) (omega arith)) (λ e. refl)

-- ---- a row that was read

record SpanTaken (s : List ℕ) (f : Span → Row) (r : Row) (t : List ℕ) : Type 0 where
  found : Span
  row : f found ≡ r
  split : s ≡ span found ++ t

span_taken : (s : List ℕ) (f : Span → Row) (r : Row) (t : List ℕ) → span_then s f ≡ got r t → SpanTaken s f r t
span_taken s f r t e =
    let u = field_taken 2 s _ e in
    let v = field_taken 2 u.rest _ u.then in
    let g = got_same v.then in
    record {
      found = record { from = u.value; upto = v.value };
      row = g.0;
      split = u.split ∙ ap (λ (l : List ℕ). bytes 2 u.value ++ l) (v.split ∙ ap (λ (l : List ℕ). bytes 2 v.value ++ l) g.1) ∙ sym (append_assoc (bytes 2 u.value) (bytes 2 v.value) t);
    }

module _ (k : ℕ) (s : List ℕ) (r : Row) (t : List ℕ) where
  abbrev Is : Type 0
  Is = k ∷ s ≡ encode r ++ t

  by_row : (j : ℕ) (x : Row) (u : List ℕ) → k ≡ j → s ≡ u ++ t → x ≡ r → encode x ≡ j ∷ u → Is
  by_row j x u e f g h = ap₂ (λ (a : ℕ) (l : List ℕ). a ∷ l) e f ∙ ap (λ (l : List ℕ). l ++ t) (sym h) ∙ ap (λ (y : Row). encode y ++ t) g

  span_row : (j : ℕ) (f : Span → Row) → ((p : Span) → encode (f p) ≡ j ∷ span p) → k ≡ j → span_then s f ≡ got r t → Is
  span_row j f q e h = let g = span_taken s f r t h in by_row j (f g.found) (span g.found) e g.split g.row (q g.found)

  bare_row : (j : ℕ) (x : Row) → encode x ≡ j ∷ [] → k ≡ j → got x s ≡ got r t → Is
  bare_row j x q e h = let g = got_same h in by_row j x [] e g.1 g.0 q

  integer_row : k ≡ 10 → field 8 0 s (λ v s. got (an_integer (from_twos 8 v)) s) ≡ got r t → Is
  integer_row e h =
      let u = field_taken 8 s _ h in
      let g = got_same u.then in
      by_row 10 (an_integer (from_twos 8 u.value)) (bytes 8 u.value) e (u.split ∙ ap (λ (l : List ℕ). bytes 8 u.value ++ l) g.1) g.0
      (ap (λ (l : List ℕ). 10 ∷ l) (twos_signed 8 u.value u.small))

  real_row : k ≡ 11 → field 8 0 s (λ v s. field 2 0 s (λ p s. got (a_real (record { number = from_twos 8 v; power = from_twos 2 p })) s)) ≡ got r t → Is
  real_row e h =
      let u = field_taken 8 s _ h in
      let v = field_taken 2 u.rest _ u.then in
      let g = got_same v.then in
      by_row 11 (a_real (record { number = from_twos 8 u.value; power = from_twos 2 v.value })) (bytes 8 u.value ++ bytes 2 v.value) e
      (u.split ∙ ap (λ (l : List ℕ). bytes 8 u.value ++ l) (v.split ∙ ap (λ (l : List ℕ). bytes 2 v.value ++ l) g.1) ∙ sym (append_assoc (bytes 8 u.value) (bytes 2 v.value) t)) g.0
      (ap₂ (λ (l l' : List ℕ). 11 ∷ (l ++ l')) (twos_signed 8 u.value u.small) (twos_signed 2 v.value v.small))

  last_row : k ≡ 99 → field 2 0 s (λ n s. got (last n) s) ≡ got r t → Is
  last_row e h =
      let u = field_taken 2 s _ h in
      let g = got_same u.then in
      by_row 99 (last u.value) (bytes 2 u.value) e (u.split ∙ ap (λ (l : List ℕ). bytes 2 u.value ++ l) g.1) g.0 refl

-- one byte that was read
record ByteTaken (s : List ℕ) (f : ℕ → List ℕ → Decoded) (r : Row) (t : List ℕ) : Type 0 where
  value : ℕ
  rest : List ℕ
  split : s ≡ value ∷ rest
  then : f value rest ≡ got r t

byte_taken : (s : List ℕ) (f : ℕ → List ℕ → Decoded) {r : Row} {t : List ℕ} → byte_then s f ≡ got r t → ByteTaken s f r t
byte_taken [] f e = absurd (nothing_got e)
byte_taken (x ∷ s) f e = record { value = x; rest = s; split = refl; then = e }

op_byte : (n : ℕ) → leb n 2 ≡ true → op_number (op_numbered n) ≡ n
op_byte zero h = refl
op_byte (suc zero) h = refl
op_byte (suc (suc n)) h = omega (arith, leb-true (suc (suc n)) 2 h)

-- the same, handed on
byte_on : (s : List ℕ) (f : ℕ → List ℕ → Decoded) {r : Row} {t : List ℕ} (P : Type 0) → byte_then s f ≡ got r t →
    ((v : ℕ) (rest : List ℕ) → s ≡ v ∷ rest → f v rest ≡ got r t → P) → P
byte_on s f P h g = let o = byte_taken s f h in g o.value o.rest o.split o.then

field_on : (k : ℕ) (s : List ℕ) (f : ℕ → List ℕ → Decoded) {r : Row} {t : List ℕ} (P : Type 0) → field k 0 s f ≡ got r t →
    ((v : ℕ) (rest : List ℕ) → s ≡ bytes k v ++ rest → v < 256 ^ k → f v rest ≡ got r t → P) → P
field_on k s f P h g = let o = field_taken k s f h in g o.value o.rest o.split o.small o.then

unit_split : {s s₁ s₂ s₃ s₄ t : List ℕ} (o : ℕ) (x y z : List ℕ) → s ≡ o ∷ s₁ → s₁ ≡ x ++ s₂ → s₂ ≡ y ++ s₃ → s₃ ≡ z ++ s₄ → s₄ ≡ t → s ≡ (o ∷ ((x ++ y) ++ z)) ++ t
unit_split o x y z e₁ e₂ e₃ e₄ e₅ = e₁ ∙ ap (λ (l : List ℕ). o ∷ l) (e₂ ∙ ap (λ (l : List ℕ). x ++ l) (e₃ ∙ ap (λ (l : List ℕ). y ++ l) (e₄ ∙ ap (λ (l : List ℕ). z ++ l) e₅)) ∙ simp append_assoc)

unit_row : (k : ℕ) (s : List ℕ) (r : Row) (t : List ℕ) → k ≡ 15 → byte_then s (λ op s. cond (leb op 2) (unit_then op s) nothing) ≡ got r t → Is k s r t
unit_row k s r t e h =
    let P : Type 0 = Is k s r t in
    byte_on s _ P h (λ o s₁ e₁ h₁. either (leb o 2) _ _ P h₁
    (λ small h₂. field_on 2 s₁ _ P h₂ (λ u s₂ e₂ l₂ h₃. field_on 2 s₂ _ P h₃ (λ v s₃ e₃ l₃ h₄. field_on 1 s₃ _ P h₄ (λ w s₄ e₄ l₄ h₅.
    by_row k s r t 15 (a_unit (op_numbered o) (record { from = u; upto = v }) (from_twos 1 w)) (o ∷ ((bytes 2 u ++ bytes 2 v) ++ bytes 1 w)) e
    (unit_split o (bytes 2 u) (bytes 2 v) (bytes 1 w) e₁ e₂ e₃ e₄ (got_same h₅).1) (got_same h₅).0
    (ap₂ (λ (x : ℕ) (l : List ℕ). 15 ∷ x ∷ ((bytes 2 u ++ bytes 2 v) ++ l)) (op_byte o small) (twos_signed 1 w l₄))))))
    (λ large h₂. absurd (nothing_got h₂)))

moment_split : {s s₁ s₂ s₃ s₄ s₅ s₆ s₇ s₈ s₉ s₁₀ t : List ℕ} (p m d i j c k : ℕ) (y n z : List ℕ) → s ≡ p ∷ s₁ → s₁ ≡ y ++ s₂ → s₂ ≡ m ∷ s₃ → s₃ ≡ d ∷ s₄ → s₄ ≡ i ∷ s₅ → s₅ ≡ j ∷ s₆ → s₆ ≡ c ∷ s₇ →
    s₇ ≡ n ++ s₈ → s₈ ≡ z ++ s₉ → s₉ ≡ k ∷ s₁₀ → s₁₀ ≡ t → s ≡ (p ∷ (y ++ (m ∷ d ∷ i ∷ j ∷ c ∷ (n ++ (z ++ (k ∷ [])))))) ++ t
moment_split p m d i j c k y n z e₁ e₂ e₃ e₄ e₅ e₆ e₇ e₈ e₉ e₁₀ e =
    e₁ ∙ ap (λ (l : List ℕ). p ∷ l) (e₂ ∙ ap (λ (l : List ℕ). y ++ l) (e₃ ∙ ap (λ (l : List ℕ). m ∷ l) (e₄ ∙ ap (λ (l : List ℕ). d ∷ l) (e₅ ∙ ap (λ (l : List ℕ). i ∷ l) (e₆ ∙ ap (λ (l : List ℕ). j ∷ l)
    (e₇ ∙ ap (λ (l : List ℕ). c ∷ l) (e₈ ∙ ap (λ (l : List ℕ). n ++ l) (e₉ ∙ ap (λ (l : List ℕ). z ++ l) (e₁₀ ∙ ap (λ (l : List ℕ). k ∷ l) e)))))))) ∙ simp append_assoc)

moment_row : (k : ℕ) (s : List ℕ) (r : Row) (t : List ℕ) → k ≡ 12 → moment_then s ≡ got r t → Is k s r t
moment_row k s r t e h =
    let P : Type 0 = Is k s r t in
    byte_on s _ P h (λ p s₁ e₁ h. field_on 2 s₁ _ P h (λ y s₂ e₂ l₂ h. byte_on s₂ _ P h (λ m s₃ e₃ h. byte_on s₃ _ P h (λ d s₄ e₄ h. byte_on s₄ _ P h (λ i s₅ e₅ h.
    byte_on s₅ _ P h (λ j s₆ e₆ h. byte_on s₆ _ P h (λ c s₇ e₇ h. field_on 4 s₇ _ P h (λ n s₈ e₈ l₈ h. field_on 2 s₈ _ P h (λ z s₉ e₉ l₉ h. byte_on s₉ _ P h (λ q s₁₀ e₁₀ h.
    by_row k s r t 12 (a_moment (record { parts = p; year = y; month = m; day = d; hour = i; minute = j; second = c; nanoseconds = n; offset = from_twos 2 z; mark = q }))
    (p ∷ (bytes 2 y ++ (m ∷ d ∷ i ∷ j ∷ c ∷ (bytes 4 n ++ (bytes 2 z ++ (q ∷ [])))))) e
    (moment_split p m d i j c q (bytes 2 y) (bytes 4 n) (bytes 2 z) e₁ e₂ e₃ e₄ e₅ e₆ e₇ e₈ e₉ e₁₀ (got_same h).1) (got_same h).0
    (ap (λ (l : List ℕ). 12 ∷ p ∷ (bytes 2 y ++ (m ∷ d ∷ i ∷ j ∷ c ∷ (bytes 4 n ++ (l ++ (q ∷ [])))))) (twos_signed 2 z l₉))))))))))))

-- a row that is read is what the small_bytes begin with
pub decode_sound : (bs : List ℕ) (r : Row) (t : List ℕ) → decode bs ≡ got r t → bs ≡ encode r ++ t
unfolding decode
decode_sound [] r t h = absurd (nothing_got h)
decode_sound (k ∷ s) r t h =
    let P : Type 0 = Is k s r t in
    let k= : (j : ℕ) → eqb k j ≡ true → k ≡ j = λ j. eqb-true k j in
    either (eqb k 1) _ _ P h (λ e. span_row k s r t 1 attribute (λ p. refl) (k= 1 e)) (λ e₁ h.
    either (eqb k 2) _ _ P h (λ e. span_row k s r t 2 pointer (λ p. refl) (k= 2 e)) (λ e₂ h.
    either (eqb k 3) _ _ P h (λ e. span_row k s r t 3 (opened object) (λ p. refl) (k= 3 e)) (λ e₃ h.
    either (eqb k 5) _ _ P h (λ e. span_row k s r t 5 (opened group) (λ p. refl) (k= 5 e)) (λ e₄ h.
    either (eqb k 4) _ _ P h (λ e. bare_row k s r t 4 (closed object) refl (k= 4 e)) (λ e₅ h.
    either (eqb k 6) _ _ P h (λ e. bare_row k s r t 6 (closed group) refl (k= 6 e)) (λ e₆ h.
    either (eqb k 10) _ _ P h (λ e. integer_row k s r t (k= 10 e)) (λ e₇ h.
    either (eqb k 11) _ _ P h (λ e. real_row k s r t (k= 11 e)) (λ e₈ h.
    either (eqb k 12) _ _ P h (λ e. moment_row k s r t (k= 12 e)) (λ e₉ h.
    either (eqb k 13) _ _ P h (λ e. span_row k s r t 13 a_text (λ p. refl) (k= 13 e)) (λ f₁ h.
    either (eqb k 14) _ _ P h (λ e. span_row k s r t 14 a_symbol (λ p. refl) (k= 14 e)) (λ f₂ h.
    either (eqb k 15) _ _ P h (λ e. unit_row k s r t (k= 15 e)) (λ f₃ h.
    either (eqb k 20) _ _ P h (λ e. bare_row k s r t 20 sequence refl (k= 20 e)) (λ f₄ h.
    either (eqb k 21) _ _ P h (λ e. bare_row k s r t 21 sequence_end refl (k= 21 e)) (λ f₅ h.
    either (eqb k 22) _ _ P h (λ e. bare_row k s r t 22 set refl (k= 22 e)) (λ f₆ h.
    either (eqb k 23) _ _ P h (λ e. bare_row k s r t 23 set_end refl (k= 23 e)) (λ f₇ h.
    either (eqb k 99) _ _ P h (λ e. last_row k s r t (k= 99 e)) (λ f₈ h. absurd (nothing_got h))))))))))))))))))
