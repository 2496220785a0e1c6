-- Texts and symbols at a place, in the rules' terms.
use Prim.Native.Nat.{ℕ, ◌+◌, ◌-◌, ◌≤◌, ◌<◌}
use mathlib.Core.Bool.{true, false}
use mathlib.Core.Path.{◌≡◌, refl, sym, ap, subst, ◌∙◌}
use mathlib.Core.List.{List, [], ◌∷◌, ◌++◌}
use native.Mathlib.Omega.{arith}
use borrow.Author.Tests.{ne_eqb, lt-leb, le-leb}
use lib.Dec.{eqb, leb}
use lib.ListN.{length, get_or, drop, drop_of_length-le}
use Rattle.rules.specs.Bytes.{between, line_end, front, Run}
use Rattle.rules.specs.Data.{text, symbol}
use Rattle.rules.specs.Modes.{base}
use Rattle.rules.specs.Elements.{in_text, in_symbol, Spells, quoted_text, quoted_symbol, Breaks, open_at_end, foreign, never, Fault, broken_text, broken_symbol, empty_symbol, long_symbol}
use Rattle.classes.specs.Places.{part, EndsAt, ByteAt, HasByte}
use Rattle.elements.specs.declared.Element.TheVariants.{Text, Symbol}
use Rattle.elements.specs.declared.Fault as code
use Rattle.elements.specs.declared.Fault.TheVariants.{ForeignByte, LeftOpen, NoForm, PastLimit}
use Rattle.elements.specs.Faults.{code_of}
use Rattle.elements.specs.Next.{ElementAt, FaultAt}
use Rattle.classes.proofs.Runs.{unroll, joined, front_byte}
use Rattle.classes.proofs.Parts.{part_length, part_cons, part_one, part_split, begins_with}
use Rattle.elements.proofs.Finding.{stand, fails}
use Rattle.elements.proofs.Pairs.{two}

quoted : (l : List ℕ) (at k e : ℕ) → HasByte l at k → at + 1 ≤ e → HasByte l e k → part l at (e + 1) ≡ k ∷ (part l (at + 1) e ++ k ∷ [])
quoted l at k e b h c =
    let w : e + 1 ≤ length l = omega (arith, c.within) in
    part_cons l at (e + 1) (omega arith) w
    ∙ rw b.is (ap (λ (t : List ℕ). k ∷ t) (part_split l (at + 1) e (e + 1) h (omega arith) w ∙ rw (part_one l e c.within, c.is)))

opened : (l : List ℕ) (at k e : ℕ) → HasByte l at k → at + 1 ≤ e → k ∷ (part l (at + 1) e ++ drop e l) ≡ drop at l
opened l at k e b h = ap (λ (t : List ℕ). k ∷ t) (joined l (at + 1) e h) ∙ sym (begins_with l at k b)

-- ---- texts

pub text_closed : (l : List ℕ) (at e : ℕ) → HasByte l at 34 → EndsAt in_text l (at + 1) e → (e ≡ length l → ⊥) → get_or l e 0 ≡ 34 → ElementAt l at (Text (at + 1) e, e + 1)
text_closed l at e b r n q =
    let w : e < length l = omega (arith, r.within) in
    let c : HasByte l e 34 = record { within = w; is = q } in
    let h : at < e = omega (arith, r.from) in
    let s : Spells base (34 ∷ (part l (at + 1) e ++ 34 ∷ [])) text 1 (drop (e + 1) l) = quoted_text (subst (Run in_text (part l (at + 1) e)) (begins_with l e 34 c) r.is) in
    stand l at (e + 1) 1 (at + 1) e (Text (at + 1) e) text refl refl (omega arith) (omega arith) (omega arith) (omega arith) (subst (λ (t : List ℕ). Spells base t text 1 (drop (e + 1) l)) (sym (quoted l at 34 e b r.from c)) s)

text_broken : (l : List ℕ) (at e : ℕ) (f : code.Fault) → HasByte l at 34 → EndsAt in_text l (at + 1) e → front (λ b. eqb b 34) (drop e l) ≡ false → Breaks never (drop e l) (code_of f) → FaultAt l at (f, at)
text_broken l at e f b r h k = fails l at f b.within (subst (λ (t : List ℕ). Fault base t (code_of f)) (opened l at 34 e b r.from) (broken_text r.is h k))

pub text_open : (l : List ℕ) (at e : ℕ) → HasByte l at 34 → EndsAt in_text l (at + 1) e → e ≡ length l → FaultAt l at (LeftOpen, at)
text_open l at e b r h =
    let k : length l ≤ e = omega arith in
    let q : drop e l ≡ [] = drop_of_length-le l k in
    text_broken l at e LeftOpen b r (ap (front (λ b. eqb b 34)) q) (rw q open_at_end)

pub text_foreign : (l : List ℕ) (at e : ℕ) → HasByte l at 34 → EndsAt in_text l (at + 1) e → (e ≡ length l → ⊥) → (get_or l e 0 ≡ 34 → ⊥) → FaultAt l at (ForeignByte, at)
text_foreign l at e b r n q =
    let w : e < length l = omega (arith, r.within) in
    text_broken l at e ForeignByte b r (front_byte l e 34 refl ∙ ne_eqb (get_or l e 0) 34 q) (rw (unroll l e w) (foreign refl))

-- ---- symbols

pub symbol_broken : (l : List ℕ) (at e x : ℕ) (f : code.Fault) → HasByte l at 39 → EndsAt in_symbol l (at + 1) e → ByteAt l e x → (x ≡ 39 → ⊥) → Breaks line_end (drop e l) (code_of f) → FaultAt l at (f, at)
symbol_broken l at e x f b r y n k =
    fails l at f b.within (subst (λ (t : List ℕ). Fault base t (code_of f)) (opened l at 39 e b r.from) (broken_symbol r.is (front_byte l e 39 refl ∙ ne_eqb (get_or l e 0) 39 (λ q. n (y.is ∙ q))) k))

closing : (l : List ℕ) (e x : ℕ) → ByteAt l e x → x ≡ 39 → HasByte l e 39
closing l e x y q = record { within = omega (arith, y.inside); is = sym y.is ∙ q }

pub symbol_empty : (l : List ℕ) (at e x : ℕ) → HasByte l at 39 → ByteAt l e x → x ≡ 39 → e ≡ at + 1 → FaultAt l at (NoForm, at)
symbol_empty l at e x b y q h =
    let c : HasByte l (at + 1) 39 = rw h at (closing l e x y q) in
    fails l at NoForm b.within (rw (two l at 39 39 b.is c.is (omega (arith, c.within))) empty_symbol)

pub symbol_long : (l : List ℕ) (at e x : ℕ) → HasByte l at 39 → EndsAt in_symbol l (at + 1) e → ByteAt l e x → x ≡ 39 → 256 + at < e → FaultAt l at (PastLimit, at)
symbol_long l at e x b r y q h =
    let c = closing l e x y q in
    let n : leb (length (part l (at + 1) e)) 255 ≡ false = rw (part_length l (at + 1) e r.within) (lt-leb (e - (at + 1)) 255 (omega arith)) in
    let f : Fault base (39 ∷ (part l (at + 1) e ++ 39 ∷ drop (e + 1) l)) 5 = long_symbol (subst (Run in_symbol (part l (at + 1) e)) (begins_with l e 39 c) r.is) n in
    fails l at PastLimit b.within (subst (λ (t : List ℕ). Fault base t 5) (ap (λ (t : List ℕ). 39 ∷ (part l (at + 1) e ++ t)) (sym (begins_with l e 39 c)) ∙ opened l at 39 e b r.from) f)

pub symbol_closed : (l : List ℕ) (at e x : ℕ) → HasByte l at 39 → EndsAt in_symbol l (at + 1) e → ByteAt l e x → x ≡ 39 → (e ≡ at + 1 → ⊥) → e ≤ 256 + at → ElementAt l at (Symbol (at + 1) e, e + 1)
symbol_closed l at e x b r y q m h =
    let c = closing l e x y q in
    let less : at < e = omega (arith, r.from) in
    let more : at + 1 < e = omega (arith, r.from) in
    let n : between 1 255 (length (part l (at + 1) e)) ≡ true =
    rw (part_length l (at + 1) e r.within, le-leb 1 (e - (at + 1)) (omega arith), le-leb (e - (at + 1)) 255 (omega arith)) in
    let s : Spells base (39 ∷ (part l (at + 1) e ++ 39 ∷ [])) symbol 1 (drop (e + 1) l) = quoted_symbol (subst (Run in_symbol (part l (at + 1) e)) (begins_with l e 39 c) r.is) n in
    stand l at (e + 1) 1 (at + 1) e (Symbol (at + 1) e) symbol refl refl (omega arith) (omega arith) (omega arith) (omega (arith, c.within)) (subst (λ (t : List ℕ). Spells base t symbol 1 (drop (e + 1) l)) (sym (quoted l at 39 e b r.from c)) s)
