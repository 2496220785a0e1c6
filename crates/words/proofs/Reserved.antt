-- Identifiers: each reserved word, as the code tests for it, and names.
use Prim.Native.Nat.{ℕ, suc, ◌≤◌, ◌<◌}
use mathlib.Core.Bool.{Bool, true, false, true≢false}
use mathlib.Core.Path.{◌≡◌, refl, sym, ap, ◌∙◌}
use mathlib.Core.List.{List, [], ◌∷◌, map}
use borrow.Author.Tests.{le-leb, lt-leb}
use lib.ListN.{length}
use Rattle.rules.specs.Bytes.{ascii, fold}
use Rattle.rules.specs.Data.{name, the, end as end-element, integer, based, real, moment, range, text, symbol}
use Rattle.rules.specs.Modes.{base}
use Rattle.rules.specs.Values.{same}
use Rattle.rules.specs.Written.{is_name}
use Rattle.rules.proofs.Machine.Words.{WordVerdict, is, over, formless, Classified, classify}
use Rattle.rules.proofs.Elements.Pieces.{form_once, past_once, formless_once}
use Rattle.rules.proofs.Tables.Contents.{is_a_name_elem, name_word, form_name}
use Rattle.std.specs.Prelude.{Ok, Err}
use Rattle.words.specs.declared.Value.{Value}
use Rattle.words.specs.declared.Unfit.{Unfit}
use Rattle.words.specs.declared.Unfit.TheVariants.{NoForm, PastLimit}
use Rattle.words.specs.declared.Fixed.TheVariants.{Object, EndObject, Group, EndGroup, BeginObject}
use Rattle.words.specs.declared.Value.TheVariants.{Name, End, The, Integer, Based, Float, Time}
use Rattle.words.specs.Says.{Answer, verdict_of, Named, Means}

-- a test's answer t for the word k
abbrev Asks : List ℕ → List ℕ → Bool → Type 0
Asks w k t = t ≡ same (map fold w) k

map_length : (w : List ℕ) → length (map fold w) ≡ length w
map_length [] = refl
map_length (b ∷ w) = ap suc (map_length w)

pub end : (w : List ℕ) {t0 : Bool} → Asks w (ascii "END") t0 → t0 ≡ true → Named w (Ok End)
end w e0 h0 = record { names = λ off. rw (sym e0 ∙ h0) }

pub object : (w : List ℕ) {t0 t1 : Bool} → Asks w (ascii "END") t0 → t0 ≡ false → Asks w (ascii "OBJECT") t1 → t1 ≡ true → Named w (Ok (The Object))
object w e0 h0 e1 h1 = record { names = λ off. rw (sym e0 ∙ h0, sym e1 ∙ h1) }

pub end_object : (w : List ℕ) {t0 t1 t2 : Bool} → Asks w (ascii "END") t0 → t0 ≡ false → Asks w (ascii "OBJECT") t1 → t1 ≡ false → Asks w (ascii "END_OBJECT") t2 → t2 ≡ true → Named w (Ok (The EndObject))
end_object w e0 h0 e1 h1 e2 h2 = record { names = λ off. rw (sym e0 ∙ h0, sym e1 ∙ h1, sym e2 ∙ h2) }

pub group : (w : List ℕ) {t0 t1 t2 t3 : Bool} → Asks w (ascii "END") t0 → t0 ≡ false → Asks w (ascii "OBJECT") t1 → t1 ≡ false → Asks w (ascii "END_OBJECT") t2 → t2 ≡ false → Asks w (ascii "GROUP") t3 → t3 ≡ true → Named w (Ok (The Group))
group w e0 h0 e1 h1 e2 h2 e3 h3 = record { names = λ off. rw (sym e0 ∙ h0, sym e1 ∙ h1, sym e2 ∙ h2, sym e3 ∙ h3) }

pub end_group : (w : List ℕ) {t0 t1 t2 t3 t4 : Bool} → Asks w (ascii "END") t0 → t0 ≡ false → Asks w (ascii "OBJECT") t1 → t1 ≡ false → Asks w (ascii "END_OBJECT") t2 → t2 ≡ false → Asks w (ascii "GROUP") t3 → t3 ≡ false → Asks w (ascii "END_GROUP") t4 → t4 ≡ true → Named w (Ok (The EndGroup))
end_group w e0 h0 e1 h1 e2 h2 e3 h3 e4 h4 = record { names = λ off. rw (sym e0 ∙ h0, sym e1 ∙ h1, sym e2 ∙ h2, sym e3 ∙ h3, sym e4 ∙ h4) }

pub begin_object : (w : List ℕ) {t0 t1 t2 t3 t4 t5 : Bool} → Asks w (ascii "END") t0 → t0 ≡ false → Asks w (ascii "OBJECT") t1 → t1 ≡ false → Asks w (ascii "END_OBJECT") t2 → t2 ≡ false → Asks w (ascii "GROUP") t3 → t3 ≡ false → Asks w (ascii "END_GROUP") t4 → t4 ≡ false → Asks w (ascii "BEGIN_OBJECT") t5 → t5 ≡ true → Named w (Ok (The BeginObject))
begin_object w e0 h0 e1 h1 e2 h2 e3 h3 e4 h4 e5 h5 = record { names = λ off. rw (sym e0 ∙ h0, sym e1 ∙ h1, sym e2 ∙ h2, sym e3 ∙ h3, sym e4 ∙ h4, sym e5 ∙ h5) }

pub plain_name : (w : List ℕ) {t0 t1 t2 t3 t4 t5 : Bool} → Asks w (ascii "END") t0 → t0 ≡ false → Asks w (ascii "OBJECT") t1 → t1 ≡ false → Asks w (ascii "END_OBJECT") t2 → t2 ≡ false → Asks w (ascii "GROUP") t3 → t3 ≡ false → Asks w (ascii "END_GROUP") t4 → t4 ≡ false → Asks w (ascii "BEGIN_OBJECT") t5 → t5 ≡ false → length w ≤ 60 → Named w (Ok Name)
plain_name w e0 h0 e1 h1 e2 h2 e3 h3 e4 h4 e5 h5 h = record { names = λ off. rw (sym e0 ∙ h0, sym e1 ∙ h1, sym e2 ∙ h2, sym e3 ∙ h3, sym e4 ∙ h4, sym e5 ∙ h5, map_length w, le-leb (length w) 60 h) }

pub long_name : (w : List ℕ) {t0 t1 t2 t3 t4 t5 : Bool} → Asks w (ascii "END") t0 → t0 ≡ false → Asks w (ascii "OBJECT") t1 → t1 ≡ false → Asks w (ascii "END_OBJECT") t2 → t2 ≡ false → Asks w (ascii "GROUP") t3 → t3 ≡ false → Asks w (ascii "END_GROUP") t4 → t4 ≡ false → Asks w (ascii "BEGIN_OBJECT") t5 → t5 ≡ false → 60 < length w → Named w (Err PastLimit)
long_name w e0 h0 e1 h1 e2 h2 e3 h3 e4 h4 e5 h5 h = record { names = λ off. rw (sym e0 ∙ h0, sym e1 ∙ h1, sym e2 ∙ h2, sym e3 ∙ h3, sym e4 ∙ h4, sym e5 ∙ h5, map_length w, lt-leb (length w) 60 h) }

-- ---- whether a word is a name

abbrev verdict_name : WordVerdict → Bool
verdict_name (is e) = is_a_name_elem e
verdict_name over = false
verdict_name formless = false

pub classified_once : (w : List ℕ) (off : Bool) (d : WordVerdict) → Classified base off w d → classify base off w ≡ d
classified_once w off (is e) c = form_once c
classified_once w off over c = past_once c
classified_once w off formless c = formless_once off c

named : (w : List ℕ) (d : WordVerdict) → Classified base true w d → verdict_name d ≡ true → is_name w ≡ true
named w (is (name n)) c h = form_name base true w c
named w (is (the f)) c h = absurd (true≢false (sym h))
named w (is (end-element b)) c h = absurd (true≢false (sym h))
named w (is (integer x)) c h = absurd (true≢false (sym h))
named w (is (based x)) c h = absurd (true≢false (sym h))
named w (is (real x)) c h = absurd (true≢false (sym h))
named w (is (moment x)) c h = absurd (true≢false (sym h))
named w (is (range a b)) c h = absurd (true≢false (sym h))
named w (is text) c h = absurd (true≢false (sym h))
named w (is symbol) c h = absurd (true≢false (sym h))
named w over c h = absurd (true≢false (sym h))
named w formless c h = absurd (true≢false (sym h))

both_ways : (a b : Bool) → (a ≡ true → b ≡ true) → (b ≡ true → a ≡ true) → a ≡ b
both_ways true b f g = sym (f refl)
both_ways false true f g = g refl
both_ways false false f g = refl

name_verdict : (w : List ℕ) (d : WordVerdict) → Classified base true w d → verdict_name d ≡ is_name w
name_verdict w d c = both_ways (verdict_name d) (is_name w) (named w d c) (λ h. ap verdict_name (sym (classified_once w true d c) ∙ form_once (name_word true w h)))

said : {w : List ℕ} {v : Answer} (u : Answer) → Means w v → v ≡ u → verdict_name (verdict_of w true u) ≡ is_name w
said {w} {v} u m h = ap (λ (x : Answer). verdict_name (verdict_of w true x)) (sym h) ∙ name_verdict w (verdict_of w true v) (m.means true)

module _ {w : List ℕ} {v : Answer} (m : Means w v) where
  pub a_name : (u : Value) → v ≡ Ok u → u ≡ Name → true ≡ is_name w
  a_name u h q = said (Ok Name) m (h ∙ ap Ok q)

  pub another : (u : Value) → v ≡ Ok u → (u ≡ Name → ⊥) → false ≡ is_name w
  another u h n = go u n ∙ said (Ok u) m h
    where
      go : (u : Value) → (u ≡ Name → ⊥) → false ≡ verdict_name (verdict_of w true (Ok u))
      go Name n = absurd (n refl)
      go End n = refl
      go (The k) n = refl
      go (Integer neg x) n = refl
      go (Based neg x) n = refl
      go (Float x) n = refl
      go (Time x) n = refl

  pub unfit : (e : Unfit) → v ≡ Err e → false ≡ is_name w
  unfit NoForm h = said (Err NoForm) m h
  unfit PastLimit h = said (Err PastLimit) m h
