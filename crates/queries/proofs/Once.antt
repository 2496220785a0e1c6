-- No second outcome meets the contracts of the text reader, the name view and the lookup: what is asked decides the answer, and the room's last bytes. Nor
-- those of the walks over any bytes: to a row, and past a block.
use Prim.Native.Nat.{ℕ}
use mathlib.Core.Path.{◌≡◌, refl, sym, ap, ap₂, subst, ◌∙◌}
use mathlib.Core.Bool.{cond}
use mathlib.Core.List.{List}
use native.Mathlib.Omega.{arith}
use Rattle.std.specs.Prelude.{Option, Result, Ok, Err}
use lib.Dec.{eqb}
use lib.ListN.{length}
use Rattle.rules.specs.Data as rule
use Rattle.rules.specs.Reading.{Said}
use Rattle.rules.specs.Proper.{stretch}
use Rattle.rules.specs.Asked.{Texted, Sought}
use Rattle.rules.proofs.Tables.Asked.{texted_once, viewed_once, sought_once}
use Rattle.classes.specs.Places.{as_span}
use Rattle.rows.specs.Decoding.{Decodes}
use Rattle.rows.specs.declared.Row.{Row}
use Rattle.rows.proofs.Once.{row_at_once}
use Rattle.queries.specs.Answers.{text_said, found_said, Views, ViewsIn}
use Rattle.queries.specs.Walking.{Walked, arrived, reached_past, cut_short, passed, RowFrom, BlockStep, stops, goes, enters, step_of, BlockWalk, stopped, gone, entered, PastBlock}
use Rattle.queries.proofs.RowsLeft.{same_found, nothing_found}
use Rattle.queries.specs.declared.outcome.Given.{Given}
use Rattle.queries.specs.declared.outcome.NoText.{NoText}
use Rattle.queries.specs.declared.outcome.NoText.TheVariants as texts
use Rattle.queries.specs.declared.outcome.At.{At}
use Rattle.queries.specs.declared.outcome.NotFound.{NotFound}
use Rattle.queries.specs.declared.outcome.NotFound.TheVariants as finds
use Rattle.queries.specs.declared.names.Stretch.{Stretch}

-- ---- the text reader

abbrev text : ℕ → ℕ → ℕ → Result Given NoText
text c p n = cond (eqb c 0) (Ok (record { length = n })) (Err (cond (eqb c 1) texts.TooLong (cond (eqb c 12) (texts.Improper p) (cond (eqb c 15) texts.NoRow (texts.NoRoom n)))))

text_again : (t : Result Given NoText) → text (text_said t).code (text_said t).place (text_said t).size ≡ t
text_again (Ok t) = refl
text_again (Err texts.TooLong) = refl
text_again (Err (texts.Improper p)) = refl
text_again (Err texts.NoRow) = refl
text_again (Err (texts.NoRoom n)) = refl

pub text_said_once : {t t' : Result Given NoText} → text_said t ≡ text_said t' → t ≡ t'
text_said_once {t} {t'} e = sym (text_again t) ∙ ap (λ (s : Said). text s.code s.place s.size) e ∙ text_again t'

pub text_once : {label lent room last last' : List ℕ} {row : ℕ} {t t' : Result Given NoText} → Texted label lent row room (text_said t) last → Texted label lent row room (text_said t') last' →
    (t ≡ t') × (last ≡ last')
text_once {label} {lent} {room} {row = row} a b = let u = texted_once label lent row room a b in (text_said_once u.0, u.1)

-- ---- the name view

same_start : {a b c d : ℕ} → as_span a b ≡ as_span c d → a ≡ c
same_start e = ap (λ (p : rule.Span). p.from) e

same_end : {a b c d : ℕ} → as_span a b ≡ as_span c d → b ≡ d
same_end e = ap (λ (p : rule.Span). p.upto) e

pub span_once : {label lent : List ℕ} {row : ℕ} {s s' : Stretch} → Views label lent row s → Views label lent row s' → s ≡ s'
span_once {label} {lent} {row} a b =
    let u = viewed_once label lent row a.viewed b.viewed in
    ap₂ (λ (x y : ℕ). record { start = x; end = y }) (same_start u) (same_end u)

pub name_once : {label lent w w' : List ℕ} {row : ℕ} → ViewsIn label lent row w → ViewsIn label lent row w' → w ≡ w'
name_once {label} {lent} {row = row} a b = a.bytes ∙ ap (stretch label) (viewed_once label lent row a.viewed b.viewed) ∙ sym b.bytes

-- ---- the lookup

abbrev finding : ℕ → ℕ → ℕ → Result At NotFound
finding c p n = cond (eqb c 0) (Ok (record { row = n })) (Err (cond (eqb c 1) finds.TooLong (cond (eqb c 12) (finds.Improper p) (cond (eqb c 14) finds.NoName finds.NoLine))))

finding_again : (f : Result At NotFound) → finding (found_said f).code (found_said f).place (found_said f).size ≡ f
finding_again (Ok f) = refl
finding_again (Err finds.TooLong) = refl
finding_again (Err (finds.Improper p)) = refl
finding_again (Err finds.NoName) = refl
finding_again (Err finds.NoLine) = refl

pub found_said_once : {f f' : Result At NotFound} → found_said f ≡ found_said f' → f ≡ f'
found_said_once {f} {f'} e = sym (finding_again f) ∙ ap (λ (s : Said). finding s.code s.place s.size) e ∙ finding_again f'

pub find_once : {label lent name : List ℕ} {row : ℕ} {f f' : Result At NotFound} → Sought label lent name row (found_said f) → Sought label lent name row (found_said f') → f ≡ f'
find_once {label} {lent} {name} {row} a b = found_said_once (sought_once label lent row name a b)

-- ---- the row at an offset

module _ {lent : List ℕ} {row : ℕ} where
  walked_once : {at : ℕ} {g g' : Option (Row × ℕ)} → Walked lent row at g → Walked lent row at g' → g ≡ g'
  walked_once (arrived e d) (arrived f c) = row_at_once d c
  walked_once (arrived e d) (reached_past i) = absurd (omega arith)
  walked_once (arrived e d) (cut_short i c) = absurd (omega arith)
  walked_once (arrived e d) (passed i c l) = absurd (omega arith)
  walked_once (reached_past h) (arrived f c) = absurd (omega arith)
  walked_once (reached_past h) (reached_past i) = refl
  walked_once (reached_past h) (cut_short i c) = absurd (omega arith)
  walked_once (reached_past h) (passed i c l) = absurd (omega arith)
  walked_once (cut_short h d) (arrived f c) = absurd (omega arith)
  walked_once (cut_short h d) (reached_past i) = absurd (omega arith)
  walked_once (cut_short h d) (cut_short i c) = refl
  walked_once (cut_short h d) (passed i c l) = absurd (nothing_found (row_at_once d c))
  walked_once (passed h d k) (arrived f c) = absurd (omega arith)
  walked_once (passed h d k) (reached_past i) = absurd (omega arith)
  walked_once (passed h d k) (cut_short i c) = absurd (nothing_found (row_at_once c d))
  walked_once {g' = g'} (passed h d k) (passed i c l) = walked_once k (subst (λ (x : ℕ). Walked lent row x g') (same_found (row_at_once c d)).1 l)

  pub row_from_once : {g g' : Option (Row × ℕ)} → RowFrom lent row g → RowFrom lent row g' → g ≡ g'
  row_from_once a b = walked_once a.walked b.walked

-- ---- past a block

stops_goes : {n m : ℕ} → stops n ≡ goes m → ⊥
stops_goes e = let z : ◌≡◌ {A = ℕ} 0 1 = cc in omega arith

stops_enters : {n m : ℕ} → stops n ≡ enters m → ⊥
stops_enters e = let z : ◌≡◌ {A = ℕ} 0 1 = cc in omega arith

goes_enters : {n m : ℕ} → goes n ≡ enters m → ⊥
goes_enters e = let z : ◌≡◌ {A = ℕ} 0 1 = cc in omega arith

same_stop : {n m : ℕ} → stops n ≡ stops m → n ≡ m
same_stop e = cc

same_go : {n m : ℕ} → goes n ≡ goes m → n ≡ m
same_go e = cc

same_enter : {n m : ℕ} → enters n ≡ enters m → n ≡ m
same_enter e = cc

module _ {lent : List ℕ} where
  block_step_once : {at : ℕ} {g g' : Option (Row × ℕ)} {x y : BlockStep} → Decodes lent at g → step_of (length lent) g ≡ x → Decodes lent at g' → step_of (length lent) g' ≡ y → x ≡ y
  block_step_once d e c f = sym e ∙ ap (step_of (length lent)) (row_at_once d c) ∙ f

  block_walk_once : {at e e' : ℕ} → BlockWalk lent at e → BlockWalk lent at e' → e ≡ e'
  block_walk_once (stopped g d e) (stopped h c f) = same_stop (block_step_once d e c f)
  block_walk_once (stopped g d e) (gone h n c f k) = absurd (stops_goes (block_step_once d e c f))
  block_walk_once (stopped g d e) (entered h n p c f j k) = absurd (stops_enters (block_step_once d e c f))
  block_walk_once (gone g n d e k) (stopped h c f) = absurd (stops_goes (block_step_once c f d e))
  block_walk_once {e' = e'} (gone g n d e k) (gone h m c f l) = block_walk_once k (subst (λ (i : ℕ). BlockWalk lent i e') (same_go (block_step_once c f d e)) l)
  block_walk_once (gone g n d e k) (entered h m p c f j l) = absurd (goes_enters (block_step_once d e c f))
  block_walk_once (entered g n p d e j k) (stopped h c f) = absurd (stops_enters (block_step_once c f d e))
  block_walk_once (entered g n p d e j k) (gone h m c f l) = absurd (goes_enters (block_step_once c f d e))
  block_walk_once {e' = e'} (entered g n p d e j k) (entered h m q c f i l) =
      let s : p ≡ q = block_walk_once j (subst (λ (x : ℕ). BlockWalk lent x q) (same_enter (block_step_once c f d e)) i) in
      block_walk_once k (subst (λ (x : ℕ). BlockWalk lent x e') (sym s) l)

  pub past_block_once : {from e e' : ℕ} → PastBlock lent from e → PastBlock lent from e' → e ≡ e'
  past_block_once a b = block_walk_once a.walked b.walked
