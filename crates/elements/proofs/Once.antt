-- The next element is one: the answer of `next` is a function of what the rules find from the place on. So are those of the functions that it is made of.
use Prim.Native.Nat.{ℕ, ◌+◌, ◌-◌, ◌≤◌}
use mathlib.Core.Bool.{Bool, true, false, cond, ◌||◌, true≢false}
use mathlib.Core.Option as math
use Rattle.std.specs.Prelude.{Option, Some, None, Result, Ok, Err}
use mathlib.Core.Path.{◌≡◌, refl, sym, ap, ap₂, subst, ◌∙◌}
use mathlib.Core.List.{List, [], ◌++◌, append-nil}
use native.Mathlib.Omega.{arith}
use lib.Dec.{eqb}
use lib.ListN.{length, drop, length-drop}
use Rattle.rules.specs.Bytes.{front, pair}
use Rattle.rules.specs.Data as rule
use Rattle.rules.specs.Modes.{base}
use Rattle.rules.specs.Elements.{is_blank, sign_of, comment, Gap, no_gap, blank, remark, placed, Fault, Breaks, open_at_end, open_at, foreign}
use Rattle.rules.proofs.Machine.Elements as next
use Rattle.rules.proofs.Machine.Elements.{comes, faulty, none_left, NextIs, finds, faults, ends, next_element}
use Rattle.rules.proofs.Elements.Next.{next_sound, next_complete}
use Rattle.classes.specs.Places.{part}
use Rattle.classes.proofs.Runs.{joined}
use Rattle.words.proofs.Once.{fixed_is, fixed_back, real_of_lem, moment_of_lem}
use Rattle.elements.specs.Faults.{code_of}
use Rattle.elements.specs.Next.{placed_of, Stands, inside, NextAt}
use Rattle.elements.specs.Places.{Clear, Skipped, MarkOf, m_sign, m_star, m_slash, m_quote, m_apostrophe, m_nothing}
use Rattle.elements.specs.declared.marks.Mark.{Mark}
use Rattle.elements.specs.declared.marks.Mark.TheVariants.{One, Asterisk, Stroke, Quote, Apostrophe}
use Rattle.elements.specs.declared.Broken.{Broken}
use Rattle.elements.specs.declared.Fault as code
use Rattle.elements.specs.declared.Fault.TheVariants.{ForeignByte, LeftOpen, NoForm, PastLimit}
use Rattle.elements.specs.declared.Element.{Element}
use Rattle.elements.specs.declared.Element.TheVariants.{Name, The, End, Integer, Based, Float, Time, Text, Symbol}
use Rattle.elements.specs.declared.Found.{Found}
use Rattle.classes.proofs.Parts.{part_length, part_nil}
use Rattle.elements.proofs.Pairs.{two}
use Rattle.elements.proofs.Finding.{faulty_is, none_is, stands_next}

-- the code's element for one of the rules with its place; Text for a range, which no word of a label is
abbrev element_is : rule.Placed → Element
element_is (rule.◌on◌ (rule.name n) p) = Name p.from p.upto
element_is (rule.◌on◌ (rule.the k) p) = The (fixed_is k) p.from p.upto
element_is (rule.◌on◌ (rule.end off) p) = End off p.from p.upto
element_is (rule.◌on◌ (rule.integer n) p) = Integer n.minus n.size p.from p.upto
element_is (rule.◌on◌ (rule.based n) p) = Based n.minus n.size p.from p.upto
element_is (rule.◌on◌ (rule.real x) p) = Float (real_of_lem x) p.from p.upto
element_is (rule.◌on◌ (rule.moment x) p) = Time (moment_of_lem x) p.from p.upto
element_is (rule.◌on◌ (rule.range lo hi) p) = Text p.from p.upto
element_is (rule.◌on◌ rule.text p) = Text p.from p.upto
element_is (rule.◌on◌ rule.symbol p) = Symbol p.from p.upto

element_back : (label : List ℕ) (e : Element) → element_is (placed_of label e) ≡ e
element_back label (Name a b) = refl
element_back label (The k a b) = ap (λ f. The f a b) (fixed_back k)
element_back label (End f a b) = refl
element_back label (Integer m n a b) = refl
element_back label (Based m n a b) = refl
element_back label (Float x a b) = refl
element_back label (Time x a b) = refl
element_back label (Text a b) = refl
element_back label (Symbol a b) = refl

-- the fault of a code
abbrev fault_of : ℕ → code.Fault
fault_of c = cond (eqb c 2) ForeignByte (cond (eqb c 3) LeftOpen (cond (eqb c 4) NoForm PastLimit))

fault_back : (f : code.Fault) → fault_of (code_of f) ≡ f
fault_back ForeignByte = refl
fault_back LeftOpen = refl
fault_back NoForm = refl
fault_back PastLimit = refl

-- a fault is one by its code
pub fault_once : {f f' : code.Fault} → code_of f ≡ code_of f' → f ≡ f'
fault_once {f} {f'} e = sym (fault_back f) ∙ ap fault_of e ∙ fault_back f'

module _ (label : List ℕ) (from : ℕ) where
  -- the answer to what the rules find
  abbrev answer : next.Ahead → Result (Option Found) Broken
  answer (comes x q g w r) = Ok (Some (element_is (placed from g w x q), from + length g + length w))
  answer (faulty c g) = Err (fault_of c, from + length g)
  answer none_left = Ok None

  found : Element → ℕ → Result (Option Found) Broken
  found e n = Ok (Some (e, n))

  broken : code.Fault → ℕ → Result (Option Found) Broken
  broken f n = Err (f, n)

  next_is : (r : Result (Option Found) Broken) → NextAt label from r → answer (next_element base (drop from label)) ≡ r
  unfolding found broken
  next_is (Ok (Some f)) n =
      ap answer (next_complete base n.is)
      ∙ ap₂ found (ap element_is (sym n.placed) ∙ element_back label f.0)
      (omega (arith, part_length label from n.at (omega (arith, n.onward, n.within)), part_length label n.at f.1 n.within, n.behind, n.onward))
  next_is (Ok None) n = ap answer (next_complete base n)
  next_is (Err b) n = ap answer (next_complete base n.is)
      ∙ ap₂ broken (fault_back b.0) (omega (arith, part_length label from b.1 (omega (arith, n.within)), n.behind))

-- two answers of `next` are one: the element with its numbers and its span, the fault, and the place
pub next_once : (label : List ℕ) (from : ℕ) (r r' : Result (Option Found) Broken) → NextAt label from r → NextAt label from r' → r ≡ r'
next_once label from r r' x y = sym (next_is label from r x) ∙ next_is label from r' y

-- what stands at a place is the next element from there on
pub stands_once : (label : List ℕ) (at : ℕ) (r r' : Result (Option Found) Broken) → Stands label at r → Stands label at r' → r ≡ r'
stands_once label at r r' x y = next_once label at r r' (alone r x) (alone r' y)
  where
    alone : (r : Result (Option Found) Broken) → Stands label at r → NextAt label at r
    alone r = stands_next label at at r (omega arith) (rw (part_nil label at) no_gap)

inside_back : (r r' : Result Found Broken) → inside r ≡ inside r' → r ≡ r'
inside_back (Ok f) (Ok f') e = cc
inside_back (Ok f) (Err b) e = cc
inside_back (Err b) (Ok f) e = cc
inside_back (Err b) (Err b') e = cc

-- what is asked inside the label alone has one answer too
pub inside_once : (label : List ℕ) (at : ℕ) (r r' : Result Found Broken) → Stands label at (inside r) → Stands label at (inside r') → r ≡ r'
inside_once label at r r' x y = inside_back r r' (stands_once label at (inside r) (inside r') x y)

-- ---- gaps

no_more_gap : {g r : List ℕ} → Gap base g r → front is_blank (g ++ r) ≡ false → pair 47 42 (g ++ r) ≡ false → g ≡ []
no_more_gap no_gap h k = refl
no_more_gap (blank e n) h k = absurd (true≢false (sym e ∙ h))
no_more_gap (remark (comment t u) n) h k = absurd (true≢false k)

module _ (label : List ℕ) (from : ℕ) where
  abbrev place_at : next.Ahead → ℕ
  place_at (comes x q g w r) = from + length g
  place_at (faulty c g) = from + length g
  place_at none_left = length label

  abbrev code_at : next.Ahead → code.Fault
  code_at (comes x q g w r) = ForeignByte
  code_at (faulty c g) = fault_of c
  code_at none_left = ForeignByte

  -- the gap is broken where what the rules find is a comment
  abbrev skip : next.Ahead → Result ℕ Broken
  skip f = cond (pair 47 42 (drop (place_at f) label)) (Err (code_at f, place_at f)) (Ok (place_at f))

  module _ (at : ℕ) (h : from ≤ at) (w : at ≤ length label) (g : Gap base (part label from at) (drop at label)) where
    past : from + length (part label from at) ≡ at
    past = omega (arith, part_length label from at w)

    -- what the rules find from the place on, they find behind the gap
    clear_place : Clear label at → place_at (next_element base (drop from label)) ≡ at
    clear_place c = go refl (next_sound base (drop at label))
      where
        go : {s : List ℕ} {f : next.Ahead} → drop at label ≡ s → NextIs base s f → place_at (next_element base (drop from label)) ≡ at
        go e (finds {g = g'} {w = v} {r = r} k y) =
            let n : g' ≡ [] = no_more_gap k (ap (front is_blank) (sym e) ∙ c.no_blank) (ap (pair 47 42) (sym e) ∙ c.no_comment) in
            let d : drop at label ≡ v ++ r = e ∙ ap (λ (t : List ℕ). t ++ (v ++ r)) n in
            let j : part label from at ++ (v ++ r) ≡ drop from label = ap (λ (t : List ℕ). part label from at ++ t) (sym d) ∙ joined label from at h in
            ap place_at (ap (next_element base) (sym j) ∙ next_complete base (finds (subst (Gap base (part label from at)) d g) y)) ∙ past
        go e (faults {g = g'} {r = r} {c = i} k y) =
            let n : g' ≡ [] = no_more_gap k (ap (front is_blank) (sym e) ∙ c.no_blank) (ap (pair 47 42) (sym e) ∙ c.no_comment) in
            let d : drop at label ≡ r = e ∙ ap (λ (t : List ℕ). t ++ r) n in
            ap place_at (next_complete base (faulty_is label from at i h g (subst (λ (t : List ℕ). Fault base t i) (sym d) y))) ∙ past
        go e (ends {l = s} k) =
            let n : s ≡ [] = no_more_gap k (simp append-nil (ap (front is_blank) (sym e) ∙ c.no_blank)) (simp append-nil (ap (pair 47 42) (sym e) ∙ c.no_comment)) in
            let z : length label - at ≡ 0 = sym (length-drop at label) ∙ ap length (e ∙ n) in
            let l : at ≡ length label = omega arith in
            ap place_at (next_complete base (none_is label from at h l g)) ∙ sym l

  skip_is : (r : Result ℕ Broken) → Skipped label from r → skip (next_element base (drop from label)) ≡ r
  skip_is (Ok at) g = rw (clear_place at g.onward g.clear.within g.is g.clear, g.clear.no_comment)
  skip_is (Err b) g =
      let o = g.broken.opens in
      let w : b.1 ≤ length label = omega (arith, o.within) in
      let e : next_element base (drop from label) ≡ faulty (code_of b.0) (part label from b.1) = next_complete base (faulty_is label from b.1 (code_of b.0) g.onward g.is g.broken.is) in
      ap skip e ∙ rw (past b.1 g.onward w g.is, two label b.1 47 42 o.first o.second o.within, fault_back b.0)

pub skipped_once : (label : List ℕ) (from : ℕ) (r r' : Result ℕ Broken) → Skipped label from r → Skipped label from r' → r ≡ r'
skipped_once label from r r' x y = sym (skip_is label from r x) ∙ skip_is label from r' y

-- ---- marks

-- the mark of a byte, and of the sign that it is
abbrev mark_of_lem : ℕ → math.Option rule.Fixed → Option Mark
mark_of_lem b (math.some f) = Some (One (fixed_is f))
mark_of_lem b math.none = cond (eqb b 42) (Some Asterisk) (cond (eqb b 47) (Some Stroke) (cond (eqb b 34) (Some Quote) (cond (eqb b 39) (Some Apostrophe) None)))

none_of : (s t u v : Bool) → (s || (t || (u || (v || false)))) ≡ false → cond s (Some Asterisk) (cond t (Some Stroke) (cond u (Some Quote) (cond v (Some Apostrophe) None))) ≡ None
none_of true t u v h = absurd (true≢false h)
none_of false true u v h = absurd (true≢false h)
none_of false false true v h = absurd (true≢false h)
none_of false false false true h = absurd (true≢false h)
none_of false false false false h = refl

mark_is : {b : ℕ} {m : Option Mark} → MarkOf b m → mark_of_lem b (sign_of base b) ≡ m
mark_is {b} (m_sign {s} h) = ap (mark_of_lem b) h ∙ ap (λ f. Some (One f)) (fixed_back s)
mark_is (m_star h) = rw h
mark_is (m_slash h) = rw h
mark_is (m_quote h) = rw h
mark_is (m_apostrophe h) = rw h
mark_is {b} (m_nothing h o) = ap (mark_of_lem b) h ∙ none_of (eqb b 42) (eqb b 47) (eqb b 34) (eqb b 39) o

pub mark_once : {b : ℕ} {m m' : Option Mark} → MarkOf b m → MarkOf b m' → m ≡ m'
mark_once x y = sym (mark_is x) ∙ mark_is y

-- ---- breaks

pub breaks_once : {p : ℕ → Bool} {s : List ℕ} {c c' : ℕ} → Breaks p s c → Breaks p s c' → c ≡ c'
breaks_once open_at_end open_at_end = refl
breaks_once (open_at h) (open_at k) = refl
breaks_once (open_at h) (foreign k) = absurd (true≢false (sym h ∙ k))
breaks_once (foreign h) (open_at k) = absurd (true≢false (sym k ∙ h))
breaks_once (foreign h) (foreign k) = refl

-- the fault of a break is one
pub break_once : {p : ℕ → Bool} {s : List ℕ} {f f' : code.Fault} → Breaks p s (code_of f) → Breaks p s (code_of f') → f ≡ f'
break_once x y = fault_once (breaks_once x y)
