-- The next element, in the rules' terms.
use Prim.Native.Nat.{ℕ, ◌+◌, ◌-◌, ◌≤◌, ◌<◌}
use Rattle.std.specs.Prelude.{Option, Some, None, Result, Ok, Err}
use mathlib.Core.Path.{◌≡◌, refl, sym, ap, subst, ◌∙◌}
use mathlib.Core.List.{List, [], ◌++◌, append-nil}
use native.Mathlib.Omega.{arith}
use lib.ListN.{length, drop, drop_of_length-le}
use Rattle.rules.specs.Data.{Elem, ◌on◌}
use Rattle.rules.specs.Modes.{base}
use Rattle.rules.specs.Elements.{Gap, Spells, placed, Fault}
use Rattle.rules.proofs.Machine.Elements.{comes, faulty, none_left, NextIs, finds, faults, ends}
use Rattle.classes.specs.Places.{part, as_span}
use Rattle.elements.specs.Faults.{code_of}
use Rattle.elements.specs.Places.{GapEnds, GapBroken}
use Rattle.elements.specs.Next.{placed_of, place_of, ElementAt, FaultAt, Stands, ElementNext, FaultNext, NextAt}
use Rattle.elements.specs.declared.Element.{Element}
use Rattle.elements.specs.declared.Found.{Found}
use Rattle.elements.specs.declared.Broken.{Broken}
use Rattle.elements.specs.declared.Fault as code
use Rattle.classes.proofs.Runs.{joined}
use Rattle.classes.proofs.Parts.{part_length}

-- an element stands at a place, with `q` bytes left out at either side
pub stand : (l : List ℕ) (at to q a b : ℕ) (e : Element) (x : Elem) → placed_of l e ≡ x on as_span a b → a ≡ at + q → b ≡ to - q → place_of e ≡ at → at < to → to ≤ length l →
    Spells base (part l at to) x q (drop to l) → ElementAt l at (e, to)
stand l at to q a b e x p h k z u w s = record { x = x; q = q; onward = u; within = w; spells = s; placed = p ∙ rw (h, k); place = z }

-- a fault at a place
pub fails : (l : List ℕ) (at : ℕ) (f : code.Fault) → at < length l → Fault base (drop at l) (code_of f) → FaultAt l at (f, at)
fails l at f w h = record { within = w; place = refl; is = h }

found_is : (l : List ℕ) (from at e q : ℕ) (x : Elem) → from ≤ at → at ≤ e → Gap base (part l from at) (drop at l) → Spells base (part l at e) x q (drop e l) →
    NextIs base (drop from l) (comes x q (part l from at) (part l at e) (drop e l))
found_is l from at e q x h k g s =
    let j : drop at l ≡ part l at e ++ drop e l = sym (joined l at e k) in
    subst (λ (t : List ℕ). NextIs base t (comes x q (part l from at) (part l at e) (drop e l)))
    (ap (λ (t : List ℕ). part l from at ++ t) (sym j) ∙ joined l from at h)
    (finds (subst (Gap base (part l from at)) j g) s)

pub faulty_is : (l : List ℕ) (from at c : ℕ) → from ≤ at → Gap base (part l from at) (drop at l) → Fault base (drop at l) c → NextIs base (drop from l) (faulty c (part l from at))
faulty_is l from at c h g f = subst (λ (t : List ℕ). NextIs base t (faulty c (part l from at))) (joined l from at h) (faults g f)

pub none_is : (l : List ℕ) (from at : ℕ) → from ≤ at → at ≡ length l → Gap base (part l from at) (drop at l) → NextIs base (drop from l) none_left
none_is l from at h k g =
    let n : length l ≤ at = omega arith in
    let e : drop at l ≡ [] = drop_of_length-le l n in
    let j : drop from l ≡ part l from at = sym (joined l from at h) ∙ ap (λ (t : List ℕ). part l from at ++ t) e ∙ append-nil _ in
    subst (λ (t : List ℕ). NextIs base t none_left) (sym j) (ends (subst (Gap base (part l from at)) e g))

placed_at : (l : List ℕ) (from at to q : ℕ) (x : Elem) → from ≤ at → at ≤ to → to ≤ length l → x on as_span (at + q) (to - q) ≡ placed from (part l from at) (part l at to) x q
placed_at l from at to q x h k w =
    let g : from + length (part l from at) ≡ at = omega (arith, part_length l from at (omega arith)) in
    let t : from + length (part l from at) + length (part l at to) ≡ to = omega (arith, g, part_length l at to w) in
    rw (t, g)

pub element_behind : (l : List ℕ) (from at : ℕ) (f : Found) → from ≤ at → Gap base (part l from at) (drop at l) → ElementAt l at f → ElementNext l from f
element_behind l from at f h g e =
    let k : at ≤ f.1 = omega (arith, e.onward) in
    record {
      x = e.x;
      q = e.q;
      at = at;
      behind = h;
      onward = e.onward;
      within = e.within;
      is = found_is l from at f.1 e.q e.x h k g e.spells;
      placed = e.placed ∙ placed_at l from at f.1 e.q e.x h k e.within;
      place = e.place;
    }

pub fault_behind : (l : List ℕ) (from at : ℕ) (b : Broken) → from ≤ at → Gap base (part l from at) (drop at l) → FaultAt l at b → FaultNext l from b
fault_behind l from at b h g e =
    subst (λ (n : ℕ). n < length l → Fault base (drop n l) (code_of b.0) → from ≤ n → Gap base (part l from n) (drop n l) → FaultNext l from b) e.place
    (λ w f k i. record { behind = k; within = w; is = faulty_is l from b.1 (code_of b.0) k i f }) e.within e.is h g

pub stands_next : (l : List ℕ) (from at : ℕ) (r : Result (Option Found) Broken) → from ≤ at → Gap base (part l from at) (drop at l) → Stands l at r → NextAt l from r
stands_next l from at (Ok (Some f)) h g e = element_behind l from at f h g e
stands_next l from at (Ok None) h g e = none_is l from at h e g
stands_next l from at (Err b) h g e = fault_behind l from at b h g e

pub gap_broken : (l : List ℕ) (from : ℕ) (b : Broken) → GapBroken l from b → FaultNext l from b
gap_broken l from b g = record {
  behind = g.onward;
  within = omega (arith, g.broken.opens.within);
  is = faulty_is l from b.1 (code_of b.0) g.onward g.is g.broken.is;
}

-- behind the gap that was passed
pub next_found : (l : List ℕ) (from at : ℕ) (r : Result (Option Found) Broken) → GapEnds l from at → Stands l at r → NextAt l from r
next_found l from at r g e = stands_next l from at r g.onward g.is e
