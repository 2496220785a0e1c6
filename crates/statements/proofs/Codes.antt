-- The codes that a label can be refused with, and what each answer says.
use Prim.Native.Nat.{ℕ, ◌≤◌}
use native.Mathlib.Omega.{arith}
use mathlib.Core.Bool.{Bool}
use mathlib.Core.Path.{◌≡◌}
use mathlib.Core.List.{List}
use borrow.Author.Rules.{rules}
use Rattle.rules.specs.Data.{Elem, Placed}
use Rattle.rules.specs.Modes.{Mode}
use Rattle.rules.specs.Elements.{Breaks, open_at_end, open_at, foreign, Fault, no_element, no_form, past_limit, broken_text, broken_symbol, broken_comment, empty_symbol, long_symbol}
use Rattle.rules.specs.Faults.{PastLimit, exponent_past, name_differs, too_deep, begun_too_deep, not_set_off, Code}
use Rattle.rules.specs.Faults as faults
use Rattle.rules.specs.Reading.{refused, Judged, misspelled, misplaced, ends_early, says}
use Rattle.statements.specs.Answer.{refusal_said}
use Rattle.statements.specs.Passes.{Refuses}
use Rattle.statements.specs.declared.outcome.Refusal as answers

breaks_code : {p : ℕ → Bool} {r : List ℕ} {c : ℕ} → Breaks p r c → (2 ≤ c) × (c ≤ 10)
breaks_code open_at_end = (omega arith, omega arith)
breaks_code (open_at h) = (omega arith, omega arith)
breaks_code (foreign h) = (omega arith, omega arith)

fault_code : {m : Mode} {r : List ℕ} {c : ℕ} → Fault m r c → (2 ≤ c) × (c ≤ 10)
fault_code (no_element f g h k) = (omega arith, omega arith)
fault_code (no_form x h) = (omega arith, omega arith)
fault_code (past_limit x h) = (omega arith, omega arith)
fault_code (broken_text x h b) = breaks_code b
fault_code (broken_symbol x h b) = breaks_code b
fault_code (broken_comment x h b) = breaks_code b
fault_code empty_symbol = (omega arith, omega arith)
fault_code (long_symbol x h) = (omega arith, omega arith)

limit_code : {e : Elem} {c : ℕ} → PastLimit e c → (2 ≤ c) × (c ≤ 10)
limit_code exponent_past = (omega arith, omega arith)
limit_code name_differs = (omega arith, omega arith)
limit_code (too_deep k) = (omega arith, omega arith)
limit_code (begun_too_deep k) = (omega arith, omega arith)
limit_code not_set_off = (omega arith, omega arith)

element_code : {m : Mode} {es : List Placed} {x : Placed} {c : ℕ} → Code m es x c → (2 ≤ c) × (c ≤ 10)
element_code (faults.cannot_stand h) = (omega arith, omega arith)
element_code (faults.past_limit v p) = limit_code p

pub judged_code : {m : Mode} {l : List ℕ} {c i : ℕ} → Judged m l (refused c i) → (2 ≤ c) × (c ≤ 10)
judged_code (misspelled x e g f) = fault_code f
judged_code (misplaced x e g s r) = element_code r.code
judged_code (ends_early x e g) = (omega arith, omega arith)

-- ---- the answer of a code

pub refusal_is : {c p n : ℕ} {r : answers.Refusal} → c ≡ n → refusal_said r ≡ says n p 0 → Refuses c p r
refusal_is h e = record { is = λ x y. rw h e }

pub ruleset refusals = (refusal_is, rules)
