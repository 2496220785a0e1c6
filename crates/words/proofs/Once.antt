-- What the readers of words say is said in one way: each verdict of the rules is told by one value, its numbers included.
use Prim.Native.Nat.{ℕ}
use mathlib.Core.Bool.{Bool, false}
use mathlib.Core.Option.{Option as rule-Option, none, some}
use Rattle.std.specs.Prelude.{Some, None, Ok, Err}
use mathlib.Core.Path.{◌≡◌, refl, sym, ap, ◌∙◌}
use mathlib.Core.List.{List, []}
use native.Mathlib.Omega.{arith}
use lib.ListN.{length, take, length-take}
use Rattle.rules.specs.Data as rule
use Rattle.rules.specs.Values as rules
use Rattle.rules.proofs.Machine.Words.{WordVerdict, is, over, formless}
use Rattle.words.specs.declared.Fixed.{Fixed}
use Rattle.words.specs.declared.Fixed.TheVariants as fixed
use Rattle.words.specs.declared.Real.{Real}
use Rattle.words.specs.declared.Moment.{Moment}
use Rattle.words.specs.declared.Value.TheVariants.{Name, End, The, Integer, Based, Float, Time}
use Rattle.words.specs.declared.Unfit.TheVariants.{NoForm, PastLimit}
use Rattle.words.specs.Says.{fixed_of, Answer, verdict_of, Worth, Named, Means}
use Rattle.words.specs.Parts.{Significant}
use Rattle.words.specs.Days.{InCalendar, day_if_any}
use Rattle.words.proofs.Reserved.{classified_once}
use Rattle.words.specs.Times.{Timed}

-- ---- values

-- back from the rules to the code: a word or sign, Object for those that the code has not; a real; a moment
abbrev pub fixed_is : rule.Fixed → Fixed
fixed_is rule.OBJECT = fixed.Object
fixed_is rule.END_OBJECT = fixed.EndObject
fixed_is rule.GROUP = fixed.Group
fixed_is rule.END_GROUP = fixed.EndGroup
fixed_is rule.BEGIN_OBJECT = fixed.BeginObject
fixed_is rule.BEGIN_GROUP = fixed.Object
fixed_is rule.equals = fixed.Equals
fixed_is rule.comma = fixed.Comma
fixed_is rule.star = fixed.Star
fixed_is rule.slash = fixed.Slash
fixed_is rule.caret = fixed.Caret
fixed_is rule.less = fixed.Less
fixed_is rule.greater = fixed.Greater
fixed_is rule.lpar = fixed.OpenParen
fixed_is rule.rpar = fixed.CloseParen
fixed_is rule.lbrace = fixed.OpenBrace
fixed_is rule.rbrace = fixed.CloseBrace
fixed_is rule.power = fixed.Power
fixed_is rule.semicolon = fixed.Object

pub fixed_back : (k : Fixed) → fixed_is (fixed_of k) ≡ k
fixed_back fixed.Object = refl
fixed_back fixed.EndObject = refl
fixed_back fixed.Group = refl
fixed_back fixed.EndGroup = refl
fixed_back fixed.BeginObject = refl
fixed_back fixed.Equals = refl
fixed_back fixed.Comma = refl
fixed_back fixed.Star = refl
fixed_back fixed.Slash = refl
fixed_back fixed.Caret = refl
fixed_back fixed.Less = refl
fixed_back fixed.Greater = refl
fixed_back fixed.OpenParen = refl
fixed_back fixed.CloseParen = refl
fixed_back fixed.OpenBrace = refl
fixed_back fixed.CloseBrace = refl
fixed_back fixed.Power = refl

abbrev pub real_of_lem : rule.Real → Real
real_of_lem x = record { minus = x.number.minus; number = x.number.size; below = x.power.minus; power = x.power.size }

abbrev pub moment_of_lem : rule.Moment → Moment
moment_of_lem x = record { parts = x.parts; year = x.year; month = x.month; day = x.day; hour = x.hour; minute = x.minute; second = x.second; nanoseconds = x.nanoseconds; west = x.offset.minus; offset = x.offset.size; mark = x.mark }

-- the answer that says a verdict; no form for an element that no word is
abbrev answer_of_verdict : WordVerdict → Answer
answer_of_verdict (is (rule.name n)) = Ok Name
answer_of_verdict (is (rule.the k)) = Ok (The (fixed_is k))
answer_of_verdict (is (rule.end off)) = Ok End
answer_of_verdict (is (rule.integer n)) = Ok (Integer n.minus n.size)
answer_of_verdict (is (rule.based n)) = Ok (Based n.minus n.size)
answer_of_verdict (is (rule.real x)) = Ok (Float (real_of_lem x))
answer_of_verdict (is (rule.moment x)) = Ok (Time (moment_of_lem x))
answer_of_verdict (is (rule.range lo hi)) = Err NoForm
answer_of_verdict (is rule.text) = Err NoForm
answer_of_verdict (is rule.symbol) = Err NoForm
answer_of_verdict over = Err PastLimit
answer_of_verdict formless = Err NoForm

module _ (w : List ℕ) (off : Bool) where
  answer_back : (r : Answer) → answer_of_verdict (verdict_of w off r) ≡ r
  answer_back (Ok Name) = refl
  answer_back (Ok End) = refl
  answer_back (Ok (The k)) = ap (λ f. Ok (The f)) (fixed_back k)
  answer_back (Ok (Integer neg n)) = refl
  answer_back (Ok (Based neg n)) = refl
  answer_back (Ok (Float x)) = refl
  answer_back (Ok (Time t)) = refl
  answer_back (Err PastLimit) = refl
  answer_back (Err NoForm) = refl

  verdict_once : (r r' : Answer) → verdict_of w off r ≡ verdict_of w off r' → r ≡ r'
  verdict_once r r' e = sym (answer_back r) ∙ ap answer_of_verdict e ∙ answer_back r'

pub worth_once : {v : rules.Written} {r r' : Answer} → Worth v r → Worth v r' → r ≡ r'
worth_once {r} {r'} x y = verdict_once [] false r r' (sym (x.worth [] false) ∙ y.worth [] false)

pub named_once : {w : List ℕ} {r r' : Answer} → Named w r → Named w r' → r ≡ r'
named_once {w} {r} {r'} x y = verdict_once w false r r' (sym (x.names false) ∙ y.names false)

pub timed_once : {parts : ℕ} {d : rules.Day} {t : rules.Time} {r r' : Answer} → Timed parts d t r → Timed parts d t r' → r ≡ r'
timed_once {r} {r'} x y = verdict_once [] false r r' (sym (x.worth [] false) ∙ y.worth [] false)

-- of a word, whatever follows it
pub word_once : {w : List ℕ} {r r' : Answer} → Means w r → Means w r' → r ≡ r'
word_once {w} {r} {r'} x y =
    verdict_once w false r r' (sym (classified_once w false (verdict_of w false r) (x.means false)) ∙ classified_once w false (verdict_of w false r') (y.means false))

-- ---- days and digits

abbrev day_from : rule-Option rules.Day → InCalendar
day_from none = None
day_from (some d) = Some (record { year = d.year; month = d.month; day = d.day })

day_back : (r : InCalendar) → day_from (day_if_any r) ≡ r
day_back None = refl
day_back (Some d) = refl

pub day_once : {d : rule-Option rules.Day} (r r' : InCalendar) → d ≡ day_if_any r → d ≡ day_if_any r' → r ≡ r'
day_once r r' x y = sym (day_back r) ∙ ap day_from (sym x ∙ y) ∙ day_back r'

pub zeros_once : {s : List ℕ} {r r' : ℕ} → Significant s r → Significant s r' → r ≡ r'
zeros_once {s} {r} {r'} x y =
    let h : length (take r s) ≡ length (take r' s) = ap length (sym x.is ∙ y.is) in
    omega (arith, length-take r s, length-take r' s, x.within, y.within)
