-- A word: the value of each of its forms.
use Prim.Native.Nat.{ℕ, ◌^◌, ◌≤◌}
use mathlib.Core.Bool.{Bool}
use mathlib.Core.Option.{Option as mathlib-Option, none, some}
use Rattle.std.specs.Prelude.{Option, Some, None, Err}
use mathlib.Core.Path.{◌≡◌, ap, subst, ◌∙◌}
use mathlib.Core.List.{List}
use native.Mathlib.Nat.{pow-le-pow_right}
use native.Mathlib.Omega.{arith}
use borrow.Author.Tests.{leb-true}
use lib.Dec.{leb}
use lib.ListN.{length, length-take, length-drop}
use Rattle.rules.specs.Modes.{base}
use Rattle.rules.specs.Reading.{longest}
use Rattle.rules.specs.Values.{number, signed, a_whole, a_based, a_decimal, a_date, Date as Date-rule, Written}
use Rattle.rules.specs.Words as words
use Rattle.rules.specs.Words.{Digits, in_radix, pointed, bare, from_to, DateWord, year_doy, year_month_day, upper_t, lower_t, Shape, identifier_word, integer_word, based_word, real_word, date_time_word, range_word}
use Rattle.rules.proofs.Words.Runs.{both}
use Rattle.rules.proofs.Machine.Words.{g_word, shape, shaped, Classified}
use Rattle.rules.proofs.Words.Shapes.{shape_sound}
use Rattle.rules.proofs.Tables.ElementLimits.{second_digits}
use Rattle.rules.proofs.Elements.Pieces.{classified}
use Rattle.forms.specs.declared.Span.{Span}
use Rattle.forms.specs.declared.Date.{Date}
use Rattle.forms.specs.declared.Clock.{Clock}
use Rattle.forms.specs.declared.Zone.{Zone}
use Rattle.forms.specs.declared.Stamp.{Stamp}
use Rattle.forms.specs.declared.Form.{Form}
use Rattle.forms.specs.declared.Form.TheVariants.{Name, Whole, Radix, Decimal, Day, Moment}
use Rattle.forms.specs.Forms.{on, date_of, zone_of, time_of, written, FormAt}
use Rattle.words.specs.declared.Unfit.TheVariants.{NoForm}
use Rattle.words.specs.Says.{Answer, Worth, Named, Means}
use Rattle.words.specs.Parts.{Valued}
use Rattle.words.specs.Days.{year_of}
use Rattle.words.specs.Times.{InDigits, WrittenInDigits}
use Rattle.words.proofs.Clocks.{number_bound}

pub short_part : (w s : List ℕ) (p : Span) → length w ≤ longest → s ≡ on w p → length s ≤ 65535
short_part w s p h e = rw (e, length-take, length-drop) (omega arith)

module _ (w : List ℕ) (f : Form) where
  pub date_digits : (d : Date) → WrittenInDigits (written w (Some f)) → f ≡ Day d → year_of (date_of w d) ≤ 9999
  date_digits d k q = rw q at k

  pub time_digits : (s : Stamp) (c : Clock) (z : Zone) → WrittenInDigits (written w (Some f)) → f ≡ Moment s c z → InDigits (time_of w s c (zone_of w z))
  time_digits s c z k q = rw q at k

module _ (w : List ℕ) (f : Form) {r : Answer} where
  pub name_word : f ≡ Name → Named w r → Valued w f r
  name_word q v = record { values = λ off. rw q (v.names off) }

  pub whole_word : (neg : Bool) (p : Span) (s : List ℕ) → f ≡ Whole neg p → s ≡ on w p → Worth (a_whole (signed neg (number s))) r → Valued w f r
  whole_word neg p s q e v = record { values = λ off. rw (q, ← e) (v.worth w off) }

  pub radix_word : (neg : Bool) (p o : Span) (s t : List ℕ) → f ≡ Radix p neg o → s ≡ on w p → t ≡ on w o → Worth (a_based (number s) neg t) r → Valued w f r
  radix_word neg p o s t q e g v = record { values = λ off. rw (q, ← e, ← g) (v.worth w off) }

  pub decimal_word : (neg below : Bool) (p o x : Span) (s t u : List ℕ) → f ≡ Decimal neg p o below x → s ≡ on w p → t ≡ on w o → u ≡ on w x → Worth (a_decimal neg s t (signed below (number u))) r → Valued w f r
  decimal_word neg below p o x s t u q e g h v = record { values = λ off. rw (q, ← e, ← g, ← h) (v.worth w off) }

  pub date_word : (d : Date) → f ≡ Day d → Worth (a_date (date_of w d)) r → Valued w f r
  date_word d q v = record { values = λ off. rw q (v.worth w off) }

  pub time_word : (s : Stamp) (c : Clock) (z : Zone) → f ≡ Moment s c z → Worth (time_of w s c (zone_of w z)) r → Valued w f r
  time_word s c z q v = record { values = λ off. rw q (v.worth w off) }

-- ---- from the rules' pattern to the value

four : (y : List ℕ) → Digits 4 4 y → number y ≤ 9999
four y Y =
    let o = both (leb 4 (length y)) (leb (length y) 4) Y.count in
    let l : 10 ^ length y ≤ 10 ^ 4 = pow-le-pow_right {n = 10} (omega arith) {i = length y} {j = 4} (leb-true (length y) 4 o.1) in
    omega (arith, number_bound Y.all)

four_digits : {w : List ℕ} {d : Date-rule} → DateWord w d → year_of d ≤ 9999
four_digits (year_doy {y} Y N) = four y Y
four_digits (year_month_day {y} Y M D) = four y Y

in_digits : {w : List ℕ} {v : Written} → Shape base w v → InDigits v
in_digits (identifier_word N) = tt
in_digits (integer_word N) = tt
in_digits (based_word (in_radix R S A L)) = tt
in_digits (real_word (pointed S D F L X)) = tt
in_digits (real_word (bare S D X)) = tt
in_digits (words.date_word D) = four_digits D
in_digits (words.time_word T) = second_digits T
in_digits (date_time_word (upper_t D T)) = (four_digits D, second_digits T)
in_digits (date_time_word (lower_t D T)) = (four_digits D, second_digits T)
in_digits (range_word h (from_to S D N)) = tt

pub written_in_digits : (w : List ℕ) (a : Option Form) (f : Form) → FormAt (g_word base) w 0 a → a ≡ Some f → WrittenInDigits (written w (Some f))
written_in_digits w a f x q = subst (λ (b : Option Form). WrittenInDigits (written w b)) q (go (written w a) x.matched)
  where
    go : (o : mathlib-Option Written) → shape base w ≡ o → WrittenInDigits o
    go none e = tt
    go (some v) e = in_digits (shape_sound base w v e)

pub no_meaning : (w : List ℕ) (a : Option Form) → FormAt (g_word base) w 0 a → a ≡ None → Means w (Err NoForm)
no_meaning w a x q = record { means = λ off. subst (Classified base off w) (ap (shaped base off) (x.matched ∙ ap (written w) q)) (classified base off w) }

pub meaning : (w : List ℕ) (a : Option Form) (f : Form) (r : Answer) → FormAt (g_word base) w 0 a → a ≡ Some f → Valued w f r → Means w r
meaning w a f r x q v = record {
  means = λ off. subst (Classified base off w) (ap (shaped base off) (x.matched ∙ ap (written w) q) ∙ v.values off) (classified base off w);
}
