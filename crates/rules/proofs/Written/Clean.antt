-- The words of a table are in order: names and symbols in upper case, texts reassembled.
use Prim.Native.Nat.{ℕ}
use mathlib.Core.Path.{◌≡◌, ◌∙◌}
use mathlib.Core.Bool.{true}
use mathlib.Core.List.{List, [], ◌∷◌}
use Rattle.rules.specs.Proper.{NameWord, Each, none, one, stretch, Held, Holds}
use Rattle.rules.specs.Written.{is_name, after}
use Rattle.rules.specs.Data.{Span, Opens, outside, inside, Row, attribute, pointer, opened, closed, an_integer, a_real, a_moment, a_text, a_symbol, a_unit, sequence, sequence_end, set, set_end, last}
use Rattle.rules.specs.Meaning.{fold_all, reassemble}
use Rattle.rules.proofs.Tables.Contents.{name_test, text_body, symbol_body}
use Rattle.rules.proofs.Machine.Checks.{is_text, is_symbol}
use Rattle.rules.proofs.Written.Marks.{Wording, wording, wordings}
use Rattle.rules.proofs.Written.Texts.{reassemble_idempotent, reassemble_text}
use Rattle.rules.proofs.Written.Folds.{fold_all_again, name_fold, is_symbol_fold}

abbrev pub Upper : List ℕ → Type 0
Upper w = (is_name w ≡ true) × (fold_all w ≡ w)

abbrev pub Clean : Wording → Type 0
Clean (attribute w) = Upper w
Clean (pointer w) = Upper w
Clean (opened k w) = Upper w
Clean (closed k) = Unit {0}
Clean (an_integer w) = Unit {0}
Clean (a_real x) = Unit {0}
Clean (a_moment t) = Unit {0}
Clean (a_text w) = (is_text w ≡ true) × (reassemble w ≡ w)
Clean (a_symbol w) = (is_symbol w ≡ true) × (fold_all w ≡ w)
Clean (a_unit op w v) = Upper w
Clean sequence = Unit {0}
Clean sequence_end = Unit {0}
Clean set = Unit {0}
Clean set_end = Unit {0}
Clean (last n) = Unit {0}

upper : (given : List ℕ) (p : Span) → Held NameWord given p → Upper (fold_all (stretch given p))
upper given p h = (name_fold (stretch given p) ∙ (name_test (stretch given p)).0 h.content, fold_all_again (stretch given p))

clean_wording : (given : List ℕ) (r : Row) → Holds given r → Clean (wording given r)
clean_wording given (attribute p) h = upper given p h
clean_wording given (pointer p) h = upper given p h
clean_wording given (opened k p) h = upper given p h
clean_wording given (closed k) h = tt
clean_wording given (an_integer w) h = tt
clean_wording given (a_real x) h = tt
clean_wording given (a_moment t) h = tt
clean_wording given (a_text p) h = (reassemble_text (stretch given p) ((text_body (stretch given p)).0 h.content), reassemble_idempotent (stretch given p))
clean_wording given (a_symbol p) h = (is_symbol_fold (stretch given p) ∙ (symbol_body (stretch given p)).0 h.content, fold_all_again (stretch given p))
clean_wording given (a_unit op p w) h = upper given p h
clean_wording given sequence h = tt
clean_wording given sequence_end h = tt
clean_wording given set h = tt
clean_wording given set_end h = tt
clean_wording given (last n) h = tt

pub clean_wordings : (given : List ℕ) (rs : List Row) → Each (Holds given) rs → Each Clean (wordings given rs)
clean_wordings given [] none = none
clean_wordings given (r ∷ rs) (one h hs) = one (clean_wording given r h) (clean_wordings given rs hs)

-- the names of open blocks
abbrev pub Uppers : Opens → Type 0
Uppers outside = Unit {0}
Uppers (inside k n o) = Upper n × Uppers o

pub uppers_after : (o : Opens) (r : Wording) → Uppers o → Clean r → Uppers (after o r)
uppers_after o (attribute w) u c = u
uppers_after o (pointer w) u c = u
uppers_after o (opened k w) u c = (c, u)
uppers_after outside (closed k) u c = tt
uppers_after (inside j n o) (closed k) u c = u.1
uppers_after o (an_integer w) u c = u
uppers_after o (a_real x) u c = u
uppers_after o (a_moment t) u c = u
uppers_after o (a_text w) u c = u
uppers_after o (a_symbol w) u c = u
uppers_after o (a_unit op w v) u c = u
uppers_after o sequence u c = u
uppers_after o sequence_end u c = u
uppers_after o set u c = u
uppers_after o set_end u c = u
uppers_after o (last n) u c = u
