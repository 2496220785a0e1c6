-- Examples: in every mode a label, and the same with a remark, other spacing and bytes beyond END; and pairs that are refused.
use Prim.Native.Nat.{ℕ}
use mathlib.Core.Bool.{true, false}
use mathlib.Core.Path.{◌≡◌, refl}
use mathlib.Core.List.{List, [], ◌∷◌}
use Rattle.rules.specs.Bytes.{ascii, stops, goes_on}
use Rattle.rules.specs.Modes.{Mode, base}
use Rattle.rules.specs.Elements.{in_word, Comment, comment, no_gap, blank, remark, sign}
use Rattle.rules.specs.Reading.{Outcome, refused, Judged}
use Rattle.rules.specs.SameElements.{OneElement, spelled, any_word, first_end_word, no_end_word, Listed, to_the_end, through_end, and_then, AlikeRead}
use Rattle.rules.proofs.Reading.Reader.{judge_sound}
use Rattle.rules.proofs.Reading.SameElements.{alike_judged}
use Rattle.rules.proofs.Reading.Listing.{listed_same}

abbrev plainly : List ℕ
plainly = ascii "A=1 END"

abbrev remarked : List ℕ
remarked = ascii "/* x */ y\n A =1\n\tEND\r\n&"

abbrev elements : List (List ℕ)
elements = ascii "A" ∷ ascii "=" ∷ ascii "1" ∷ ascii "END" ∷ []

module _ (m : Mode) where
  plainly_listed : Listed m 0 plainly elements (0 ∷ 1 ∷ 2 ∷ 4 ∷ []) (first_end_word true)
  plainly_listed =
      and_then {g = []} {w = ascii "A"} {l = ascii "=1 END"} no_gap (any_word (goes_on refl (stops refl))) refl
      (and_then {g = []} {w = ascii "="} {l = ascii "1 END"} no_gap (spelled (sign refl)) refl
      (and_then {g = []} {w = ascii "1"} {l = ascii " END"} no_gap (any_word (goes_on refl (stops refl))) refl
      (through_end {g = ascii " "} {w = ascii "END"} {r = []} (blank refl no_gap) (any_word (goes_on refl (goes_on refl (goes_on refl (stops refl))))) refl refl)))

  remarked_listed : Listed m 0 remarked elements (11 ∷ 13 ∷ 14 ∷ 17 ∷ []) (first_end_word true)
  remarked_listed =
      and_then {g = ascii "/* x */ y\n "} {w = ascii "A"} {l = ascii " =1\n\tEND\r\n&"}
      (remark {c = ascii "/* x */ y"} {g = ascii "\n "} {r = ascii "A =1\n\tEND\r\n&"}
      (comment {c = ascii " x "} {i = ascii " y"} {r = ascii "\n A =1\n\tEND\r\n&"} (goes_on refl (goes_on refl (goes_on refl (stops refl)))) (goes_on refl (goes_on refl (stops refl))))
      (blank refl (blank refl no_gap)))
      (any_word (goes_on refl (stops refl))) refl
      (and_then {g = ascii " "} {w = ascii "="} {l = ascii "1\n\tEND\r\n&"} (blank refl no_gap) (spelled (sign refl)) refl
      (and_then {g = []} {w = ascii "1"} {l = ascii "\n\tEND\r\n&"} no_gap (any_word (goes_on refl (stops refl))) refl
      (through_end {g = ascii "\n\t"} {w = ascii "END"} {r = ascii "\r\n&"} (blank refl (blank refl no_gap)) (any_word (goes_on refl (goes_on refl (goes_on refl (stops refl))))) refl refl)))

  -- the two are read alike
  pub read_alike : {z z' : Outcome} → Judged m plainly z → Judged m remarked z' → AlikeRead plainly remarked (0 ∷ 1 ∷ 2 ∷ 4 ∷ []) (11 ∷ 13 ∷ 14 ∷ 17 ∷ []) z z'
  read_alike = alike_judged m plainly remarked (listed_same m plainly_listed remarked_listed)

-- ---- refused, in the base mode

-- END lacks in both, and what looks like one stands in a comment: 10 at the input's end
pub both_lacking : AlikeRead (ascii "A=1") (ascii "A=1 /* END */") (0 ∷ 1 ∷ 2 ∷ []) (0 ∷ 1 ∷ 2 ∷ []) (refused 10 3) (refused 10 13)
both_lacking = alike_judged base (ascii "A=1") (ascii "A=1 /* END */") (listed_same base closed remarked_end) (judge_sound base (ascii "A=1")) (judge_sound base (ascii "A=1 /* END */"))
  where
    closed : Listed base 0 (ascii "A=1") (ascii "A" ∷ ascii "=" ∷ ascii "1" ∷ []) (0 ∷ 1 ∷ 2 ∷ []) no_end_word
    closed =
        and_then {g = []} {w = ascii "A"} {l = ascii "=1"} no_gap (any_word (goes_on refl (stops refl))) refl
        (and_then {g = []} {w = ascii "="} {l = ascii "1"} no_gap (spelled (sign refl)) refl
        (and_then {g = []} {w = ascii "1"} {l = []} no_gap (any_word (goes_on refl (stops refl))) refl (to_the_end no_gap)))

    a_comment : Comment (ascii "/* END */") []
    a_comment = comment {c = ascii " END "} {i = []} {r = []} (goes_on refl (goes_on refl (goes_on refl (goes_on refl (goes_on refl (stops refl)))))) (stops refl)

    remarked_end : Listed base 0 (ascii "A=1 /* END */") (ascii "A" ∷ ascii "=" ∷ ascii "1" ∷ []) (0 ∷ 1 ∷ 2 ∷ []) no_end_word
    remarked_end =
        and_then {g = []} {w = ascii "A"} {l = ascii "=1 /* END */"} no_gap (any_word (goes_on refl (stops refl))) refl
        (and_then {g = []} {w = ascii "="} {l = ascii "1 /* END */"} no_gap (spelled (sign refl)) refl
        (and_then {g = []} {w = ascii "1"} {l = ascii " /* END */"} no_gap (any_word (goes_on refl (stops refl))) refl
        (to_the_end (blank refl (remark {c = ascii "/* END */"} {g = []} {r = []} a_comment no_gap)))))

-- a word of no form is an element: 4 at its start
pub both_formless : AlikeRead (ascii "1__2") (ascii "\n1__2 ") (0 ∷ []) (1 ∷ []) (refused 4 0) (refused 4 1)
both_formless = alike_judged base (ascii "1__2") (ascii "\n1__2 ") (listed_same base bare set_apart) (judge_sound base (ascii "1__2")) (judge_sound base (ascii "\n1__2 "))
  where
    a_word : {r : List ℕ} → in_word r ≡ false → OneElement base (ascii "1__2") r
    a_word h = any_word (goes_on refl (goes_on refl (goes_on refl (goes_on refl (stops h)))))

    bare : Listed base 0 (ascii "1__2") (ascii "1__2" ∷ []) (0 ∷ []) no_end_word
    bare = and_then {g = []} {w = ascii "1__2"} {l = []} no_gap (a_word refl) refl (to_the_end no_gap)

    set_apart : Listed base 0 (ascii "\n1__2 ") (ascii "1__2" ∷ []) (1 ∷ []) no_end_word
    set_apart = and_then {g = ascii "\n"} {w = ascii "1__2"} {l = ascii " "} (blank refl no_gap) (a_word refl) refl (to_the_end (blank refl no_gap))
