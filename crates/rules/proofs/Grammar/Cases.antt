-- The machine on small lists of elements: the checked examples that statements decide, by computation.
use Prim.Native.Nat.{ℕ, zero, suc}
use native.Mathlib.Decide.{dec_le, dec_lt, ℕ_discrete}
use mathlib.Core.Path.{◌≡◌, refl}
use mathlib.Core.Bool.{true, false}
use mathlib.Core.List.{List, [], ◌∷◌}
use Rattle.rules.specs.Data.{Span, one, OBJECT, END_OBJECT, END_GROUP, BEGIN_GROUP, equals, comma, less, lpar, rpar, lbrace, rbrace, power, semicolon, name, the, end, integer, range, Placed, ◌on◌, group, attribute, opened, closed, an_integer, sequence, sequence_end, set, set_end, last, outside}
use Rattle.rules.specs.Grammar.{strict}
use Rattle.rules.specs.Modes.{base, PVL, ODL_1}
use Rattle.rules.proofs.Machine.Statements.{at_end, name_discrete}
use Rattle.rules.proofs.Grammar.Run.{RunOutcome, ended, refused, reading}

at : ℕ → Span
at n = record { from = n; upto = n }

-- `END` and `END;`
end_alone : reading base strict (end true on at 3 ∷ []) ≡ ended at_end outside (last 3 ∷ [])
unfolding at
end_alone = refl

end_joined : reading base strict (end false on at 3 ∷ []) ≡ refused 9 (end false on at 3)
unfolding at
end_joined = refl

-- `A=() END` and `A={} END`
no_members : reading base strict (name (65 ∷ []) on at 0 ∷ the equals on at 1 ∷ the lpar on at 2 ∷ the rpar on at 3 ∷ end true on at 5 ∷ []) ≡ refused 6 (the rpar on at 3)
no_members = refl

no_set : reading base strict (name (65 ∷ []) on at 0 ∷ the equals on at 1 ∷ the lbrace on at 2 ∷ the rbrace on at 3 ∷ end true on at 8 ∷ [])
    ≡ ended at_end outside (attribute (at 0) ∷ set ∷ set_end ∷ last 8 ∷ [])
unfolding at
no_set = refl

-- `OBJECT=X END_OBJECT=Y END`
other_name : reading base strict
    (the OBJECT on at 0 ∷ the equals on at 6 ∷ name (88 ∷ []) on at 7 ∷ the END_OBJECT on at 9 ∷ the equals on at 19 ∷ name (89 ∷ []) on at 20 ∷ end true on at 22 ∷ [])
    ≡ refused 7 (name (89 ∷ []) on at 20)
unfolding name_discrete ℕ_discrete dec_lt
other_name = refl

-- `HOLD = 1 <SEC**100>`
big_exponent : reading base strict
    (name (72 ∷ []) on at 0 ∷ the equals on at 1 ∷ integer one on at 2 ∷ the less on at 3 ∷ name (83 ∷ []) on at 4 ∷ the power on at 5 ∷ integer (record { minus = false; size = 100 }) on at 6 ∷ [])
    ≡ refused 5 (integer (record { minus = false; size = 100 }) on at 6)
unfolding dec_le
big_exponent = refl

-- depth 80 and 81
nested : ℕ → List Placed → List Placed
nested zero xs = xs
nested (suc n) xs = the OBJECT on at 0 ∷ the equals on at 0 ∷ name (88 ∷ []) on at 0 ∷ nested n xs

code : RunOutcome → ℕ
code (ended q o rs) = 0
code (refused c x) = c

depth_80 : code (reading base strict (nested 80 (the END_OBJECT on at 0 ∷ []))) ≡ 0
unfolding code nested dec_lt
depth_80 = refl

depth_81 : code (reading base strict (nested 81 [])) ≡ 8
unfolding code nested dec_lt
depth_81 = refl

-- ---- the modes

one_at : ℕ → Placed
one_at p = integer one on at p

-- A = ((1)(1)) END and A = ((1),(1)) END
beside_rows : List Placed
beside_rows = name (65 ∷ []) on at 0 ∷ the equals on at 1 ∷ the lpar on at 2 ∷ the lpar on at 3 ∷ one_at 4 ∷ the rpar on at 5 ∷ the lpar on at 6 ∷ one_at 7 ∷ the rpar on at 8 ∷ the rpar on at 9 ∷ end true on at 10 ∷ []

comma_rows : List Placed
comma_rows = name (65 ∷ []) on at 0 ∷ the equals on at 1 ∷ the lpar on at 2 ∷ the lpar on at 3 ∷ one_at 4 ∷ the rpar on at 5 ∷ the comma on at 6 ∷ the lpar on at 7 ∷ one_at 8 ∷ the rpar on at 9 ∷ the rpar on at 10 ∷ end true on at 11 ∷ []

-- side by side is refused at the second row, except in version 1
beside_refused : reading base strict beside_rows ≡ refused 6 (the lpar on at 6)
unfolding beside_rows one_at
beside_refused = refl

rows_taken : code (reading base strict comma_rows) ≡ 0
unfolding code comma_rows one_at
rows_taken = refl

v1_rows_beside : code (reading ODL_1 strict beside_rows) ≡ 0
unfolding code beside_rows one_at
v1_rows_beside = refl

v1_rows_taken : code (reading ODL_1 strict comma_rows) ≡ 0
unfolding code comma_rows one_at
v1_rows_taken = refl

-- BEGIN_GROUP = G; A = 1; END_GROUP; END
pvl_label : List Placed
pvl_label =
    the BEGIN_GROUP on at 0 ∷ the equals on at 1 ∷ name (71 ∷ []) on at 2 ∷ the semicolon on at 3 ∷ name (65 ∷ []) on at 4 ∷ the equals on at 5 ∷ one_at 6 ∷ the semicolon on at 7
    ∷ the END_GROUP on at 8 ∷ the semicolon on at 9 ∷ end true on at 10 ∷ []

pvl_read : reading PVL strict pvl_label ≡ ended at_end outside (opened group (at 2) ∷ attribute (at 4) ∷ an_integer one ∷ closed group ∷ last 10 ∷ [])
unfolding pvl_label one_at dec_lt at
pvl_read = refl

-- two semicolons
pvl_twice : reading PVL strict (name (65 ∷ []) on at 0 ∷ the equals on at 1 ∷ one_at 2 ∷ the semicolon on at 3 ∷ the semicolon on at 4 ∷ []) ≡ refused 6 (the semicolon on at 4)
unfolding one_at
pvl_twice = refl

-- A = (1 1, 1) END, A = 1..1 END, A = 1..1 <M> END, A = (1..1) END
v1_members : code (reading ODL_1 strict (name (65 ∷ []) on at 0 ∷ the equals on at 1 ∷ the lpar on at 2 ∷ one_at 3 ∷ one_at 4 ∷ the comma on at 5 ∷ one_at 6 ∷ the rpar on at 7 ∷ end true on at 8 ∷ [])) ≡ 0
unfolding code one_at
v1_members = refl

v1_range : reading ODL_1 strict (name (65 ∷ []) on at 0 ∷ the equals on at 1 ∷ range one one on at 2 ∷ end true on at 3 ∷ [])
    ≡ ended at_end outside (attribute (at 0) ∷ sequence ∷ an_integer one ∷ an_integer one ∷ sequence_end ∷ last 3 ∷ [])
unfolding at
v1_range = refl

v1_range_units : reading ODL_1 strict (name (65 ∷ []) on at 0 ∷ the equals on at 1 ∷ range one one on at 2 ∷ the less on at 3 ∷ []) ≡ refused 6 (the less on at 3)
v1_range_units = refl

v1_range_inside : reading ODL_1 strict (name (65 ∷ []) on at 0 ∷ the equals on at 1 ∷ the lpar on at 2 ∷ range one one on at 3 ∷ []) ≡ refused 6 (range one one on at 3)
v1_range_inside = refl
