-- Whatever rows the machine has taken, rows without a span can end the table.
use Prim.Native.Nat.{ℕ, ◌^◌}
use native.Mathlib.Decide.{dec_lt}
use mathlib.Core.Path.{◌≡◌, refl, subst}
use mathlib.Core.Bool.{false}
use mathlib.Core.List.{List, [], ◌∷◌}
use native.Mathlib.Omega.{arith}
use lib.ListN.{length}
use Rattle.rules.specs.Proper.{Each, none, one, Holds}
use Rattle.rules.specs.Data.{Whole, Kind-discrete, object, group, Row, closed, an_integer, sequence, sequence_end, set, set_end, last}
use Rattle.rules.proofs.Machine.Statements.{Group, in_sequence, in_row, in_set, Place, alone, within}
use Rattle.rules.proofs.Machine.Rows.{Sort, Sort-discrete, sort, RowLine, ◌↝◌, look, opening_lines, statement_lines, after_lines, lines, Await, t_statement, t_value, t_first, t_set_first, t_in_row, t_row, t_end, t_number, t_units, t_member, Kinds, To, to_none, to, RowRun, row_here, row_by, RowAccepts}
use Rattle.rules.proofs.Grammar.Each.{chosen_case}
use Rattle.rules.proofs.Machine.Limits.{Within, Valued}

nought : Whole
nought = record { minus = false; size = 0 }

-- rows without a span that end whatever is open
finish : Kinds → List Row
finish [] = last 0 ∷ []
finish (k ∷ o) = closed k ∷ finish o

close_list : Group → Kinds → List Row
close_list in_sequence o = sequence_end ∷ finish o
close_list in_row o = sequence_end ∷ sequence_end ∷ finish o
close_list in_set o = set_end ∷ finish o

close_place : Place → Kinds → List Row
close_place alone o = finish o
close_place (within g) o = close_list g o

pub ending : Await → Kinds → List Row
ending t_statement o = finish o
ending t_value o = set ∷ set_end ∷ finish o
ending t_first o = sequence ∷ an_integer nought ∷ sequence_end ∷ sequence_end ∷ finish o
ending t_set_first o = set_end ∷ finish o
ending t_in_row o = an_integer nought ∷ sequence_end ∷ sequence_end ∷ finish o
ending t_row o = sequence_end ∷ finish o
ending t_end o = []
ending (t_number c) o = close_place c o
ending (t_units c) o = close_place c o
ending (t_member g) o = close_list g o

finish_runs : (o : Kinds) → RowAccepts t_statement o (finish o)
unfolding finish
finish_runs [] = row_by refl row_here
finish_runs (object ∷ o) = row_by refl (finish_runs o)
finish_runs (group ∷ o) = row_by refl (finish_runs o)

finish_number : (o : Kinds) → RowAccepts (t_number alone) o (finish o)
unfolding finish
finish_number [] = row_by refl row_here
finish_number (object ∷ o) = row_by refl (finish_runs o)
finish_number (group ∷ o) = row_by refl (finish_runs o)

finish_units : (o : Kinds) → RowAccepts (t_units alone) o (finish o)
unfolding finish
finish_units [] = row_by refl row_here
finish_units (object ∷ o) = row_by refl (finish_runs o)
finish_units (group ∷ o) = row_by refl (finish_runs o)

-- at the end no block is open
abbrev pub Okay : Await → Kinds → Type 0
Okay t_statement o = Unit {0}
Okay t_value o = Unit {0}
Okay t_first o = Unit {0}
Okay t_set_first o = Unit {0}
Okay t_in_row o = Unit {0}
Okay t_row o = Unit {0}
Okay t_end o = o ≡ []
Okay (t_number c) o = Unit {0}
Okay (t_units c) o = Unit {0}
Okay (t_member g) o = Unit {0}

abbrev OkayTo : To → Type 0
OkayTo to_none = Unit {0}
OkayTo (to t o) = Okay t o

abbrev OkayLines : List RowLine → Type 0
OkayLines [] = Unit {0}
OkayLines (k ↝ n ∷ l) = OkayTo n × OkayLines l

okay_openings : (o : Kinds) → OkayLines (opening_lines o)
okay_openings o =
    (tt, (tt, (chosen_case (dec_lt (length o) 80) (to t_statement (object ∷ o)) to_none OkayTo (λ h. tt) tt, (chosen_case (dec_lt (length o) 80) (to t_statement (group ∷ o)) to_none OkayTo (λ h. tt) tt, tt))))

okay_statement : (o : Kinds) → OkayLines (statement_lines o)
okay_statement [] = (refl, okay_openings [])
okay_statement (k ∷ o) = (tt, okay_openings (k ∷ o))

okay_lines_after : (c : Place) (o : Kinds) → OkayLines (after_lines c o)
okay_lines_after alone o = okay_statement o
okay_lines_after (within in_sequence) o = (tt, (tt, (tt, tt)))
okay_lines_after (within in_row) o = (tt, (tt, (tt, tt)))
okay_lines_after (within in_set) o = (tt, (tt, (tt, tt)))

okay_lines : (t : Await) (o : Kinds) → OkayLines (lines t o)
okay_lines t_statement o = okay_statement o
okay_lines t_value o = (tt, (tt, (tt, (tt, tt))))
okay_lines t_first o = (tt, (tt, (tt, tt)))
okay_lines t_set_first o = (tt, (tt, (tt, tt)))
okay_lines t_in_row o = (tt, (tt, tt))
okay_lines t_row o = (tt, (tt, tt))
okay_lines t_end o = tt
okay_lines (t_number c) o = (tt, okay_lines_after c o)
okay_lines (t_units c) o = (tt, okay_lines_after c o)
okay_lines (t_member g) o = okay_lines_after (within g) o

okay_look : (l : List RowLine) (k : Sort) → OkayLines l → OkayTo (look l k)
okay_look [] k h = tt
okay_look (j ↝ n ∷ l) k h = chosen_case (Sort-discrete Kind-discrete j k) n (look l k) OkayTo (λ e. h.0) (okay_look l k h.1)

pub okay_run : {t t' : Await} {o o' : Kinds} {rs : List Row} → RowRun t o rs t' o' → Okay t o → Okay t' o'
okay_run row_here h = h
okay_run (row_by {t = t} {o = o} {r = r} e a) h = okay_run a (subst OkayTo e (okay_look (lines t o) (sort r) (okay_lines t o)))

pub ending_runs : (t : Await) (o : Kinds) → Okay t o → RowAccepts t o (ending t o)
unfolding ending close_list close_place
ending_runs t_statement o h = finish_runs o
ending_runs t_value o h = row_by refl (row_by refl (finish_runs o))
ending_runs t_first o h = row_by refl (row_by refl (row_by refl (row_by refl (finish_runs o))))
ending_runs t_set_first o h = row_by refl (finish_runs o)
ending_runs t_in_row o h = row_by refl (row_by refl (row_by refl (finish_runs o)))
ending_runs t_row o h = row_by refl (finish_runs o)
ending_runs t_end o h = rw h row_here
ending_runs (t_number alone) o h = finish_number o
ending_runs (t_number (within in_sequence)) o h = row_by refl (finish_runs o)
ending_runs (t_number (within in_row)) o h = row_by refl (row_by refl (finish_runs o))
ending_runs (t_number (within in_set)) o h = row_by refl (finish_runs o)
ending_runs (t_units alone) o h = finish_units o
ending_runs (t_units (within in_sequence)) o h = row_by refl (finish_runs o)
ending_runs (t_units (within in_row)) o h = row_by refl (row_by refl (finish_runs o))
ending_runs (t_units (within in_set)) o h = row_by refl (finish_runs o)
ending_runs (t_member in_sequence) o h = row_by refl (finish_runs o)
ending_runs (t_member in_row) o h = row_by refl (row_by refl (finish_runs o))
ending_runs (t_member in_set) o h = row_by refl (finish_runs o)

-- the rows of an ending hold of any given bytes
abbrev pub Sits : List ℕ → List Row → Type 0
Sits given rs = (Each Valued rs) × (Each (Holds given) rs)

sit : (given : List ℕ) (r : Row) (rs : List Row) → Valued r → Holds given r → Sits given rs → Sits given (r ∷ rs)
sit given r rs v h s = (one v s.0, one h s.1)

nought_held : Within (2 ^ 63) nought
unfolding nought
nought_held = record { below = omega arith; zero_plain = λ e. refl }

finish_sits : (given : List ℕ) (o : Kinds) → Sits given (finish o)
unfolding finish
finish_sits given [] = sit given (last 0) [] tt (omega arith) (none, none)
finish_sits given (k ∷ o) = sit given (closed k) (finish o) tt tt (finish_sits given o)

list_sits : (given : List ℕ) (g : Group) (o : Kinds) → Sits given (close_list g o)
unfolding close_list
list_sits given in_sequence o = sit given sequence_end (finish o) tt tt (finish_sits given o)
list_sits given in_row o = sit given sequence_end (sequence_end ∷ finish o) tt tt (sit given sequence_end (finish o) tt tt (finish_sits given o))
list_sits given in_set o = sit given set_end (finish o) tt tt (finish_sits given o)

place_sits : (given : List ℕ) (c : Place) (o : Kinds) → Sits given (close_place c o)
unfolding close_place
place_sits given alone o = finish_sits given o
place_sits given (within g) o = list_sits given g o

row_sits : (given : List ℕ) (o : Kinds) → Sits given (an_integer nought ∷ sequence_end ∷ sequence_end ∷ finish o)
unfolding close_list
row_sits given o = sit given (an_integer nought) _ nought_held tt (list_sits given in_row o)

pub ending_sits : (given : List ℕ) (t : Await) (o : Kinds) → Sits given (ending t o)
unfolding ending
ending_sits given t_statement o = finish_sits given o
ending_sits given t_value o = sit given set _ tt tt (sit given set_end (finish o) tt tt (finish_sits given o))
ending_sits given t_first o = sit given sequence _ tt tt (row_sits given o)
ending_sits given t_set_first o = sit given set_end (finish o) tt tt (finish_sits given o)
ending_sits given t_in_row o = row_sits given o
ending_sits given t_row o = sit given sequence_end (finish o) tt tt (finish_sits given o)
ending_sits given t_end o = (none, none)
ending_sits given (t_number c) o = place_sits given c o
ending_sits given (t_units c) o = place_sits given c o
ending_sits given (t_member g) o = list_sits given g o
