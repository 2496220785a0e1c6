-- Words: one pattern for all forms, identifiers in one pass over the bytes, and what a word is: an element, past its limit, or of no form.
use Prim.Native.Nat.{ℕ}
use mathlib.Core.Bool.{Bool, true, false, not, ◌||◌}
use mathlib.Core.Option.{Option, none, some}
use mathlib.Core.List.{List, [], ◌∷◌, ◌++◌, map}
use lib.Dec.{leb, eqb}
use lib.ListN.{length}
use Rattle.rules.specs.Bytes.{between, digit, letter, alnum, fold, front, pair}
use Rattle.rules.specs.Data.{Whole, Elem}
use Rattle.rules.specs.Modes.{Mode}
use Rattle.rules.specs.Values.{Date, in_year, in_month, Zone, no_zone, utc, signed_zone, Second, Time, Written, an_identifier, a_whole, a_based, a_decimal, a_date, a_time, a_date_time, a_range, number, signed, value}
use Rattle.rules.specs.Words.{is_identifier, Form, Past, Formless}
use Rattle.rules.proofs.Machine.Patterns.{G, stop, whole, byte, check, run, fork, matches}
use Rattle.rules.proofs.Machine.Splits.{is_nil}

-- ---- the pattern

-- the next byte is this one
abbrev pub next_is : ℕ → List ℕ → Bool
next_is k l = front (λ b. eqb b k) l

-- how many bytes a run may have: one at least; any number
abbrev pub some_of : ℕ → Bool
some_of n = leb 1 n

abbrev pub zero_or_more : ℕ → Bool
zero_or_more n = true

-- [sign], and whether one is written
abbrev pub g_signs : (Bool → Bool → G) → G
g_signs k = fork (next_is 45) (byte 45 (k true true)) (fork (next_is 43) (byte 43 (k true false)) (k false false))

-- an integer; an exponent; an exponent or none; a based integer behind its radix
abbrev pub g_integer : (Whole → Written) → G
g_integer k = g_signs (λ s neg. run digit some_of (λ ds. stop (k (signed neg (number ds)))))

abbrev pub g_exponent : (Whole → Written) → G
g_exponent k = fork (next_is 69) (byte 69 (g_integer k)) (byte 101 (g_integer k))

abbrev pub g_scale : (Whole → Written) → G
g_scale k = fork is_nil (stop (k (signed false 0))) (g_exponent k)

abbrev pub g_based : ℕ → G
g_based r = g_signs (λ s neg. run alnum some_of (λ ds. byte 35 (stop (a_based r neg ds))))

-- a zone by its sign, hours and minutes
abbrev pub zone_at : Bool → List ℕ → ℕ → Zone
zone_at w h mi = signed_zone w (number h) mi

-- a zone: behind its sign; at all
abbrev pub g_offset : Bool → (Zone → Written) → G
g_offset w k = run digit (between 1 2) (λ h. fork is_nil (stop (k (zone_at w h 0))) (byte 58 (run digit (between 1 2) (λ mi. stop (k (zone_at w h (number mi)))))))

abbrev pub g_zone : (Zone → Written) → G
g_zone k =
    fork is_nil (stop (k no_zone)) (fork (next_is 90) (byte 90 (stop (k utc))) (fork (next_is 122) (byte 122 (stop (k utc)))
    (fork (next_is 45) (byte 45 (g_offset true k)) (byte 43 (g_offset false k)))))

-- seconds by their digits and decimals; seconds, or none
abbrev pub sec : List ℕ → List ℕ → Second
sec s fs = record { whole = number s; decimals = fs }

abbrev pub g_seconds : (Second → G) → G
g_seconds k =
    fork (next_is 58) (byte 58 (run digit (between 1 2) (λ s. fork (next_is 46) (byte 46 (run digit zero_or_more (λ fs. k (sec s fs)))) (k (sec s [])))))
    (k (record { whole = 0; decimals = [] }))

-- after the hour and its colon
abbrev pub g_minutes : List ℕ → (Time → Written) → G
g_minutes h k =
    run digit (between 1 2) (λ mi. g_seconds (λ s. g_zone (λ z. k (record { hour = number h; minute = number mi; second = s; zone = z }))))

abbrev pub g_time : (Time → Written) → G
g_time k = run digit (between 1 2) (λ h. byte 58 (g_minutes h k))

-- after a date: nothing, or T and a time
abbrev pub g_dated : Date → G
g_dated d = fork is_nil (stop (a_date d)) (fork (next_is 84) (byte 84 (g_time (a_date_time d))) (byte 116 (g_time (a_date_time d))))

-- after the year and its hyphen
abbrev pub g_days : List ℕ → G
g_days y =
    run digit zero_or_more (λ n. fork (next_is 45)
    (check (between 1 2 (length n)) (byte 45 (run digit (between 1 2) (λ d. g_dated (in_month (number y) (number n) (number d))))))
    (check (between 1 3 (length n)) (g_dated (in_year (number y) (number n)))))

-- E or e is next
abbrev pub marked : List ℕ → Bool
marked l = next_is 69 l || next_is 101 l

-- after a sign or none, and digits or none
abbrev pub g_after : Mode → Bool → Bool → List ℕ → G
g_after m s neg ds =
    fork is_nil (check (some_of (length ds)) (stop (a_whole (signed neg (number ds)))))
    (fork (pair 46 46) (check m.version_1 (check (some_of (length ds)) (byte 46 (byte 46 (g_integer (a_range (signed neg (number ds))))))))
    (fork (next_is 46) (byte 46 (run digit zero_or_more (λ fs. check (some_of (length (ds ++ fs))) (g_scale (a_decimal neg ds fs)))))
    (fork marked (check (some_of (length ds)) (g_exponent (a_decimal neg ds [])))
    (check (not s)
    (fork (next_is 35) (check (some_of (length ds)) (byte 35 (g_based (number ds))))
    (fork (next_is 58) (check (between 1 2 (length ds)) (byte 58 (g_minutes ds a_time)))
    (check (between 4 4 (length ds)) (byte 45 (g_days ds)))))))))

-- every form of a word
abbrev pub g_word : Mode → G
g_word m = fork (front letter) (whole is_identifier (λ w. an_identifier (map fold w))) (g_signs (λ s neg. run digit zero_or_more (g_after m s neg)))

-- what is written in a word, if it has a form
abbrev pub shape : Mode → List ℕ → Option Written
shape m w = matches (g_word m) w

-- ---- identifiers in one pass

-- a letter or digit; an underscore with none before it; where an underscore stands before
abbrev pub next_more : Bool → Bool → Bool → Bool → Bool → Bool
next_more true y u a b = a
next_more false true false a b = b
next_more false true true a b = false
next_more false false u a b = false

-- what may follow a letter or digit, or an underscore
abbrev pub more : Bool → List ℕ → Bool
more u [] = not u
more u (b ∷ s) = next_more (alnum b) (eqb b 95) u (more false s) (more true s)

-- ---- what a word is

-- its element; past its limit; of no form
pub data WordVerdict : Type 0 where
  is : Elem → WordVerdict
  over formless : WordVerdict

-- by the value that is kept; by what is written
abbrev pub limited : Option Elem → WordVerdict
limited none = over
limited (some e) = is e

abbrev pub shaped : Mode → Bool → Option Written → WordVerdict
shaped m off none = formless
shaped m off (some v) = limited (value m off v)

abbrev pub classify : Mode → Bool → List ℕ → WordVerdict
classify m off w = shaped m off (shape m w)

-- the same in the rules' terms
abbrev pub Classified : Mode → Bool → List ℕ → WordVerdict → Type 0
Classified m off w (is e) = Form m off w e
Classified m off w over = Past m off w
Classified m off w formless = Formless m w
