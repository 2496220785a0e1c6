-- The forms of a word (12.3.1, 12.3.2, 12.3.4): each type below is a rule of the source's grammar, which stands above it.
use Rattle.std.specs.Prelude.{ℕ, Bool, true, false, not, ◌&&◌, ◌||◌, ◌≡◌, List, [], ◌∷◌, ◌++◌, map, leb, eqb, length}
use Prim.Native.Char.{code as byte}
use Rattle.std.proofs.Math.Option.{none, some}
use Rattle.rules.specs.Bytes.{ascii, between, digit, letter, alnum, fold, All, front, pair, anywhere}
use Rattle.rules.specs.Data.{Whole, Elem}
use Rattle.rules.specs.Modes.{Mode}
use Rattle.rules.specs.Values.{Date, in_year, in_month, Zone, no_zone, utc, signed_zone, Second, Time, Written, an_identifier, a_whole, a_based, a_decimal}
use Rattle.rules.specs.Values.{a_date, a_time, a_date_time, a_range, number, signed, same, each, value}

-- ---- identifiers

-- letter | digit | _
abbrev pub name_byte : ℕ → Bool
name_byte b = alnum b || eqb b (byte "_")

-- identifier ::= letter [letter | digit | _letter | _digit]*
-- identifier (12.3.4): a letter, then letters and digits with single underscores between; no `__`, none last.
abbrev pub is_identifier : List ℕ → Bool
is_identifier w =
    front letter w && (each name_byte w
    && (not (anywhere (pair (byte "_") (byte "_")) w) && not (anywhere (λ s. same s (ascii "_")) w)))

-- ---- numbers

-- [sign], with sign ::= + | -
pub data Sign : List ℕ → Bool → Type 0 where
  unsigned : Sign [] false
  plus : Sign (byte "+" ∷ []) false
  minus : Sign (byte "-" ∷ []) true

-- unsigned_integer, of so many digits at least and at most
pub record Digits (least most : ℕ) (ds : List ℕ) : Type 0 where
  pub all : All digit ds
  pub count : between least most (length ds) ≡ true

-- unsigned_integer ::= [digit]+
pub record Unsigned (ds : List ℕ) : Type 0 where
  pub all : All digit ds
  pub some : leb 1 (length ds) ≡ true

-- integer ::= [sign] unsigned_integer
pub data Integer : List ℕ → Whole → Type 0 where
  signed_digits : {s ds : List ℕ} {neg : Bool} → Sign s neg → Unsigned ds → Integer (s ++ ds) (signed neg (number ds))

-- based_integer ::= radix # [sign] [extended_digit]+ #, with extended_digit ::= digit | letter, radix ::= unsigned_integer
pub data Based : List ℕ → Written → Type 0 where
  in_radix : {r s ds : List ℕ} {neg : Bool} → Unsigned r → Sign s neg → All alnum ds → leb 1 (length ds) ≡ true →
      Based (r ++ byte "#" ∷ (s ++ (ds ++ byte "#" ∷ []))) (a_based (number r) neg ds)

-- exponent ::= E integer | e integer
pub data Exponent : List ℕ → Whole → Type 0 where
  upper : {w : List ℕ} {z : Whole} → Integer w z → Exponent (byte "E" ∷ w) z
  lower : {w : List ℕ} {z : Whole} → Integer w z → Exponent (byte "e" ∷ w) z

-- [exponent]
pub data Scale : List ℕ → Whole → Type 0 where
  unscaled : Scale [] (signed false 0)
  scaled : {x : List ℕ} {z : Whole} → Exponent x z → Scale x z

-- real ::= [sign] unscaled_real | [sign] scaled_real, with unscaled_real ::= unsigned_integer . [unsigned_integer] | . unsigned_integer
-- and scaled_real ::= unscaled_real exponent. Also digits with an exponent and no period.
pub data Decimal : List ℕ → Written → Type 0 where
  pointed : {s ds fs x : List ℕ} {neg : Bool} {z : Whole} → Sign s neg → All digit ds → All digit fs →
      leb 1 (length (ds ++ fs)) ≡ true → Scale x z → Decimal (s ++ (ds ++ byte "." ∷ (fs ++ x))) (a_decimal neg ds fs z)
  bare : {s ds x : List ℕ} {neg : Bool} {z : Whole} → Sign s neg → Unsigned ds → Exponent x z →
      Decimal (s ++ (ds ++ x)) (a_decimal neg ds [] z)

-- range_value ::= integer..integer
pub data Range : List ℕ → Written → Type 0 where
  from_to : {s ds w : List ℕ} {neg : Bool} {hi : Whole} → Sign s neg → Unsigned ds → Integer w hi →
      Range (s ++ (ds ++ byte "." ∷ byte "." ∷ w)) (a_range (signed neg (number ds)) hi)

-- ---- dates and times

-- date ::= year_doy | year_month_day, with year_doy ::= year - doy and year_month_day ::= year - month - day.
-- year of exactly 4 digits; month and day of 1 or 2 digits, day of year of 1 to 3
pub data DateWord : List ℕ → Date → Type 0 where
  year_doy : {y n : List ℕ} → Digits 4 4 y → Digits 1 3 n → DateWord (y ++ byte "-" ∷ n) (in_year (number y) (number n))
  year_month_day : {y m d : List ℕ} → Digits 4 4 y → Digits 1 2 m → Digits 1 2 d →
      DateWord (y ++ byte "-" ∷ (m ++ byte "-" ∷ d)) (in_month (number y) (number m) (number d))

-- [: second], with second ::= unsigned_integer | unscaled_real. No seconds means 0.
pub data Seconds : List ℕ → Second → Type 0 where
  no_second : Seconds [] (record { whole = 0; decimals = [] })
  second : {s : List ℕ} → Digits 1 2 s → Seconds (byte ":" ∷ s) (record { whole = number s; decimals = [] })
  decimal : {s fs : List ℕ} → Digits 1 2 s → All digit fs →
      Seconds (byte ":" ∷ (s ++ byte "." ∷ fs)) (record { whole = number s; decimals = fs })

-- the sign of a zone_offset
pub data ZoneSign : ℕ → Bool → Type 0 where
  east : ZoneSign (byte "+") false
  west : ZoneSign (byte "-") true

-- what ends a time: nothing (local_time), Z (utc_time), or a zone (zoned_time), with zone_offset ::= sign hour [: minute]
pub data Zoned : List ℕ → Zone → Type 0 where
  local : Zoned [] no_zone
  utc_upper : Zoned (byte "Z" ∷ []) utc
  utc_lower : Zoned (byte "z" ∷ []) utc
  by_hour : {b : ℕ} {h : List ℕ} {w : Bool} → ZoneSign b w → Digits 1 2 h →
      Zoned (b ∷ h) (signed_zone w (number h) 0)
  by_minute : {b : ℕ} {h mi : List ℕ} {w : Bool} → ZoneSign b w → Digits 1 2 h → Digits 1 2 mi →
      Zoned (b ∷ (h ++ byte ":" ∷ mi)) (signed_zone w (number h) (number mi))

-- time ::= local_time | utc_time | zoned_time, with hour_min_sec ::= hour : minute [: second]
pub data TimeWord : List ℕ → Time → Type 0 where
  time : {h mi s z : List ℕ} {sec : Second} {zo : Zone} → Digits 1 2 h → Digits 1 2 mi → Seconds s sec → Zoned z zo →
      TimeWord (h ++ byte ":" ∷ (mi ++ (s ++ z))) (record { hour = number h; minute = number mi; second = sec; zone = zo })

-- date_time ::= date T time; T or t
pub data DateTime : List ℕ → Written → Type 0 where
  upper_t : {d t : List ℕ} {da : Date} {ti : Time} → DateWord d da → TimeWord t ti → DateTime (d ++ byte "T" ∷ t) (a_date_time da ti)
  lower_t : {d t : List ℕ} {da : Date} {ti : Time} → DateWord d da → TimeWord t ti → DateTime (d ++ byte "t" ∷ t) (a_date_time da ti)

-- ---- all forms of a word

-- A word has one form.
pub data Shape (m : Mode) : List ℕ → Written → Type 0 where
  -- identifier; integer, based integer; real; date; time; date, T or t, time; in version 1 a range
  identifier_word : {w : List ℕ} → is_identifier w ≡ true → Shape m w (an_identifier (map fold w))
  integer_word : {w : List ℕ} {n : Whole} → Integer w n → Shape m w (a_whole n)
  based_word : {w : List ℕ} {v : Written} → Based w v → Shape m w v
  real_word : {w : List ℕ} {v : Written} → Decimal w v → Shape m w v
  date_word : {w : List ℕ} {d : Date} → DateWord w d → Shape m w (a_date d)
  time_word : {w : List ℕ} {t : Time} → TimeWord w t → Shape m w (a_time t)
  date_time_word : {w : List ℕ} {v : Written} → DateTime w v → Shape m w v
  range_word : {w : List ℕ} {v : Written} → m.version_1 ≡ true → Range w v → Shape m w v

-- the word w is the element e: it has a form, and what that says is within its limit
abbrev pub Form : Mode → Bool → List ℕ → Elem → Type 0
Form m off w e = (v : Written) × Shape m w v × (value m off v ≡ some e)

-- 5: right form, past its limit
abbrev pub Past : Mode → Bool → List ℕ → Type 0
Past m off w = (v : Written) × Shape m w v × (value m off v ≡ none)

-- 4: a word of no form
abbrev pub Formless : Mode → List ℕ → Type 0
Formless m w = (v : Written) → Shape m w v → ⊥
