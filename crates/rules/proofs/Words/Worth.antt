-- What the values of `specs/Values` come to: the digits of a real times a power of ten, and the days of a year.
use Prim.Native.Nat.{ℕ, zero, suc, ◌+◌, ◌-◌, ◌*◌, ◌^◌, ◌%◌, ◌≤◌, ◌<◌}
use native.Mathlib.Omega.{arith}
use native.Mathlib.Nat.{pow-zero, pow-succ', mul_assoc, mul-one, add-zero}
use mathlib.Core.Bool.{Bool, true, false, cond, ◌&&◌, true≢false, and-false}
use mathlib.Core.Logic.{◌⊎◌, inl, inr, ◌↔◌}
use mathlib.Core.Option.{none, some}
use mathlib.Core.Path.{◌≡◌, refl, sym, ap, subst, ◌∙◌}
use mathlib.Core.List.{List, [], ◌∷◌, ◌++◌}
use borrow.Author.Tests.{eqb-true, eqb-false, leb-true, leb-false, le-leb, lt-leb}
use lib.Dec.{leb, eqb}
use lib.ListN.{length}
use Rattle.rules.specs.Bytes.{digit, All, one}
use Rattle.rules.specs.Bytes as Bytes
use Rattle.rules.specs.Values.{onto, each, significant, month_length, Day, nth_day, in_year, day_of}
use Rattle.rules.proofs.Words.Runs.{both}
use Rattle.rules.proofs.Options.{none_some, some_same}

-- ---- digits without the zeros that end them

abbrev pub nought : ℕ → Bool
nought b = eqb b 48

abbrev pub noughts : List ℕ → Bool
noughts s = each nought s

-- zeros behind digits are not significant; where something else is behind them, all of them are
pub noughts_behind : (a z : List ℕ) → noughts z ≡ true → noughts (a ++ z) ≡ noughts a
noughts_behind [] z h = h
noughts_behind (d ∷ a) z h = ap (λ (t : Bool). eqb d 48 && t) (noughts_behind a z h)

noughts_but : (a b : List ℕ) → noughts b ≡ false → noughts (a ++ b) ≡ false
noughts_but [] b h = h
noughts_but (d ∷ a) b h = rw (noughts_but a b h) (and-false (eqb d 48))

pub zeros_behind : (a z : List ℕ) → noughts z ≡ true → significant (a ++ z) ≡ significant a
zeros_behind [] [] h = refl
zeros_behind [] (d ∷ z) h = rw h
zeros_behind (d ∷ a) z h = rw (noughts_behind a z h, zeros_behind a z h)

pub digit_behind : (a b : List ℕ) → noughts b ≡ false → significant (a ++ b) ≡ a ++ significant b
digit_behind [] b h = refl
digit_behind (d ∷ a) b h = rw (noughts_but a b h, and-false (eqb d 48), digit_behind a b h)

pub onto_append : (n : ℕ) (a b : List ℕ) → onto n (a ++ b) ≡ onto (onto n a) b
onto_append n [] b = refl
onto_append n (d ∷ a) b = onto_append (n * 10 + (d - 48)) a b

abbrev dropped : List ℕ → ℕ
dropped ds = length ds - length (significant ds)

onto_zeros : (n : ℕ) (ds : List ℕ) → each nought ds ≡ true → onto n ds ≡ n * 10 ^ length ds
onto_zeros n [] h = sym (rw (pow-zero, mul-one))
onto_zeros n (b ∷ ds) h =
    let o = both (eqb b 48) (each nought ds) h in
    let e : n * 10 + (b - 48) ≡ n * 10 = omega (arith, eqb-true b 48 o.0) in
    rw e (onto_zeros (n * 10) ds o.1 ∙ rw (pow-succ', mul_assoc))

-- the number is what is left, times ten to the zeros dropped
pub significant_worth : (n : ℕ) (ds : List ℕ) → onto n ds ≡ onto n (significant ds) * 10 ^ dropped ds
significant_worth n [] = sym (rw (pow-zero, mul-one))
significant_worth n (d ∷ ds) = go (significant_worth (n * 10 + (d - 48)) ds) (each nought (d ∷ ds)) refl
  where
    go : onto (n * 10 + (d - 48)) ds ≡ onto (n * 10 + (d - 48)) (significant ds) * 10 ^ dropped ds → (t : Bool) → each nought (d ∷ ds) ≡ t →
        onto n (d ∷ ds) ≡ onto n (cond t [] (d ∷ significant ds)) * 10 ^ (length (d ∷ ds) - length (cond t [] (d ∷ significant ds)))
    go ih true h = onto_zeros n (d ∷ ds) h ∙ ap (λ (k : ℕ). n * 10 ^ k) (omega arith)
    go ih false h = ih ∙ ap (λ (k : ℕ). onto (n * 10 + (d - 48)) (significant ds) * 10 ^ k) (omega arith)

-- where nothing is left, all were zeros
pub all_zeros : (ds : List ℕ) → significant ds ≡ [] → each nought ds ≡ true
all_zeros [] e = refl
all_zeros (d ∷ ds) e = go (each nought (d ∷ ds)) refl e
  where
    go : (t : Bool) → each nought (d ∷ ds) ≡ t → cond t [] (d ∷ significant ds) ≡ [] → each nought (d ∷ ds) ≡ true
    go true h e = h
    go false h e = absurd (let z : suc (length (significant ds)) ≡ 0 = ap length e in omega arith)

no_zeros : (d : ℕ) (ds : List ℕ) → each nought (d ∷ ds) ≡ false → each nought ds ≡ true → eqb d 48 ≡ false
no_zeros d ds h k = go (eqb d 48) refl
  where
    go : (t : Bool) → eqb d 48 ≡ t → eqb d 48 ≡ false
    go true e = absurd (true≢false (sym (rw (e, k)) ∙ h))
    go false e = e

-- and it ends in no zero
pub significant_last : (n : ℕ) {ds : List ℕ} → All digit ds → (significant ds ≡ []) ⊎ (onto n (significant ds) % 10 ≡ 0 → ⊥)
significant_last n Bytes.none = inl refl
significant_last n (one {b = d} {s = ds} h hs) = go (significant_last (n * 10 + (d - 48)) hs) (each nought (d ∷ ds)) refl
  where
    go : (significant ds ≡ []) ⊎ (onto (n * 10 + (d - 48)) (significant ds) % 10 ≡ 0 → ⊥) → (t : Bool) → each nought (d ∷ ds) ≡ t →
        (cond t [] (d ∷ significant ds) ≡ []) ⊎ (onto n (cond t [] (d ∷ significant ds)) % 10 ≡ 0 → ⊥)
    go ih true e = inl refl
    go (inr x) false e = inr x
    go (inl x) false e =
        let o = both (leb 48 d) (leb d 57) h in
        inr (λ z.
        let y : (n * 10 + (d - 48)) % 10 ≡ 0 = rw x at z in
        omega (arith, leb-true 48 d o.0, leb-true d 57 o.1, eqb-false d 48 (no_zeros d ds e (all_zeros ds x))))

-- ---- the days of a year

-- the days before month m
pub days_before : ℕ → ℕ → ℕ
days_before y zero = 0
days_before y (suc m) = days_before y m + month_length y m

next_month : (y m : ℕ) → days_before y (suc m) ≡ days_before y m + month_length y m
unfolding days_before
next_month y m = refl

before_first : (y : ℕ) → days_before y 1 ≡ 0
unfolding days_before
before_first y = refl

abbrev months : ℕ → ℕ → List ℕ
months m zero = []
months m (suc k) = m ∷ months (suc m) k

pub record IsDay (y : ℕ) (x : Day) : Type 0 where
  pub year : x.year ≡ y
  pub first_month : 1 ≤ x.month
  pub last_month : x.month ≤ 12
  pub first_day : 1 ≤ x.day
  pub last_day : x.day ≤ month_length y x.month

record Within (y m k n : ℕ) (x : Day) : Type 0 where
  year : x.year ≡ y
  from_month : m ≤ x.month
  to_month : x.month < m + k
  first_day : 1 ≤ x.day
  last_day : x.day ≤ month_length y x.month
  count : days_before y m + n ≡ days_before y x.month + x.day

nth_sound : (y m k n : ℕ) (x : Day) → 1 ≤ n → nth_day y (months m k) n ≡ some x → Within y m k n x
nth_sound y m zero n x h e = absurd (none_some e)
nth_sound y m (suc k) n x h e = go (nth_sound y (suc m) k (n - month_length y m) x) (leb n (month_length y m)) refl e
  where
    go : (1 ≤ n - month_length y m → nth_day y (months (suc m) k) (n - month_length y m) ≡ some x → Within y (suc m) k (n - month_length y m) x) →
        (t : Bool) → leb n (month_length y m) ≡ t → cond t (some (record { year = y; month = m; day = n })) (nth_day y (months (suc m) k) (n - month_length y m)) ≡ some x →
        Within y m (suc k) n x
    go ih true b e =
        let l = leb-true n (month_length y m) b in
        subst (Within y m (suc k) n) (some_same e) (record { year = refl; from_month = omega arith; to_month = omega arith; first_day = h; last_day = l; count = refl })
    go ih false b e =
        let l = leb-false n (month_length y m) b in
        let w = ih (omega arith) e in
        let c : days_before y m + month_length y m + (n - month_length y m) ≡ days_before y x.month + x.day = rw (← next_month y m) w.count in
        record {
          year = w.year;
          from_month = omega (arith, w.from_month);
          to_month = omega (arith, w.to_month);
          first_day = w.first_day;
          last_day = w.last_day;
          count = omega arith;
        }

later : (y m k : ℕ) → days_before y m ≤ days_before y (m + k)
later y m zero = rw add-zero (omega arith)
later y m (suc k) =
    let e : m + suc k ≡ suc (m + k) = omega arith in
    let s : days_before y (suc (m + k)) ≡ days_before y (m + k) + month_length y (m + k) = next_month y (m + k) in
    rw e (omega (arith, later y m k))

nth_complete : (y m k n m' d : ℕ) → m ≤ m' → m' < m + k → 1 ≤ d → d ≤ month_length y m' → days_before y m + n ≡ days_before y m' + d →
    nth_day y (months m k) n ≡ some (record { year = y; month = m'; day = d })
nth_complete y m zero n m' d a b f l e = absurd (omega arith)
nth_complete y m (suc k) n m' d a b f l e = go (nth_complete y (suc m) k (n - month_length y m) m' d) (eqb m m') refl
  where
    go : (suc m ≤ m' → m' < suc m + k → 1 ≤ d → d ≤ month_length y m' → days_before y (suc m) + (n - month_length y m) ≡ days_before y m' + d →
        nth_day y (months (suc m) k) (n - month_length y m) ≡ some (record { year = y; month = m'; day = d })) →
        (t : Bool) → eqb m m' ≡ t → nth_day y (months m (suc k)) n ≡ some (record { year = y; month = m'; day = d })
    go ih true t =
        let q : m ≡ m' = eqb-true m m' t in
        let p : n ≡ d = let c : days_before y m' + n ≡ days_before y m' + d = rw q at e in omega arith in
        rw (q, p, le-leb d (month_length y m') l)
    go ih false t =
        let ne = eqb-false m m' t in
        let s = next_month y m in
        let q : suc m + (m' - suc m) ≡ m' = omega arith in
        let g : days_before y (suc m) ≤ days_before y m' = rw q at (later y (suc m) (m' - suc m)) in
        rw (lt-leb n (month_length y m) (omega arith)) (ih (omega arith) (omega arith) f l (omega arith))

-- the nth day of a year is the day of the calendar with n - d days before its month
pub day_of_year : (y n : ℕ) (x : Day) → (day_of (in_year y n) ≡ some x) ↔ ((1 ≤ y) × IsDay y x × (n ≡ days_before y x.month + x.day))
day_of_year y n x = (to (leb 1 y && leb 1 n) refl, back)
  where
    to : (t : Bool) → (leb 1 y && leb 1 n) ≡ t → cond t (nth_day y (months 1 12) n) none ≡ some x → (1 ≤ y) × IsDay y x × (n ≡ days_before y x.month + x.day)
    to true h e =
        let o = both (leb 1 y) (leb 1 n) h in
        let w = nth_sound y 1 12 n x (leb-true 1 n o.1) e in (
          leb-true 1 y o.0,
          record { year = w.year; first_month = w.from_month; last_month = omega (arith, w.to_month); first_day = w.first_day; last_day = w.last_day },
          omega (arith, w.count, before_first y),
        )
    to false h e = absurd (none_some e)

    back : (1 ≤ y) × IsDay y x × (n ≡ days_before y x.month + x.day) → day_of (in_year y n) ≡ some x
    back c =
        let k : IsDay y x = c.1 in
        let r : nth_day y (months 1 12) n ≡ some (record { year = y; month = x.month; day = x.day })
        = nth_complete y 1 12 n x.month x.day k.first_month (omega (arith, k.last_month)) k.first_day k.last_day (omega (arith, c.2, before_first y)) in
        rw (le-leb 1 y c.0, le-leb 1 n (omega (arith, k.first_day, c.2))) (r ∙ ap (λ (z : ℕ). some (record { year = z; month = x.month; day = x.day })) (sym k.year))
