-- What a pass writes, held against the canonical label: the same where it is not over 65,535 bytes.
use Prim.Native.Nat.{ℕ, ◌+◌, ◌≤◌, ◌<◌}
use native.Mathlib.Decide.{dec_le}
use native.Mathlib.Omega.{arith}
use mathlib.Core.Path.{◌≡◌, refl, sym, ap, ◌∙◌}
use mathlib.Core.List.{List, [], ◌∷◌, ◌++◌, append_assoc, append-nil}
use borrow.Author.Tests.{le-leb, lt-leb}
use lib.Dec.{leb}
use lib.ListN.{length, length-append}
use Rattle.rules.specs.Data.{Opens, outside}
use Rattle.rules.specs.Reading.{longest}
use Rattle.rules.specs.Meaning.{Sense}
use Rattle.rules.specs.Written.{Prior, start, prior, after, writes, writes_all}
use Rattle.rules.proofs.Machine.Lines.{leaves, open_after, so_far}
use Rattle.rules.proofs.Written.RowByRow.{row_more, size_more}
use Rattle.writer.specs.Passing.{passing}

-- rows that stay within the bound are written whole, and the pass goes on behind them
goes_on : (n : ℕ) (q : Prior) (o : Opens) (xs ys : List Sense) → n + length (writes_all q o xs) ≤ longest →
    passing n q o (xs ++ ys) ≡ writes_all q o xs ++ passing (n + length (writes_all q o xs)) (leaves q xs) (open_after o xs) ys
goes_on n q o [] ys h = let e : n + 0 ≡ n = omega arith in rw e
goes_on n q o (x ∷ xs) ys h =
    let w = writes q o x in
    let l : length (w ++ writes_all (prior x) (after o x) xs) ≡ length w + length (writes_all (prior x) (after o x) xs) = length-append w (writes_all (prior x) (after o x) xs) in
    let b : n + length w + length (writes_all (prior x) (after o x) xs) ≤ longest = omega (arith, h, l) in
    let e : n + length w + length (writes_all (prior x) (after o x) xs) ≡ n + length (w ++ writes_all (prior x) (after o x) xs) = omega (arith, l) in
    rw (le-leb (n + length w) longest (omega arith), goes_on (n + length w) (prior x) (after o x) xs ys b, e, append_assoc)

-- all rows, and the last line's end
pub to_the_end : (xs : List Sense) → length (so_far xs) ≤ longest → so_far xs ++ (13 ∷ 10 ∷ []) ≡ passing 0 start outside xs
to_the_end xs h =
    let p = goes_on 0 start outside xs [] (omega (arith, h)) in
    sym p ∙ ap (passing 0 start outside) (append-nil xs)

-- up to the row that goes over
pub to_the_bound : (xs : List Sense) (x : Sense) (ys : List Sense) → length (so_far xs) ≤ longest → longest < length (so_far (xs ++ (x ∷ []))) → so_far (xs ++ (x ∷ [])) ≡ passing 0 start outside (xs ++ (x ∷ ys))
to_the_bound xs x ys h g =
    let w = writes (leaves start xs) (open_after outside xs) x in
    let p = goes_on 0 start outside xs (x ∷ ys) (omega (arith, h)) in
    let b : leb (0 + length (so_far xs) + length w) longest ≡ _ = lt-leb (0 + length (so_far xs) + length w) longest (omega (arith, g, size_more xs x)) in
    row_more xs x ∙ sym (p ∙ rw (b, append-nil))

-- within the bound, it is all
pub within_all : (n : ℕ) (q : Prior) (o : Opens) (xs : List Sense) → n + length (passing n q o xs) ≤ longest → passing n q o xs ≡ writes_all q o xs ++ (13 ∷ 10 ∷ [])
within_all n q o [] h = refl
within_all n q o (x ∷ xs) h = go (λ z. within_all (n + length (writes q o x)) (prior x) (after o x) xs z) (dec_le (n + length (writes q o x)) longest)
  where
    w : List ℕ
    w = writes q o x

    go : (n + length w + length (passing (n + length w) (prior x) (after o x) xs) ≤ longest → passing (n + length w) (prior x) (after o x) xs ≡ writes_all (prior x) (after o x) xs ++ (13 ∷ 10 ∷ [])) →
        Dec (n + length w ≤ longest) → passing n q o (x ∷ xs) ≡ writes_all q o (x ∷ xs) ++ (13 ∷ 10 ∷ [])
    go ih (yes f) =
        let e : passing n q o (x ∷ xs) ≡ w ++ passing (n + length w) (prior x) (after o x) xs = rw (le-leb (n + length w) longest f) in
        let l = length-append w (passing (n + length w) (prior x) (after o x) xs) in
        e ∙ rw (ih (omega (arith, h, ap length e, l)), append_assoc)
    go ih (no f) =
        let e : passing n q o (x ∷ xs) ≡ w ++ [] = rw (lt-leb (n + length w) longest (omega arith)) in
        absurd (omega (arith, h, ap length e, length-append w []))

-- it is never more than all
pub no_more : (n : ℕ) (q : Prior) (o : Opens) (xs : List Sense) → length (passing n q o xs) ≤ length (writes_all q o xs ++ (13 ∷ 10 ∷ []))
no_more n q o [] = omega arith
no_more n q o (x ∷ xs) = go (no_more (n + length (writes q o x)) (prior x) (after o x) xs) (dec_le (n + length (writes q o x)) longest)
  where
    w : List ℕ
    w = writes q o x

    rest : List ℕ
    rest = writes_all (prior x) (after o x) xs ++ (13 ∷ 10 ∷ [])

    all : length (writes_all q o (x ∷ xs) ++ (13 ∷ 10 ∷ [])) ≡ length w + length rest
    all = ap length (append_assoc w (writes_all (prior x) (after o x) xs) (13 ∷ 10 ∷ [])) ∙ length-append w rest

    go : length (passing (n + length w) (prior x) (after o x) xs) ≤ length rest → Dec (n + length w ≤ longest) → length (passing n q o (x ∷ xs)) ≤ length (writes_all q o (x ∷ xs) ++ (13 ∷ 10 ∷ []))
    go ih (yes f) =
        let e : passing n q o (x ∷ xs) ≡ w ++ passing (n + length w) (prior x) (after o x) xs = rw (le-leb (n + length w) longest f) in
        let l = length-append w (passing (n + length w) (prior x) (after o x) xs) in
        omega (arith, ap length e, l, ih, all)
    go ih (no f) =
        let e : passing n q o (x ∷ xs) ≡ w ++ [] = rw (lt-leb (n + length w) longest (omega arith)) in
        omega (arith, ap length e, length-append w [], all)
