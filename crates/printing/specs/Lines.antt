-- What a row of the code writes, in the rules' own terms.
use Rattle.std.specs.Prelude.{ℕ, ◌-◌, ◌≤◌, ◌≡◌, cond, eqb, List, [], ◌++◌, map}
use Rattle.rules.specs.Bytes.{ascii, fold}
use Rattle.rules.specs.Data.{Kind, Opens, outside, inside, depth, attribute, pointer, opened, closed, last}
use Rattle.rules.specs.Meaning.{Sense, sense, reassemble}
use Rattle.rules.specs.Written as rule
use Rattle.classes.specs.Places.{part}
use Rattle.words.specs.Says.{whole, real_of, moment_of}
use Rattle.rows.specs.Rows.{kind_of, op_of, row_of}
use Rattle.rows.specs.declared.Row.{Row}
use Rattle.rows.specs.declared.Row.TheVariants as rows
use Rattle.output.specs.Puts.{Puts}
use Rattle.printing.specs.declared.Prior.{Prior}
use Rattle.printing.specs.declared.Prior.TheVariants as priors

abbrev pub prior_of : Prior → rule.Prior
prior_of priors.Start = rule.start
prior_of priors.Heading = rule.heading
prior_of priors.Member = rule.member
prior_of priors.Factor = rule.factor

-- what stands before a row's own bytes, within so many blocks
abbrev pub before : rule.Prior → ℕ → Row → List ℕ
before q d (rows.Attribute a b) = rule.units_end q ++ rule.new_line q d
before q d (rows.Pointer a b) = rule.units_end q ++ rule.new_line q d
before q d (rows.Open k a b) = rule.units_end q ++ rule.new_line q d
before q d (rows.Close k) = rule.units_end q ++ rule.new_line q (d - 1)
before q d (rows.Integer m n) = rule.units_end q ++ rule.lead q
before q d (rows.Float x) = rule.units_end q ++ rule.lead q
before q d (rows.Time x) = rule.units_end q ++ rule.lead q
before q d (rows.Text a b) = rule.units_end q ++ rule.lead q
before q d (rows.Symbol a b) = rule.units_end q ++ rule.lead q
before q d (rows.Unit p a b m n) = []
before q d rows.Sequence = rule.units_end q ++ rule.lead q
before q d rows.SequenceEnd = rule.units_end q
before q d rows.Set = rule.units_end q ++ rule.lead q
before q d rows.SetEnd = rule.units_end q
before q d (rows.Last a) = rule.units_end q ++ rule.new_line q d

-- a row's own bytes, within so many blocks, the innermost of this name
abbrev pub own : List ℕ → ℕ → List ℕ → Row → List ℕ
own given d top (rows.Attribute a b) = map fold (part given a b) ++ ascii " ="
own given d top (rows.Pointer a b) = ascii "^" ++ (map fold (part given a b) ++ ascii " =")
own given d top (rows.Open k a b) = rule.open_word (kind_of k) ++ (ascii " = " ++ map fold (part given a b))
own given d top (rows.Close k) = rule.close_word (kind_of k) ++ cond (eqb d 0) [] (ascii " = " ++ top)
own given d top (rows.Integer m n) = rule.decimal (whole m n)
own given d top (rows.Float x) = rule.real_bytes (real_of x)
own given d top (rows.Time x) = rule.moment_bytes (moment_of x)
own given d top (rows.Text a b) = ascii "\"" ++ (reassemble (part given a b) ++ ascii "\"")
own given d top (rows.Symbol a b) = rule.symbol_bytes (map fold (part given a b))
own given d top (rows.Unit p a b m n) = rule.op_sign (op_of p) ++ (map fold (part given a b) ++ rule.exponent_bytes (whole m n))
own given d top rows.Sequence = ascii "("
own given d top rows.SequenceEnd = ascii ")"
own given d top rows.Set = ascii "{"
own given d top rows.SetEnd = ascii "}"
own given d top (rows.Last a) = ascii "END"

-- no row writes more bytes: callers may add the count to another and stay within the machine's numbers
abbrev pub row_bound : ℕ
row_bound = 200000

-- the innermost block, where one is open, has this name
abbrev pub Innermost : List ℕ → Opens → Type 0
Innermost top outside = Unit {0}
Innermost top (inside k n o) = n ≡ top

-- so many blocks are open, and the innermost has this name
pub record Enclosed (o : Opens) (d : ℕ) (top : List ℕ) : Type 0 where
  pub deep : depth o ≡ d
  pub named : Innermost top o

-- what a row that begins a line writes within so many blocks
pub record HeadingPut (q : rule.Prior) (d : ℕ) (s : Sense) (before after : List ℕ) (n : ℕ) : Type 0 where
  pub puts : (o : Opens) → depth o ≡ d → Puts (rule.writes q o s) before after n
  pub most : n ≤ row_bound

-- what a closing row writes within so many blocks, the innermost of this name
pub record ClosePut (q : rule.Prior) (d : ℕ) (top : List ℕ) (k : Kind) (before after : List ℕ) (n : ℕ) : Type 0 where
  pub puts : (o : Opens) → Enclosed o d top → Puts (rule.writes q o (closed k)) before after n
  pub most : n ≤ row_bound

-- what a row that begins a line writes, whatever the blocks around it are: their number decides, and for a closing line the innermost one's name
abbrev pub LinePut : List ℕ → rule.Prior → ℕ → List ℕ → Row → List ℕ → List ℕ → ℕ → Type 0
LinePut given q d top (rows.Attribute a b) room left n = HeadingPut q d (attribute (map fold (part given a b))) room left n
LinePut given q d top (rows.Pointer a b) room left n = HeadingPut q d (pointer (map fold (part given a b))) room left n
LinePut given q d top (rows.Open k a b) room left n = HeadingPut q d (opened (kind_of k) (map fold (part given a b))) room left n
LinePut given q d top (rows.Close k) room left n = ClosePut q d top (kind_of k) room left n
LinePut given q d top (rows.Integer m v) room left n = Unit {0}
LinePut given q d top (rows.Float x) room left n = Unit {0}
LinePut given q d top (rows.Time x) room left n = Unit {0}
LinePut given q d top (rows.Text a b) room left n = Unit {0}
LinePut given q d top (rows.Symbol a b) room left n = Unit {0}
LinePut given q d top (rows.Unit p a b m v) room left n = Unit {0}
LinePut given q d top rows.Sequence room left n = Unit {0}
LinePut given q d top rows.SequenceEnd room left n = Unit {0}
LinePut given q d top rows.Set room left n = Unit {0}
LinePut given q d top rows.SetEnd room left n = Unit {0}
LinePut given q d top (rows.Last a) room left n = HeadingPut q d (last tt) room left n

-- what a row writes within so many blocks, the innermost of this name
pub record RowPut (given : List ℕ) (q : rule.Prior) (d : ℕ) (top : List ℕ) (row : Row) (before after : List ℕ) (n : ℕ) : Type 0 where
  pub puts : (o : Opens) → Enclosed o d top → Puts (rule.writes q o (sense given (row_of row))) before after n
  pub most : n ≤ row_bound

-- what a row is to the row after it, over any label
pub record PriorAfter (row : Row) (p : rule.Prior) : Type 0 where
  pub is : (given : List ℕ) → p ≡ rule.prior (sense given (row_of row))
