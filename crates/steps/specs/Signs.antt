-- The words and signs of one spelling by number: what elements are told apart by.
use Rattle.std.specs.Prelude.{ℕ}
use Rattle.rules.specs.Data as rule
use Rattle.words.specs.Says.{fixed_of}
use Rattle.words.specs.declared.Fixed as code
use Rattle.elements.specs.declared.Element.{Element}
use Rattle.elements.specs.declared.Element.TheVariants.{Name, The, End, Integer, Based, Float, Time, Text, Symbol}
use Rattle.rows.specs.declared.Kind as kind
use Rattle.rows.specs.declared.Kind.TheVariants as kinds

-- a sign's number is its byte
abbrev pub code_of : rule.Fixed → ℕ
code_of rule.OBJECT = 1
code_of rule.END_OBJECT = 2
code_of rule.GROUP = 3
code_of rule.END_GROUP = 4
code_of rule.BEGIN_OBJECT = 5
code_of rule.BEGIN_GROUP = 6
code_of rule.equals = 61
code_of rule.comma = 44
code_of rule.star = 42
code_of rule.slash = 47
code_of rule.caret = 94
code_of rule.less = 60
code_of rule.greater = 62
code_of rule.lpar = 40
code_of rule.rpar = 41
code_of rule.lbrace = 123
code_of rule.rbrace = 125
code_of rule.power = 33
code_of rule.semicolon = 59

abbrev pub word_code : code.Fixed → ℕ
word_code k = code_of (fixed_of k)

-- of the words that open a block
abbrev pub open_code : kind.Kind → ℕ
open_code kinds.Object = code_of rule.OBJECT
open_code kinds.Group = code_of rule.GROUP

-- the number of such an element, 0 for any other
unfoldable pub sign_of : Element → ℕ
sign_of (Name a b) = 0
sign_of (The k a b) = word_code k
sign_of (End f a b) = 0
sign_of (Integer m n a b) = 0
sign_of (Based m n a b) = 0
sign_of (Float x a b) = 0
sign_of (Time x a b) = 0
sign_of (Text a b) = 0
sign_of (Symbol a b) = 0

-- an element that has a number
pub data Word : Element → Type 0 where
  a_word : {k : code.Fixed} {a b : ℕ} → Word (The k a b)
