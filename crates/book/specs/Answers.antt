-- The rules' book and the paper's code, place and length, of what the code hands back; and when a counter may be one more.
use Rattle.std.specs.Prelude.{ℕ, ◌≤◌, ◌<◌, ◌≡◌, List, length, Result, Ok, Err}
use Rattle.rules.specs.Reading.{Said, says}
use Rattle.rules.specs.Book as rule
use Rattle.rules.specs.Book.{sum, full, Takes}
use Rattle.answers.specs.Answers.{of_either}
use Rattle.statements.specs.Answer.{said as read_said}
use Rattle.statements.specs.declared.outcome.Accepted.{Accepted}
use Rattle.book.specs.declared.Book.{Book}
use Rattle.book.specs.declared.outcome.Untaken.{Untaken}
use Rattle.book.specs.declared.outcome.Untaken.TheVariants.{Unread, BookFull}

abbrev pub book_of : Book → rule.Book
book_of b = rule.book b.counts

-- of what is not taken: the reader's own refusals, and 16
abbrev pub untaken_said : Untaken → Said
untaken_said (Unread r) = read_said (Err r)
untaken_said BookFull = says 16 0 0

-- code, place and length
abbrev pub said : Result Accepted Untaken → Said
said = of_either (λ (a : Accepted). read_said (Ok a)) untaken_said

-- a counter, in a book that is not full
pub record MayAdd (c : List ℕ) (n : ℕ) : Type 0 where
  pub from : 1 ≤ n
  pub upto : n ≤ 8
  pub room : sum c < full

-- a label that no full book takes, over any room of n bytes
pub record TakenFull (label : List ℕ) (n : ℕ) (r : Untaken) : Type 0 where
  pub is : (b : rule.Book) (room : List ℕ) → length room ≡ n → full ≤ sum b.counts → Takes b label room (untaken_said r) b room
