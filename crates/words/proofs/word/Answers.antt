-- `word` meets its contract.
use borrow.Author.Rules.{rules}
use Rattle.words.proofs.Words.{written_in_digits, no_meaning, meaning}
use Rattle.words.proofs.word.Goals as goal

ruleset ways = (written_in_digits, no_meaning, meaning, rules)

pub returns : goal.returns
returns c = search ways

pub returns-in_default : goal.returns-in_default
returns-in_default c = search ways

pub value_of-requires-clause-written_in_digits : goal.value_of-requires-clause-written_in_digits
value_of-requires-clause-written_in_digits c = search ways
