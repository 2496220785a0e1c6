-- `word::word_at` meets its contract.
use borrow.Author.Rules.{rules}
use Rattle.elements.proofs.Words.{word_name, word_end, word_fixed, word_integer, word_based, word_float, word_time, word_past, word_formless}
use Rattle.elements.proofs.word.word_at.Goals as goal

ruleset ways = (word_name, word_end, word_fixed, word_integer, word_based, word_float, word_time, word_past, word_formless, rules)

pub returns-in-Ok-Name : goal.returns-in-Ok-Name
returns-in-Ok-Name c = search ways

pub returns-in-Ok-End : goal.returns-in-Ok-End
returns-in-Ok-End c = search ways

pub returns-in-Ok-The : goal.returns-in-Ok-The
returns-in-Ok-The c = search ways

pub returns-in-Ok-Integer : goal.returns-in-Ok-Integer
returns-in-Ok-Integer c = search ways

pub returns-in-Ok-Based : goal.returns-in-Ok-Based
returns-in-Ok-Based c = search ways

pub returns-in-Ok-Float : goal.returns-in-Ok-Float
returns-in-Ok-Float c = search ways

pub returns-in-Ok-Time : goal.returns-in-Ok-Time
returns-in-Ok-Time c = search ways

pub returns-in-Err-PastLimit : goal.returns-in-Err-PastLimit
returns-in-Err-PastLimit c = search ways

pub returns-in-Err-NoForm : goal.returns-in-Err-NoForm
returns-in-Err-NoForm c = search ways
