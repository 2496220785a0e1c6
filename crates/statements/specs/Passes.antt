-- What one pass over the label gives: the rules' judgement, the table's length, and its bytes where they fit; and where the room was full.
use Rattle.std.specs.Prelude.{ℕ, ◌+◌, ◌*◌, ◌≤◌, ◌≡◌, false, List, ◌++◌, length, take, drop, Result, MatchResult}
use Rattle.rules.specs.Data as rule
use Rattle.rules.specs.Modes.{base}
use Rattle.rules.specs.Table.{table}
use Rattle.rules.specs.Reading.{Outcome, accepted, refused, Judged, says}
use Rattle.rules.proofs.Machine.Statements as machine
use Rattle.rules.proofs.Machine.Statements.{is_end}
use Rattle.rules.proofs.Machine.Labels.{behind_rows, Goes}
use Rattle.rows.specs.Rows.{longest_row}
use Rattle.steps.specs.States.{state_of, first_state}
use Rattle.steps.specs.declared.State.{State}
use Rattle.blocks.specs.Stack.{blocks_of, no_blocks, opens_of}
use Rattle.blocks.specs.declared.Blocks.{Blocks}
use Rattle.statements.specs.Answer.{refusal_said}
use Rattle.statements.specs.Opened.{Sound}
use Rattle.statements.specs.declared.outcome.Accepted.{Accepted}
use Rattle.statements.specs.declared.outcome.Refusal as answers
use Rattle.statements.specs.declared.cursor.Cursor.{Cursor}
use Rattle.statements.specs.declared.passes.Run.{Run}

-- what says a refusal, for the codes that a label can be refused with
pub record Refuses (c p : ℕ) (r : answers.Refusal) : Type 0 where
  pub is : 2 ≤ c → c ≤ 10 → refusal_said r ≡ says c p 0

-- w at n, where the room holds it; what is before n stays in any case
pub record Added (w : List ℕ) (n : ℕ) (before after : List ℕ) (r : ℕ) : Type 0 where
  pub next : r ≡ n + length w
  pub small : length w ≤ longest_row
  pub long : length after ≡ length before
  pub front : take n after ≡ take n before
  pub bytes : n + length w ≤ length before → after ≡ take n before ++ (w ++ drop (n + length w) before)

-- rs are the rows up to a place between two elements: whatever the rules give from there on, they give it from the start with these
-- rows before it
pub record Sofar (label : List ℕ) (rs : List rule.Row) (t : State) (b : Blocks) (at n : ℕ) : Type 0 where
  pub on : (z : Outcome) → Goes base (state_of label t) (opens_of label (blocks_of b)) at (drop at label) z →
      Goes base machine.at_statement rule.outside 0 label (behind_rows rs z)
  pub within : at ≤ length label
  pub count : n ≡ length (table rs)
  pub small : n ≤ longest_row * at

-- the cursor before the first element
pub record AtStart (c : Cursor) : Type 0 where
  pub state : c.state ≡ first_state
  pub blocks : c.blocks ≡ no_blocks
  pub at : c.at ≡ 0
  pub n : c.n ≡ 0

-- a reading may go on from the cursor, with the table so far at the room's start
pub record Reached (label room : List ℕ) (c : Cursor) : Type 0 where
  pub rs : List rule.Row
  pub sofar : Sofar label rs c.state c.blocks c.at c.n
  pub sound : Sound c.state c.blocks
  pub going : is_end (state_of label c.state) ≡ false
  pub fits : c.n ≤ length room
  pub bytes : take c.n room ≡ table rs

-- a label that is accepted: the rows' table where it fits the room
pub record Passed (label before after : List ℕ) (a : Accepted) : Type 0 where
  pub rows : List rule.Row
  pub judged : Judged base label (accepted rows a.place)
  pub count : a.length ≡ length (table rows)
  pub bytes : a.length ≤ length before → after ≡ table rows ++ drop a.length before

-- a label that is refused
pub record Refused (label : List ℕ) (r : answers.Refusal) : Type 0 where
  pub code : ℕ
  pub place : ℕ
  pub judged : Judged base label (refused code place)
  pub from : 2 ≤ code
  pub is : refusal_said r ≡ says code place 0

-- a pass's answer
abbrev pub Concluded : List ℕ → List ℕ → List ℕ → Result Accepted answers.Refusal → Type 0
Concluded label before after r = MatchResult r (Passed label before after) (Refused label)

-- a pass: its answer, and a place from which a reading may go on in the room as it was left
pub record OnePass (label before after : List ℕ) (r : Run) : Type 0 where
  pub concluded : Concluded label before after r.answer
  pub full : Reached label after r.full
