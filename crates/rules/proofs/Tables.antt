-- Tables: the machine over rows accepts exactly the rows of labels; rows out of bytes, in one way only; every table is proper or improper, at one place;
-- which marks no proper table has; the table that a reading gives is proper over what was read, and at most five times as long.
pub mod Tests
pub mod Numbers
pub mod Contents
pub mod ElementLimits
pub mod RowRuns
pub mod RowOrder
pub mod RowLimits
pub mod Endings
pub mod Proper
pub mod DecodeComplete
pub mod DecodeSound
pub mod Once
pub mod Walk
pub mod ProperMarks
pub mod Decided
pub mod Judge
pub mod OwnTable
pub mod Widths
pub mod Bound
pub mod Seeking
pub mod Asked
