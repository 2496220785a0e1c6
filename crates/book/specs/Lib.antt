-- The terms of this crate's contracts: what a taking answers; the rows of a table by their bytes; the weekday by arithmetic; and what is
-- found in the table of a label.
pub mod Answers
pub mod Kinds
pub mod Dates
pub mod Sessions
