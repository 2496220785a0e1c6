-- The machine: definitions that step as the code does, functions and a few relations, which the contracts of the code cite or which those are made with.
-- Definitions only: each is proved equal to the rules in the folders beside this one.
pub mod Splits
pub mod Patterns
pub mod Words
pub mod Elements
pub mod Statements
pub mod Returns
pub mod Labels
pub mod Limits
pub mod Decoding
pub mod Rows
pub mod Checks
pub mod Verdicts
pub mod Lookup
pub mod Queries
pub mod Lines
