-- The terms of this crate's contracts.
pub mod Answers
pub mod Walking
