-- The terms of this crate's contracts.
pub mod Ordering
pub mod Judging
