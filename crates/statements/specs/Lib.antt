-- The terms of this crate's contracts.
pub mod Answer
pub mod Passes
pub mod Opened
