-- The terms of this crate's contracts.
pub mod Puts
pub mod Joins
