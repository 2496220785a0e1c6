-- The terms of this crate's contracts.
pub mod Lines
