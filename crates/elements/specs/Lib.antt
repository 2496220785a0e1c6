-- The terms of this crate's contracts.
pub mod Faults
pub mod Places
pub mod Next
