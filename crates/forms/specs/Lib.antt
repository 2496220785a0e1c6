-- The terms of this crate's contracts.
pub mod Laid
pub mod Forms
