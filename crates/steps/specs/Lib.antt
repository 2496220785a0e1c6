-- The terms of this crate's contracts.
pub mod Signs
pub mod States
pub mod Steps
