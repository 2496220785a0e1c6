-- The terms of this crate's contracts.
pub mod Says
pub mod Parts
pub mod Days
pub mod Times
