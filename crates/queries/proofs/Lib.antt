-- What the proofs of this crate share.
pub mod RowsLeft
pub mod RowAtOffset
pub mod Ways
pub mod BlockEnds
pub mod Lookups
pub mod Displays
pub mod Once
