-- What the proofs of this crate share.
pub mod Between
pub mod Symbols
pub mod Blocks
pub mod Sorts
pub mod Once
