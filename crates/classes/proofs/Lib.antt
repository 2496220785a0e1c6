-- What the proofs of this crate share.
pub mod Runs
pub mod Parts
pub mod Folds
pub mod Once
