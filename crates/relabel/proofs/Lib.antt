-- What the proofs of this crate share.
pub mod Composed
pub mod Once
pub mod Same
