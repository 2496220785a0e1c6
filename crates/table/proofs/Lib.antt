-- What the proofs of this crate share.
pub mod Worths
pub mod Held
pub mod Awaited
pub mod Checking
pub mod Once
