-- What the proofs of this crate share.
pub mod Counts
pub mod First
pub mod Identifiers
pub mod Numerals
pub mod Once
pub mod Places
pub mod Reading
pub mod Stamps
