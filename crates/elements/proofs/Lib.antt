-- What the proofs of this crate share.
pub mod Pairs
pub mod Skips
pub mod Finding
pub mod Quoted
pub mod Signs
pub mod Words
pub mod Comments
pub mod Once
