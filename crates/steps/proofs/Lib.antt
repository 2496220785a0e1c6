-- What the proofs of this crate share.
pub mod Offers
pub mod Ways
pub mod Meeting
pub mod Starts
pub mod Closings
pub mod Once
