-- What the proofs of this crate share.
pub mod Depth
pub mod Nesting
pub mod Bounded
pub mod Passing
pub mod Rooms
pub mod Once
