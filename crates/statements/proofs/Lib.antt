-- What the proofs of this crate share.
pub mod Opened
pub mod Turns
pub mod Codes
pub mod Rooms
pub mod Running
pub mod Answers
pub mod Once
