-- What the proofs of this crate share.
pub mod Laws
pub mod Copies
pub mod Reassembly
pub mod Once
