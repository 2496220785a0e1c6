-- What the proofs of this crate share.
pub mod Writing
pub mod Encoding
pub mod Octets
pub mod Decoding
pub mod Once
pub mod EachWay
