-- What the proofs of this crate share.
pub mod Once
pub mod Reserved
pub mod Digits
pub mod Decimals
pub mod Calendar
pub mod Clocks
pub mod Words
