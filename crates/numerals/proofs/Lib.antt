-- What the proofs of this crate share.
pub mod Digits
pub mod RealForms
pub mod Moments
