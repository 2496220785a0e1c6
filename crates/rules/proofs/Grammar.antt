-- The grammar of statements: the machine that steps over elements is equal to the grammar both ways; viable beginnings, codes, uniqueness; wider modes;
-- that a step does not look at places; and that elements are a label in one way.
pub mod Each
pub mod Rest
pub mod Sound
pub mod Run
pub mod Complete
pub mod Theorems
pub mod Wider
pub mod AnySpan
pub mod OneWay
mod Cases
