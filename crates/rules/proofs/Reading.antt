-- The reading of a label: a function from bytes to the outcome, equal to the rules both ways; the checked examples; bytes beyond END; other modes;
-- where each row comes from; the first fault, said of labels; the comma between the rows of a sequence of sequences; that a label follows the rules in
-- exactly one way or not at all; and that layout means nothing.
pub mod Reader
pub mod Examples
pub mod Outcomes
pub mod OneWay
pub mod EndWord
pub mod Alike
pub mod Modes
pub mod FromElements
pub mod Stretches
pub mod Behind
pub mod Known
pub mod Completion
pub mod Stays
pub mod Beyond
pub mod FirstFault
pub mod RowsApart
pub mod StepTwice
pub mod ElementTwice
pub mod SameElements
pub mod Listing
pub mod ListedOnce
pub mod ListedBytes
pub mod AlikeOnce
pub mod RelaidExample
