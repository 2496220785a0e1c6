-- The written label: its pieces are the elements of a label, its words read back as what they print, its bytes cut into those elements, and its table has
-- the meaning that was written, with the marks of what is written. Reassembly by the rules is a function, which changes nothing the second time. What two calls promise together, that two
-- labels mean the same exactly where their written bytes are equal, and the examples of the calls.
pub mod Folds
pub mod Texts
pub mod Reassembly
pub mod Marks
pub mod GivenMoments
pub mod Pieces
pub mod Place
pub mod Aside
pub mod Writing
pub mod Clean
pub mod MarksWritten
pub mod Spans
pub mod PrintedNumbers
pub mod PrintedReals
pub mod Reals
pub mod PrintedMoments
pub mod Names
pub mod WordBytes
pub mod Spelling
pub mod RowByRow
pub mod RoundTrip
pub mod Outcome
pub mod Calls
pub mod CallExamples
mod Examples
pub mod SameMeaning
