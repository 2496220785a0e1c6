-- The rules, in the order of document 01: bytes; elements, their words and what words stand for; statements and values; the table; what
-- comes back from a reading; proper tables, what they mean, and the label that is written; what is asked of a table. Then, of document 02,
-- labels that differ in layout alone; the weekday of a day, and the session book; the modes; and examples. A mode of reading is called `m`
-- throughout. Callers have one, `base`: there a case that asks for a flag does not arise.
pub mod Bytes
pub mod Data
pub mod Values
pub mod Words
pub mod Elements
pub mod Grammar
pub mod Faults
pub mod Table
pub mod Reading
pub mod Proper
pub mod Meaning
pub mod Written
pub mod Writing
pub mod Asked
pub mod SameElements
pub mod Calendar
pub mod Book
pub mod Modes
pub mod Examples
