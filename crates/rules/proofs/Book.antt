-- The session book: what fixes the weekday of every day; which counter a session goes under, one and only one; that a taking has one
-- outcome; and the counters after any list of takings.
pub mod Calendar
pub mod Counters
pub mod Counting
pub mod Takings
pub mod Histories
