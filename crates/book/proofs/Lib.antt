-- What the proofs of this crate share: the weekday by arithmetic; the walk that finds START_TIME; the counter of a session; the answers; and
-- that there is no second outcome.
pub mod Weekdays
pub mod Walk
pub mod Sessions
pub mod Answers
pub mod Once
