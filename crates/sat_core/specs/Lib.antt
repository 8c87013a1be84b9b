pub mod Lessons
pub mod Verdicts
pub mod Decisions
pub mod Searching
pub mod Prelude
