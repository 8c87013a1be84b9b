pub mod Answers
pub mod Stepping
pub mod Attending
pub mod Guests
pub mod Hosts
pub mod Prelude
