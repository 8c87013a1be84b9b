pub mod Values
pub mod Shown
pub mod Calls
pub mod Steps
pub mod Prelude
