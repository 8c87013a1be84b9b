pub mod Running
pub mod Stored
pub mod Shown
pub mod Loaded
pub mod Lined
