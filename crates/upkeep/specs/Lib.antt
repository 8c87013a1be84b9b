pub mod Steps
pub mod Loaded
pub mod Written
