pub mod Starts
pub mod Runs
pub mod Rules
pub mod Terms
