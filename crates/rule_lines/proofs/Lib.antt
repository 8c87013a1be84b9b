pub mod Registers
pub mod Fits
pub mod Laid
pub mod Memory
pub mod Reading
pub mod Putting
pub mod Answers
pub mod Running
pub mod Whole
pub mod Lined
mod Parameters
