pub mod Values
pub mod Parts
pub mod Terms
pub mod Undefined
