pub mod Inputs
pub mod Choices
pub mod Pairs
