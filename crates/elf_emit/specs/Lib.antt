pub mod File
pub mod Loaded
pub mod Translation
pub mod Parts
pub mod Prelude
