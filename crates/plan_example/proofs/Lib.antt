pub mod Words
pub mod Window
pub mod Context
pub mod Blocks
pub mod Whole
