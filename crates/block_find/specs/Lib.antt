pub mod Branches
pub mod Blocks
pub mod Marks
pub mod Laws
pub mod Prelude
