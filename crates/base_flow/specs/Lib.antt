pub mod Branches
pub mod Traps
pub mod SystemCall
pub mod Tile
pub mod Laws
pub mod Prelude
