pub mod BranchTiles
pub mod TrapTiles
pub mod SystemCall
pub mod Tiles
pub mod Room
