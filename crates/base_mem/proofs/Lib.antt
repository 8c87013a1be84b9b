pub mod Accesses
pub mod AccessTiles
pub mod Many
pub mod RegisterLoops
pub mod Tiles
pub mod Straight
