pub mod Addresses
pub mod Loads
pub mod Stores
pub mod Multiple
pub mod Tile
pub mod Laws
