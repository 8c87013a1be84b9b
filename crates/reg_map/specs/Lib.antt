pub mod Home
pub mod Place
pub mod Spelled
pub mod Words
pub mod Relocated
pub mod Moves
pub mod Representation
pub mod Prelude
