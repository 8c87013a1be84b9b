pub mod Arcs
pub mod Least
pub mod Choice
pub mod Reach
pub mod Forward
pub mod Solution
pub mod Prelude
