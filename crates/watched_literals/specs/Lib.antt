pub mod Propagation
pub mod Trails
pub mod Literals
pub mod Watches
pub mod Propagators
pub mod Levels
pub mod Numbers
pub mod Prelude
