pub mod Without
pub mod Chosen
pub mod Tight
pub mod Learned
pub mod Models
pub mod Turns
pub mod Reaching
