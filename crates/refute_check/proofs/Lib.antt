pub mod Models
pub mod Steps
mod Renamed
