pub mod Lines
pub mod Words
pub mod Ops
pub mod Listing
