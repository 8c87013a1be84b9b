pub mod Built
pub mod Decoded
pub mod Places
pub mod PlacesOf
pub mod Leap
pub mod Code
pub mod Layout
pub mod Prelude
