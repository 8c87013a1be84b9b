pub mod Parts
pub mod Roundtrip
pub mod Spelt
pub mod Readings
pub mod Lengths
