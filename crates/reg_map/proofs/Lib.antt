pub mod Slots
pub mod Moving
pub mod Homes
