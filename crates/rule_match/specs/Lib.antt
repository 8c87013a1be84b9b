pub mod Bindings
pub mod Matching
pub mod SlotNumbers
