pub mod BitSums
pub mod Rooms
pub mod MaskBits
pub mod SignedParts
pub mod Later
