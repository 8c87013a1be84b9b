pub mod Bits
pub mod Flags
pub mod Told
pub mod SumRows
pub mod ShiftRows
pub mod Fits
pub mod Meanings
pub mod Choices
