pub mod Digits
pub mod Bits
pub mod Fields
pub mod Lists
pub mod Chosen
pub mod Shapes
pub mod Kept
pub mod Changes
mod Numbers
mod Accesses
mod Same
pub mod Depends
pub mod Agreement
