pub mod Lookup
pub mod Written
pub mod Addresses
pub mod Changes
